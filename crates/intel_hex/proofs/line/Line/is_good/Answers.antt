-- `intel_hex::line::Line::is_good` meets its contract: what is left to test, by the record's type. Assumes nothing.
use Rattle.intel_hex.proofs.Good.{good_data, good_end, good_upper, good_start, good_none}
use Rattle.intel_hex.proofs.Records.{told}
use Rattle.intel_hex.proofs.line.Line.is_good.Goals as goal

pub returns-in-Some-Data : goal.returns-in-Some-Data
returns-in-Some-Data c =
    let l = c.args.self.now in
    let e = told _ _ (rw c.in-Some-Data.field-0-is at c.in-Some-Data.ensures) in
    rw (c.is_inside.ensures, c.address.ensures.0, c.count.ensures) (good_data l.text.now l.framed c.args.len c.args.upper e)

pub returns-in-Some-End : goal.returns-in-Some-End
returns-in-Some-End c =
    let l = c.args.self.now in
    let e = told _ _ (rw c.in-Some-End.field-0-is at c.in-Some-End.ensures) in
    rw c.is_fixed.ensures (good_end l.text.now l.framed c.args.len c.args.upper e)

pub returns-in-Some-UpperAddress : goal.returns-in-Some-UpperAddress
returns-in-Some-UpperAddress c =
    let l = c.args.self.now in
    let e = told _ _ (rw c.in-Some-UpperAddress.field-0-is at c.in-Some-UpperAddress.ensures) in
    rw c.is_fixed-in-Some-UpperAddress.ensures (good_upper l.text.now l.framed c.args.len c.args.upper e)

pub returns-in-Some-StartAddress : goal.returns-in-Some-StartAddress
returns-in-Some-StartAddress c =
    let l = c.args.self.now in
    let e = told _ _ (rw c.in-Some-StartAddress.field-0-is at c.in-Some-StartAddress.ensures) in
    rw c.is_fixed-in-Some-StartAddress.ensures (good_start l.text.now l.framed c.args.len c.args.upper e)

pub returns-in-None : goal.returns-in-None
returns-in-None c =
    let l = c.args.self.now in
    good_none l.text.now l.framed c.args.len c.args.upper (told _ _ c.in-None.ensures)
