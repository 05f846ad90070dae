-- `intel_hex::line::Line::start_after` meets its contract: a type 05 has four data bytes. Assumes nothing.
use mathlib.Core.Path.{sym, ◌∙◌}
use native.Mathlib.Omega.{arith}
use borrow.Author.Tests.{eqb-true, eqb-false}
use Rattle.intel_hex.proofs.Good.{room_5, start_told, start_kept}
use Rattle.intel_hex.proofs.line.Line.start_after.Goals as goal

pub half-requires : goal.half-requires
half-requires c =
    let n = room_5 c.args.self.now.text.now c.requires (eqb-true _ 5 (sym c.is.ensures ∙ c.if-is.true)) in
    omega arith

pub half-requires-then-is : goal.half-requires-then-is
half-requires-then-is c =
    let n = room_5 c.args.self.now.text.now c.requires (eqb-true _ 5 (sym c.is.ensures ∙ c.if-is.true)) in
    omega arith

pub returns-then-is : goal.returns-then-is
returns-then-is c =
    rw (c.half-then-is.ensures, c.half.ensures)
    (start_told c.args.self.now.text.now c.args.start (eqb-true _ 5 (sym c.is.ensures ∙ c.if-is.true)))

pub returns : goal.returns
returns c = start_kept c.args.self.now.text.now c.args.start (eqb-false _ 5 (sym c.is.ensures ∙ c.if-is.false))
