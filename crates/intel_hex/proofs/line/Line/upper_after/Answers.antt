-- `intel_hex::line::Line::upper_after` meets its contract: a type 04 has two data bytes. Assumes nothing.
use mathlib.Core.Path.{sym, ◌∙◌}
use native.Mathlib.Omega.{arith}
use borrow.Author.Tests.{eqb-true, eqb-false}
use Rattle.intel_hex.proofs.Good.{room_4, upper_told, upper_kept}
use Rattle.intel_hex.proofs.line.Line.upper_after.Goals as goal

pub half-requires : goal.half-requires
half-requires c =
    let n = room_4 c.args.self.now.text.now c.requires (eqb-true _ 4 (sym c.is.ensures ∙ c.if-is.true)) in
    omega arith

pub returns-then-is : goal.returns-then-is
returns-then-is c =
    c.half.ensures ∙ upper_told c.args.self.now.text.now c.args.upper (eqb-true _ 4 (sym c.is.ensures ∙ c.if-is.true))

pub returns : goal.returns
returns c = upper_kept c.args.self.now.text.now c.args.upper (eqb-false _ 4 (sym c.is.ensures ∙ c.if-is.false))
