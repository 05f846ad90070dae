-- `word::order::signed_less` meets its contract: the library's order is that of the signed numbers. Assumes nothing.
use Rattle.std.proofs.Common.{◌∙◌, sym, ap₂, of_z, to_z}
use lib.Signed.{lt_z}
use mir.Syntax.{w64}
use Rattle.word.proofs.Machine.{cast_held}
use Rattle.word.proofs.Orders.{signed_order}
use Rattle.word.proofs.order.signed_less.Goals as goal

pub returns : goal.returns
returns c =
    let a = c.args.a in
    let b = c.args.b in
    let p = c.ranges.a.fits in
    let q = c.ranges.b.fits in
    ap₂ (λ x y. lt_z (to_z w64 (of_z w64 x)) (to_z w64 (of_z w64 y))) c.cast_signed.ensures c.cast_signed-2.ensures
    ∙ ap₂ lt_z (cast_held a p) (cast_held b q)
    ∙ sym (signed_order a b p q)
