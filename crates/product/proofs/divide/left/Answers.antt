-- `product::divide::left` meets its contract: what the manual says where b is 0, else the remainder of the sizes, with the dividend's sign.
-- Assumes nothing.
use Rattle.std.proofs.Common.{◌∙◌, sym, ap, ap₂, of_z, to_z, lt_of_le_of_lt, mod-eq_of_lt}
use native.Mathlib.Nat.{mod-le}
use borrow.Author.Tests.{eq-eqb, ne_eqb}
use lib.Signed.{rem_z}
use mir.Syntax.{w64}
use Rattle.word.proofs.Machine.{cast_held}
use Rattle.product.specs.Integer.{low_bits_of}
use Rattle.product.specs.Quotient.{remainder_of}
use Rattle.product.proofs.Sizes.{signed_remainder}
use Rattle.product.proofs.divide.left.Goals as goal

pub returns-then-b-eq0 : goal.returns-then-b-eq0
unfolding remainder_of
returns-then-b-eq0 c = rw (eq-eqb _ _ c.if-b-eq0.true)

pub returns-then-signed : goal.returns-then-signed
unfolding remainder_of
returns-then-signed c =
    let a = c.args in
    let x = to_z w64 (of_z w64 c.cast_signed-m.result) in
    let y = to_z w64 (of_z w64 c.cast_signed-n.result) in
    c.signed_word.ensures
    ∙ ap (low_bits_of 64)
    (signed_remainder x y _ _ _ c.is_negative.ensures c.unsigned_abs.ensures.value c.unsigned_abs-then-signed.ensures.value
    ∙ ap₂ (λ m n. rem_z (to_z w64 (of_z w64 m)) (to_z w64 (of_z w64 n))) c.cast_signed-m.ensures c.cast_signed-n.ensures
    ∙ ap₂ (λ m n. rem_z m n) (cast_held a.a c.ranges.a.fits) (cast_held a.b c.ranges.b.fits))
    ∙ rw (ne_eqb _ _ c.if-b-eq0.false, c.if-signed.true)

pub returns : goal.returns
unfolding remainder_of
returns c = rw (ne_eqb _ _ c.if-b-eq0.false, c.if-signed.false)
    (sym (mod-eq_of_lt (lt_of_le_of_lt (mod-le c.args.a c.args.b) c.ranges.a.fits)))
