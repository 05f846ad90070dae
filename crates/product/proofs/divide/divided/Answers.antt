-- `product::divide::divided` meets its contract: what the manual says where b is 0, else the quotient of the sizes, with its sign.
-- Assumes nothing.
use Rattle.std.proofs.Common.{◌∙◌, sym, ap, ap₂, of_z, to_z, lt_of_le_of_lt, mod-eq_of_lt, div-le_self}
use borrow.Author.Tests.{eq-eqb, ne_eqb}
use lib.Signed.{quot_z}
use mir.Syntax.{w64}
use Rattle.word.proofs.Machine.{cast_held}
use Rattle.product.specs.Integer.{low_bits_of}
use Rattle.product.specs.Quotient.{quotient_of}
use Rattle.product.proofs.Sizes.{signed_quotient}
use Rattle.product.proofs.divide.divided.Goals as goal

pub returns-then-b-eq0 : goal.returns-then-b-eq0
unfolding quotient_of
returns-then-b-eq0 c = rw (eq-eqb _ _ c.if-b-eq0.true)

pub returns-then-signed : goal.returns-then-signed
unfolding quotient_of
returns-then-signed c =
    let a = c.args in
    let x = to_z w64 (of_z w64 c.cast_signed-m.result) in
    let y = to_z w64 (of_z w64 c.cast_signed-n.result) in
    c.signed_word.ensures
    ∙ ap (low_bits_of 64)
    (signed_quotient x y _ _ _ _ c.is_negative-minus.ensures c.is_negative-other.ensures c.unsigned_abs.ensures.value c.unsigned_abs-then-signed.ensures.value
    ∙ ap₂ (λ m n. quot_z (to_z w64 (of_z w64 m)) (to_z w64 (of_z w64 n))) c.cast_signed-m.ensures c.cast_signed-n.ensures
    ∙ ap₂ (λ m n. quot_z m n) (cast_held a.a c.ranges.a.fits) (cast_held a.b c.ranges.b.fits))
    ∙ rw (ne_eqb _ _ c.if-b-eq0.false, c.if-signed.true)

pub returns : goal.returns
unfolding quotient_of
returns c = rw (ne_eqb _ _ c.if-b-eq0.false, c.if-signed.false)
    (sym (mod-eq_of_lt (lt_of_le_of_lt (div-le_self c.args.a c.args.b) c.ranges.a.fits)))
