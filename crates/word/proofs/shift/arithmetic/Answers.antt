-- `word::shift::arithmetic` meets its contract at both sizes. Assumes nothing.
use Rattle.std.proofs.Common.{◌≡◌, ◌∙◌, ◌%◌, ◌^◌, ◌<◌, ◌≤◌, inl, inr, ℕ, ap, arith, of_z, to_z}
use mir.Syntax.{w64}
use lib.Signed.{shr_z}
use Rattle.word.specs.Shift.{shifted_arithmetic, arithmetic_of, arithmetic_word_of}
use Rattle.word.specs.Size.{IsSize, sized}
use Rattle.word.specs.Sign.{sign_extend_of}
use Rattle.word.proofs.Extension.{extend_below}
use Rattle.word.proofs.Machine.{shift_is, extend_all, extend_shifted}
use Rattle.word.proofs.shift.arithmetic.Goals as goal

at_size : (k a n : ℕ) → a < 2 ^ 64 → IsSize k → shifted_arithmetic 64 (sign_extend_of k a) (n % k) ≡ sized k (arithmetic_of a n) (arithmetic_word_of a n)
at_size k a n l (inl e) = rw e (ap (λ x. shifted_arithmetic 64 x (n % 64)) (extend_all a l))
at_size k a n l (inr e) = rw e (extend_shifted 32 a (n % 32) (omega arith) (omega arith) (omega arith))

by_size : (k a : ℕ) → IsSize k → sign_extend_of k a < 2 ^ 64
by_size k a (inl e) = rw e (extend_below 64 a (omega arith) (omega arith))
by_size k a (inr e) = rw e (extend_below 32 a (omega arith) (omega arith))

below : (k n : ℕ) → IsSize k → n % k ≤ 64
below k n (inl e) = rw e (omega arith)
below k n (inr e) = rw e (omega arith)

pub returns : goal.returns
returns g c =
    let k = g.row.BITS in
    let e = sign_extend_of k c.args.a in
    let n = c.args.n % k in
    c.cast_unsigned.ensures
    ∙ ap (λ z. of_z w64 (to_z w64 (of_z w64 (shr_z (to_z w64 (of_z w64 z)) (2 ^ n))))) (c.cast_signed.ensures ∙ ap (to_z w64) c.extend.ensures)
    ∙ shift_is e n (by_size k c.args.a c.requires) (below k c.args.n c.requires)
    ∙ at_size k c.args.a c.args.n c.ranges.a.fits c.requires
