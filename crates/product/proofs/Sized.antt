-- A quotient and a remainder at both sizes: the word form is the one of 64 bits, of the low 32 with their sign or without.
-- Assumes nothing.
use Rattle.std.proofs.Common.{◌≡◌, ℕ, ℤ, pos, Bool, true, false, ◌%◌, ◌^◌, ◌<◌, inl, inr, refl, sym, ap, ◌∙◌, mod-eq_of_lt, arith}
use native.Mathlib.Nat.{mod-mod}
use borrow.Author.Tests.{eq-eqb, ne_eqb}
use lib.IntN.{negsuc}
use Rattle.word.specs.Choice.{pick}
use Rattle.word.specs.Sign.{sign_extend_of}
use Rattle.word.specs.Size.{IsSize, sized}
use Rattle.word.proofs.Either.{either}
use Rattle.word.proofs.Extension.{extend_low, extend_keeps, extend_signed}
use Rattle.word.proofs.Machine.{extend_all}
use Rattle.product.specs.Integer.{integer_of, low_bits_of}
use Rattle.product.specs.Quotient.{quotient_of, remainder_of, quotient_word_of, remainder_word_of}
use Rattle.product.proofs.Below.{quotient, remainder, below}

-- the low k bits, with their sign or without
abbrev pub operand_of : (s : Bool) (k a : ℕ) → ℕ
operand_of s k a = pick s (sign_extend_of k a) (a % 2 ^ k)

operand_all : (s : Bool) (a : ℕ) → a < 2 ^ 64 → operand_of s 64 a ≡ a
operand_all true a l = extend_all a l
operand_all false a l = mod-eq_of_lt l

-- the word is read as the same integer
operand_read : (s : Bool) (a : ℕ) → integer_of s 64 (operand_of s 32 a) ≡ integer_of s 32 (a % 2 ^ 32)
operand_read true a = extend_signed 32 a (omega arith) (omega arith)
operand_read false a = refl

operand_low : (s : Bool) (a : ℕ) → operand_of s 32 a % 2 ^ 32 ≡ a % 2 ^ 32 % 2 ^ 32
operand_low true a = extend_keeps 32 a (omega arith) (omega arith) ∙ sym (mod-mod a (2 ^ 32))
operand_low false a = refl

operand_zero : (s : Bool) (b : ℕ) → b % 2 ^ 32 ≡ 0 → operand_of s 32 b ≡ 0
operand_zero true b e = omega arith
operand_zero false b e = e

operand_not_zero : (s : Bool) (b : ℕ) → 0 < b % 2 ^ 32 → operand_of s 32 b ≡ 0 → ⊥
operand_not_zero true b p e = omega arith
operand_not_zero false b p e = omega arith

-- the low 32 of the low 64 bits of an integer
narrow : (z : ℤ) → low_bits_of 64 z % 2 ^ 32 ≡ low_bits_of 32 z % 2 ^ 32
narrow (pos n) = omega arith
narrow (negsuc n) = omega arith

-- numbers of the same low 32 bits have one sign extension
pub same_low : (x y : ℕ) → x % 2 ^ 32 ≡ y % 2 ^ 32 → sign_extend_of 32 x ≡ sign_extend_of 32 y
same_low x y e = sym (extend_low 32 x (omega arith)) ∙ ap (sign_extend_of 32) e ∙ extend_low 32 y (omega arith)

module _ (s : Bool) (a b : ℕ) where
  quotient_low :
      quotient_of s 64 (operand_of s 32 a) (operand_of s 32 b) % 2 ^ 32 ≡ quotient_of s 32 (a % 2 ^ 32) (b % 2 ^ 32) % 2 ^ 32
  unfolding quotient_of
  quotient_low =
      either 0 (b % 2 ^ 32)
      (λ p.
      rw (
        ne_eqb (operand_of s 32 b) 0 (operand_not_zero s b p),
        ne_eqb (b % 2 ^ 32) 0 (λ e. omega arith),
        operand_read s a,
        operand_read s b,
      )
      (narrow _))
      (λ p.
      let e : b % 2 ^ 32 ≡ 0 = omega arith in
      rw (eq-eqb (operand_of s 32 b) 0 (operand_zero s b e), eq-eqb (b % 2 ^ 32) 0 e) refl)

  remainder_low :
      remainder_of s 64 (operand_of s 32 a) (operand_of s 32 b) % 2 ^ 32 ≡ remainder_of s 32 (a % 2 ^ 32) (b % 2 ^ 32) % 2 ^ 32
  unfolding remainder_of
  remainder_low =
      either 0 (b % 2 ^ 32)
      (λ p.
      rw (
        ne_eqb (operand_of s 32 b) 0 (operand_not_zero s b p),
        ne_eqb (b % 2 ^ 32) 0 (λ e. omega arith),
        operand_read s a,
        operand_read s b,
      )
      (narrow _))
      (λ p.
      let e : b % 2 ^ 32 ≡ 0 = omega arith in
      rw (eq-eqb (operand_of s 32 b) 0 (operand_zero s b e), eq-eqb (b % 2 ^ 32) 0 e) (operand_low s a))

  pub quotient_at :
      (k : ℕ) → IsSize k → a < 2 ^ 64 → b < 2 ^ 64
      → sign_extend_of k (quotient_of s 64 (operand_of s k a) (operand_of s k b)) ≡ sized k (quotient_of s 64 a b) (quotient_word_of s a b)
  quotient_at k (inl e) l m =
      rw (e, operand_all s a l, operand_all s b m) (extend_all _ (below (quotient s a b)))
  quotient_at k (inr e) l m = rw e (same_low _ _ quotient_low)

  pub remainder_at :
      (k : ℕ) → IsSize k → a < 2 ^ 64 → b < 2 ^ 64
      → sign_extend_of k (remainder_of s 64 (operand_of s k a) (operand_of s k b)) ≡ sized k (remainder_of s 64 a b) (remainder_word_of s a b)
  remainder_at k (inl e) l m =
      rw (e, operand_all s a l, operand_all s b m) (extend_all _ (below (remainder s a b l)))
  remainder_at k (inr e) l m = rw e (same_low _ _ remainder_low)
