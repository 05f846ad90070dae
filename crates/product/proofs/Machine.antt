-- The library's operations on signed numbers of 64 and 128 bits are those of specs/.
-- Assumes nothing.
use Rattle.std.proofs.Common.{◌≡◌, ℕ, zero, suc, ℤ, pos, Bool, ◌-◌, ◌/◌, ◌%◌, ◌^◌, ◌<◌, ◌≤◌, refl, sym, ap, ◌∙◌, mod-lt, mod-eq_of_lt, div-le_self, arith, pow_pos}
use Rattle.std.proofs.lemmas.Int.{of_z-to_z, wrapping_mul_is, fits_signed_from_abs}
use Rattle.std.specs.Int.{int_rem_euclid, int_wrap, int_wrapping_mul}
use Rattle.std.specs.Int.RustNames.{FitsSigned, unsigned_abs}
use native.Mathlib.Nat.{mod-le}
use lib.IntN.{negsuc, nat_abs, neg_ℤ, ◌*ℤ◌}
use lib.Pow.{field}
use lib.Signed.{quot_z, rem_z, shr_z}
use mir.Syntax.{w64, w128}
use mir.Val.{of_z, to_z}
use Rattle.word.proofs.Filling.{complement_shifted}
use Rattle.product.specs.Integer.{integer_of, low_bits_of}
use Rattle.product.proofs.Reading.{Reads, plain, below, reads}

abs_minus : (m : ℕ) → nat_abs (neg_ℤ (pos m)) ≡ m
abs_minus zero = refl
abs_minus (suc m) = refl

-- a quotient and a remainder are no larger than the dividend
pub quotient_small : (x y : ℤ) → nat_abs (quot_z x y) ≤ nat_abs x
quotient_small (pos a) (pos b) = div-le_self a b
quotient_small (pos a) (negsuc b) = rw (abs_minus (a / suc b)) (div-le_self a (suc b))
quotient_small (negsuc a) (pos b) = rw (abs_minus (suc a / b)) (div-le_self (suc a) b)
quotient_small (negsuc a) (negsuc b) = div-le_self (suc a) (suc b)

pub remainder_small : (x y : ℤ) → nat_abs (rem_z x y) ≤ nat_abs x
remainder_small (pos a) y = mod-le a (nat_abs y)
remainder_small (negsuc a) y = rw (abs_minus (suc a % nat_abs y)) (mod-le (suc a) (nat_abs y))

-- a word's integer is below 2 ^ 64 in size
small : {a : ℕ} {z : ℤ} → Reads 64 a z → a < 2 ^ 64 → nat_abs z < 2 ^ 64
small plain l = l
small (below n p e) l = omega arith

pub number_small : (s : Bool) (a : ℕ) → a < 2 ^ 64 → nat_abs (integer_of s 64 a) < 2 ^ 64
number_small s a l = small (reads s 64 a l) l

-- such an integer, cast to a word
low_word : (z : ℤ) → nat_abs z < 2 ^ 64 → of_z w64 z ≡ low_bits_of 64 z
low_word (pos n) h = sym (mod-eq_of_lt h)
low_word (negsuc n) h = omega arith

word_small : (z : ℤ) → nat_abs z < 2 ^ 64 → of_z w64 z < 2 ^ 64
word_small (pos n) h = h
word_small (negsuc n) h = omega arith

pub cast_low : (z : ℤ) → nat_abs z < 2 ^ 64 → of_z w64 (to_z w64 (of_z w64 z)) ≡ low_bits_of 64 z
cast_low z h = of_z-to_z w64 (of_z w64 z) (word_small z h) ∙ low_word z h

-- bits 127:64 of an integer
one_less : (a b : ℕ) → a - suc b ≡ a - 1 - b
one_less a b = omega arith

bits_above : (z : ℤ) → low_bits_of 128 z / 2 ^ 64 ≡ low_bits_of 64 (shr_z z (2 ^ 64))
bits_above (pos n) = field n 64 64
bits_above (negsuc n) =
    complement_shifted 128 64 (omega arith) (n % 2 ^ 128) (mod-lt n (pow_pos 128)) ∙ ap (λ y. 2 ^ 64 - 1 - y) (field n 64 64)
    ∙ sym (one_less (2 ^ 64) (n / 2 ^ 64 % 2 ^ 64))

-- the low 128 bits of an integer are what wrapping at 128 bits leaves
wrapped : (z : ℤ) → of_z w128 (to_z w128 (unsigned_abs (int_rem_euclid z (pos (2 ^ 128))))) ≡ low_bits_of 128 z
wrapped (pos n) = of_z-to_z w128 (n % 2 ^ 128) (mod-lt n (pow_pos 128))
wrapped (negsuc n) =
    let l : n % 2 ^ 128 < 2 ^ 128 = mod-lt n (pow_pos 128) in
    of_z-to_z w128 (2 ^ 128 - 1 - n % 2 ^ 128) (less_one (2 ^ 128) (n % 2 ^ 128) (pow_pos 128)) ∙ sym (one_less (2 ^ 128) (n % 2 ^ 128))
  where
    less_one : (a b : ℕ) → 0 < a → a - 1 - b < a
    less_one a b p = omega arith

fits : (z : ℤ) → nat_abs z < 2 ^ 64 → FitsSigned w128 z
fits z h = fits_signed_from_abs w128 z (omega (arith, h))

pub number_fits : (s : Bool) (a : ℕ) → a < 2 ^ 64 → FitsSigned w128 (integer_of s 64 a)
number_fits s a l = fits (integer_of s 64 a) (number_small s a l)

pub upper_cast :
    (x y : ℤ) → nat_abs x < 2 ^ 64 → nat_abs y < 2 ^ 64
    → of_z w128 (int_wrapping_mul w128 x y) / 2 ^ 64 ≡ low_bits_of 64 (shr_z (x *ℤ y) (2 ^ 64))
unfolding int_wrap
upper_cast x y h g =
    ap (λ z. of_z w128 z / 2 ^ 64) (wrapping_mul_is w128 x y (fits x h) (fits y g)) ∙ ap (λ n. n / 2 ^ 64) (wrapped (x *ℤ y))
    ∙ bits_above (x *ℤ y)
