-- Sums and differences that wrap: one undoes the other, and a word form sees only the low 32 bits.
-- Assumes nothing.
use Rattle.std.proofs.Common.{◌≡◌, ℕ, ◌+◌, ◌-◌, ◌%◌, ◌^◌, ◌<◌, sym, ap, ◌∙◌, arith}
use Rattle.word.specs.Sign.{sign_extend_of}
use Rattle.word.specs.Sum.{sum_of, difference_of, sum_word_of, difference_word_of}
use Rattle.word.proofs.Extension.{extend_low}

pub sum_of_difference : (a b : ℕ) → a < 2 ^ 64 → b < 2 ^ 64 → sum_of (difference_of a b) b ≡ a
sum_of_difference a b p q = omega arith

pub difference_of_sum : (a b : ℕ) → a < 2 ^ 64 → b < 2 ^ 64 → difference_of (sum_of a b) b ≡ a
difference_of_sum a b p q = omega arith

pub sum_assoc : (a b c : ℕ) → sum_of (sum_of a b) c ≡ sum_of a (sum_of b c)
sum_assoc a b c = omega arith

-- 32-bit numbers of which one is taken for the other
words : (x y : ℕ) → x % 2 ^ 32 ≡ y % 2 ^ 32 → sign_extend_of 32 x ≡ sign_extend_of 32 y
words x y e = sym (extend_low 32 x (omega arith)) ∙ ap (sign_extend_of 32) e ∙ extend_low 32 y (omega arith)

pub sum_word_lem : (a b : ℕ) → sum_word_of a b ≡ sign_extend_of 32 (a % 2 ^ 32 + b % 2 ^ 32)
sum_word_lem a b = words _ _ (omega arith)

pub difference_word_lem : (a b : ℕ) → b < 2 ^ 64 → difference_word_of a b ≡ sign_extend_of 32 (a % 2 ^ 32 + (2 ^ 32 - b % 2 ^ 32))
difference_word_lem a b p = words _ _ (omega arith)
