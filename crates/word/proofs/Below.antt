-- A result is a word: what the operations of this crate give is below 2 ^ 64, said once for all of them.
-- Assumes nothing.
use Rattle.std.proofs.Common.{◌≡◌, ℕ, ◌%◌, ◌^◌, ◌<◌, ◌≤◌, mod-lt, mod-eq_of_lt, arith}
use lib.Bits.{bit_and, bit_or, bit_xor, and_lt, or_lt, xor_lt}
use lib.Pow.{shr_le}
use Rattle.word.specs.Shift.{left_of, right_of, arithmetic_of}
use Rattle.word.specs.Sign.{sign_extend_of}
use Rattle.word.specs.Sum.{sum_of, difference_of}
use Rattle.word.proofs.Extension.{extend_below}
use Rattle.word.proofs.Filling.{fill_below}

-- the operations. A word form and an immediate are sign extensions.
pub data Result : ℕ → Type 0 where
  sum : (a b : ℕ) → Result (sum_of a b)
  difference : (a b : ℕ) → Result (difference_of a b)
  extended : (k v : ℕ) → 0 < k → k ≤ 64 → Result (sign_extend_of k v)
  left : (a n : ℕ) → Result (left_of a n)
  right : (a n : ℕ) → a < 2 ^ 64 → Result (right_of a n)
  arithmetic : (a n : ℕ) → a < 2 ^ 64 → Result (arithmetic_of a n)
  and : (a b : ℕ) → a < 2 ^ 64 → b < 2 ^ 64 → Result (bit_and a b)
  or : (a b : ℕ) → a < 2 ^ 64 → b < 2 ^ 64 → Result (bit_or a b)
  xor : (a b : ℕ) → a < 2 ^ 64 → b < 2 ^ 64 → Result (bit_xor a b)

pub below : {r : ℕ} → Result r → r < 2 ^ 64
below (sum a b) = omega arith
below (difference a b) = omega arith
below (extended k v p l) = extend_below k v p l
below (left a n) = mod-lt _ (omega arith)
below (right a n p) = omega (arith, shr_le a (n % 64))
below (arithmetic a n p) = fill_below 64 (n % 64) (omega arith) a (omega arith) p
below (and a b p q) = and_lt 64 a b p q
below (or a b p q) = or_lt 64 a b p q
below (xor a b p q) = xor_lt 64 a b p q

-- what is below stays as it is where a register truncates it
pub kept : {r : ℕ} → r < 2 ^ 64 → r % 2 ^ 64 ≡ r
kept p = mod-eq_of_lt p
