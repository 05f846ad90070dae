-- A number of k bits and its top bit, over k.
-- Assumes nothing.
use Rattle.std.proofs.Common.{◌≡◌, ℕ, zero, suc, ◌-◌, ◌*◌, ◌/◌, ◌^◌, ◌<◌, ◌≤◌, pow-suc, arith}
use native.Mathlib.Nat.{div-eq_of_lt, div-eq_of_lt-le}

-- k bits are twice as many numbers as k − 1 bits
pub half : (k : ℕ) → 0 < k → 2 ^ k ≡ 2 ^ (k - 1) * 2
half zero h = absurd (omega arith)
half (suc j) h =
    let e : suc j - 1 ≡ j = omega arith in
    rw e (pow-suc 2 j)

-- below the half the top bit is clear
pub top_clear : (k a : ℕ) → a < 2 ^ (k - 1) → a / 2 ^ (k - 1) ≡ 0
top_clear k a h = div-eq_of_lt h

-- from the half on it is set
pub top_set : (k a : ℕ) → 0 < k → 2 ^ (k - 1) ≤ a → a < 2 ^ k → a / 2 ^ (k - 1) ≡ 1
top_set k a p h l =
    let e : 2 ^ k ≡ 2 ^ (k - 1) * 2 = half k p in
    div-eq_of_lt-le (2 ^ (k - 1)) (omega arith) (omega arith)
