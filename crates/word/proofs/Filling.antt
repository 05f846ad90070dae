-- The bits that an arithmetic shift brings in, over the number of bits k: it gives a number of k bits, and rounds the signed number down.
-- Assumes nothing.
use Rattle.std.proofs.Common.{◌≡◌, ℕ, suc, ◌+◌, ◌-◌, ◌*◌, ◌/◌, ◌%◌, ◌^◌, ◌<◌, ◌≤◌, negsuc, ap, add-zero, mul-le-mul_right, mod-lt, mul_comm, one-mul, div-add-mod', zero-mul, div-one, arith, pow_pos, pow_mono, shr_lt, le-ltb, lt-ltb}
use native.Mathlib.Nat.{mul-sub}
use lib.Arith.{digits_div}
use lib.Pow.{ones_split, ones_lt, high, shr_le}
use lib.Signed.{shr_z}
use Rattle.word.specs.Shift.{shifted_arithmetic}
use Rattle.word.specs.Sign.{signed_of}
use Rattle.word.proofs.Either.{either}
use Rattle.word.proofs.Halves.{half, top_clear, top_set}

-- the top bit is clear: zeros come in
pub fill_clear : (k a n : ℕ) → a < 2 ^ (k - 1) → shifted_arithmetic k a n ≡ a / 2 ^ n
fill_clear k a n h = rw (top_clear k a h, zero-mul, add-zero)

-- the top bit is set: ones come in
pub fill_set : (k a n : ℕ) → 0 < k → 2 ^ (k - 1) ≤ a → a < 2 ^ k → shifted_arithmetic k a n ≡ a / 2 ^ n + (2 ^ k - 2 ^ (k - n))
fill_set k a n p h l = rw (top_set k a p h l, one-mul)

module _ (k n : ℕ) (s : n ≤ k) where
  ones_parted : 2 ^ k - 1 ≡ (2 ^ (k - n) - 1) * 2 ^ n + (2 ^ n - 1)
  ones_parted =
      let e : k ≡ k - n + n = omega arith in
      rw (← e) at (ones_split (k - n) n)

  -- k ones, shifted right by n, are k − n ones
  pub ones_shifted : (2 ^ k - 1) / 2 ^ n ≡ 2 ^ (k - n) - 1
  ones_shifted = rw ones_parted (high (2 ^ (k - n) - 1) n (ones_lt n))

  pub shifted_lt : (a : ℕ) → a < 2 ^ k → a / 2 ^ n < 2 ^ (k - n)
  shifted_lt a l =
      let e : k ≡ k - n + n = omega arith in
      shr_lt (k - n) n (rw e at l)

  pub fill_below : (a : ℕ) → 0 < k → a < 2 ^ k → shifted_arithmetic k a n < 2 ^ k
  fill_below a p l =
      let b : a / 2 ^ n < 2 ^ (k - n) = shifted_lt a l in
      let d : k - n ≤ k = omega arith in
      let m : 2 ^ (k - n) ≤ 2 ^ k = pow_mono d in
      either a (2 ^ (k - 1)) (λ h. rw (fill_clear k a n h) (omega (arith, shr_le a n)))
      (λ h. rw (fill_set k a n p h l) (omega arith))

  -- what is left of the ones, shifted, is what is left of the shifted ones
  pub complement_shifted : (a : ℕ) → a < 2 ^ k → (2 ^ k - suc a) / 2 ^ n ≡ 2 ^ (k - n) - 1 - a / 2 ^ n
  complement_shifted a l =
      let b : a / 2 ^ n < 2 ^ (k - n) = shifted_lt a l in
      let r : a % 2 ^ n < 2 ^ n = mod-lt a (pow_pos n) in
      let t : a / 2 ^ n * 2 ^ n + a % 2 ^ n ≡ a = div-add-mod' a (2 ^ n) in
      let o : 2 ^ k - 1 ≡ (2 ^ (k - n) - 1) * 2 ^ n + (2 ^ n - 1) = ones_parted in
      let c : (2 ^ (k - n) - 1 - a / 2 ^ n) * 2 ^ n ≡ (2 ^ (k - n) - 1) * 2 ^ n - a / 2 ^ n * 2 ^ n =
      rw (mul_comm _ (2 ^ n), mul_comm (2 ^ (k - n) - 1) (2 ^ n), mul_comm (a / 2 ^ n) (2 ^ n)) (mul-sub _ _ _) in
      let m : a / 2 ^ n * 2 ^ n ≤ (2 ^ (k - n) - 1) * 2 ^ n = mul-le-mul_right (2 ^ n) (omega arith) in
      let d : 2 ^ k - suc a ≡ (2 ^ (k - n) - 1 - a / 2 ^ n) * 2 ^ n + (2 ^ n - 1 - a % 2 ^ n) = omega arith in
      let u : 2 ^ n - 1 - a % 2 ^ n < 2 ^ n = omega arith in
      rw d (digits_div (2 ^ (k - n) - 1 - a / 2 ^ n) u)

  -- a set top bit stays set
  fill_top : (a : ℕ) → 0 < k → 2 ^ (k - 1) ≤ a → 2 ^ (k - 1) ≤ a / 2 ^ n + (2 ^ k - 2 ^ (k - n))
  fill_top a p h =
      let e : 2 ^ k ≡ 2 ^ (k - 1) * 2 = half k p in
      either n 1
      (λ z.
      let i : n ≡ 0 = omega arith in
      let c : a / 2 ^ n ≡ a = rw i (div-one a) in
      omega arith)
      (λ z.
      let i : k - n ≤ k - 1 = omega arith in
      let m : 2 ^ (k - n) ≤ 2 ^ (k - 1) = pow_mono i in
      omega arith)

  -- the signed number is divided by 2 ^ n and rounded down: the library's own shift
  pub fill_signed : (a : ℕ) → 0 < k → a < 2 ^ k → signed_of k (shifted_arithmetic k a n) ≡ shr_z (signed_of k a) (2 ^ n)
  unfolding signed_of
  fill_signed a p l =
      let b : a / 2 ^ n < 2 ^ (k - n) = shifted_lt a l in
      let d : k - n ≤ k = omega arith in
      let m : 2 ^ (k - n) ≤ 2 ^ k = pow_mono d in
      either a (2 ^ (k - 1))
      (λ h.
      let c : a / 2 ^ n ≤ a = shr_le a n in
      let f : a / 2 ^ n < 2 ^ (k - 1) = omega arith in
      rw (fill_clear k a n h, lt-ltb a (2 ^ (k - 1)) h, lt-ltb (a / 2 ^ n) (2 ^ (k - 1)) f))
      (λ h.
      rw (
        fill_set k a n p h l,
        le-ltb a (2 ^ (k - 1)) h,
        le-ltb (a / 2 ^ n + (2 ^ k - 2 ^ (k - n))) (2 ^ (k - 1)) (fill_top a p h),
        complement_shifted a l,
      )
      (ap negsuc (omega arith)))
