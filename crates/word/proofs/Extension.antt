-- Sign extension, over the number of bits k from 1 to 64: it keeps the low bits and the signed number.
-- Assumes nothing.
use Rattle.std.proofs.Common.{◌≡◌, ℕ, ◌+◌, ◌-◌, ◌*◌, ◌/◌, ◌%◌, ◌^◌, ◌<◌, ◌≤◌, negsuc, sym, ap, ◌∙◌, add-zero, mod-lt, mod-eq_of_lt, one-mul, zero-mul, arith, pow_pos, pow_mono, le-ltb, lt-ltb}
use native.Mathlib.Nat.{mod-mod, mod-eq-sub-mod, add-mod_right, add-mul-mod_self_right}
use lib.Pow.{field, high_ones}
use Rattle.word.specs.Sign.{sign_extend_of, signed_of}
use Rattle.word.proofs.Either.{either}
use Rattle.word.proofs.Halves.{half, top_clear, top_set}

-- bit k − 1 is the top bit of the low k bits
pub sign_bit : (k v : ℕ) → 0 < k → v / 2 ^ (k - 1) % 2 ≡ v % 2 ^ k / 2 ^ (k - 1)
sign_bit k v p =
    let e : 1 + (k - 1) ≡ k = omega arith in
    sym (rw e at (field v 1 (k - 1)))

-- only the low k bits count
pub extend_low : (k v : ℕ) → 0 < k → sign_extend_of k (v % 2 ^ k) ≡ sign_extend_of k v
extend_low k v p = rw (sign_bit k v p, sign_bit k (v % 2 ^ k) p, mod-mod)

-- k ones below 64 − k others
ones_above : (k : ℕ) → k ≤ 64 → 2 ^ 64 - 2 ^ k ≡ (2 ^ (64 - k) - 1) * 2 ^ k
ones_above k l =
    let e : 64 - k + k ≡ 64 = omega arith in
    rw e at (high_ones (64 - k) k)

-- what h was added to, modulo 2 ^ 64, where the sum is known
less_half : (a h r : ℕ) → a + h < 2 ^ 64 → r < 2 ^ 64 → (r + h) % 2 ^ 64 ≡ a + h → r ≡ a
less_half a h r l s e = omega arith

over_half : (a h r : ℕ) → h ≤ a → a < h * 2 → h * 2 ≤ 2 ^ 64 → r < 2 ^ 64 → (r + h) % 2 ^ 64 ≡ a - h → r ≡ a + (2 ^ 64 - h * 2)
over_half a h r g b l s e =
    either (r + h) (2 ^ 64)
    (λ f. let q : r + h ≡ a - h = sym (mod-eq_of_lt f) ∙ e in absurd (omega arith))
    (λ f.
    let i : r + h - 2 ^ 64 < 2 ^ 64 = omega arith in
    let q : r + h - 2 ^ 64 ≡ a - h = sym (mod-eq-sub-mod f ∙ mod-eq_of_lt i) ∙ e in
    omega arith)

module _ (k v : ℕ) (p : 0 < k) (l : k ≤ 64) where
  low : v % 2 ^ k < 2 ^ k
  low = mod-lt v (pow_pos k)

  -- where bit k − 1 is clear, the low bits are the result
  pub extend_clear : v % 2 ^ k < 2 ^ (k - 1) → sign_extend_of k v ≡ v % 2 ^ k
  extend_clear h = rw (sign_bit k v p, top_clear k (v % 2 ^ k) h, zero-mul, add-zero)

  -- where it is set, all the bits above are
  pub extend_set : 2 ^ (k - 1) ≤ v % 2 ^ k → sign_extend_of k v ≡ v % 2 ^ k + (2 ^ 64 - 2 ^ k)
  extend_set h = rw (sign_bit k v p, top_set k (v % 2 ^ k) p h low, one-mul)

  -- the low bits stay
  pub extend_keeps : sign_extend_of k v % 2 ^ k ≡ v % 2 ^ k
  extend_keeps =
      either (v % 2 ^ k) (2 ^ (k - 1)) (λ h. rw (extend_clear h, mod-mod))
      (λ h. rw (extend_set h, ones_above k l, add-mul-mod_self_right, mod-mod))

  pub extend_below : sign_extend_of k v < 2 ^ 64
  extend_below =
      let w : 2 ^ k ≤ 2 ^ 64 = pow_mono l in
      let b : v % 2 ^ k < 2 ^ k = low in
      either (v % 2 ^ k) (2 ^ (k - 1)) (λ h. rw (extend_clear h) (omega arith)) (λ h. rw (extend_set h) (omega arith))

  -- the half is added within the low bits, and taken away again from all
  pub extend_by_half : (r : ℕ) → r < 2 ^ 64 → (r + 2 ^ (k - 1)) % 2 ^ 64 ≡ (v % 2 ^ k + 2 ^ (k - 1)) % 2 ^ k → r ≡ sign_extend_of k v
  extend_by_half r s e =
      let two : 2 ^ k ≡ 2 ^ (k - 1) * 2 = half k p in
      let most : 2 ^ k ≤ 2 ^ 64 = pow_mono l in
      let b : v % 2 ^ k < 2 ^ k = low in
      either (v % 2 ^ k) (2 ^ (k - 1))
      (λ h.
      let f : v % 2 ^ k + 2 ^ (k - 1) < 2 ^ k = omega arith in
      less_half (v % 2 ^ k) (2 ^ (k - 1)) r (omega arith) s (e ∙ mod-eq_of_lt f) ∙ sym (extend_clear h))
      (λ h.
      let f : v % 2 ^ k + 2 ^ (k - 1) ≡ v % 2 ^ k - 2 ^ (k - 1) + 2 ^ k = omega arith in
      let g : v % 2 ^ k - 2 ^ (k - 1) < 2 ^ k = omega arith in
      let m : (v % 2 ^ k + 2 ^ (k - 1)) % 2 ^ k ≡ v % 2 ^ k - 2 ^ (k - 1) = rw (f, add-mod_right) (mod-eq_of_lt g) in
      let n : r ≡ v % 2 ^ k + (2 ^ 64 - 2 ^ (k - 1) * 2) = over_half (v % 2 ^ k) (2 ^ (k - 1)) r h (omega arith) (omega arith) s (e ∙ m) in
      n ∙ ap (λ (y : ℕ). v % 2 ^ k + (2 ^ 64 - y)) (sym two) ∙ sym (extend_set h))

  -- the signed number stays
  pub extend_signed : signed_of 64 (sign_extend_of k v) ≡ signed_of k (v % 2 ^ k)
  unfolding signed_of
  extend_signed =
      let e : 2 ^ k ≡ 2 ^ (k - 1) * 2 = half k p in
      let n : k - 1 ≤ 63 = omega arith in
      let m : 2 ^ (k - 1) ≤ 2 ^ 63 = pow_mono n in
      let b : v % 2 ^ k < 2 ^ k = low in
      either (v % 2 ^ k) (2 ^ (k - 1))
      (λ h. rw (extend_clear h, lt-ltb (v % 2 ^ k) (2 ^ 63) (omega arith), lt-ltb (v % 2 ^ k) (2 ^ (k - 1)) h))
      (λ h.
      rw (
        extend_set h,
        le-ltb (v % 2 ^ k + (2 ^ 64 - 2 ^ k)) (2 ^ 63) (omega arith),
        le-ltb (v % 2 ^ k) (2 ^ (k - 1)) h,
      )
      (ap negsuc (omega arith)))
