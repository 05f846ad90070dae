-- Masking, over the number of masked bits.
-- Assumes nothing.
use mathlib.Core.Path.{◌≡◌, refl, ap}
use mathlib.Core.Bool.{Bool, true, false}
use Prim.Native.Nat.{ℕ, ◌+◌, ◌-◌, ◌/◌, ◌%◌, ◌^◌, ◌<◌, ◌≤◌}
use native.Mathlib.Nat.{mod-lt, zero-mul, one-mul, add-zero}
use native.Mathlib.Omega.{arith}
use lib.Pow.{pow_pos, pow_mono}
use Rattle.word.specs.Choice.{pick}
use Rattle.isa.specs.declared.Kind.{Kind}
use Rattle.isa.specs.declared.Mode.{Mode}
use Rattle.address.specs.Control.{pmm_of, paged_of, unmasked_of}
use Rattle.address.specs.Mask.{pmlen_of, mask_of, masked_of, transformed_of}
use Rattle.address.specs.declared.control.Control.{Control}

-- no masked bits, no change
pub mask_none : (p : ℕ) (paged : Bool) (a : ℕ) → a < 2 ^ 64 → p ≡ 0 → a ≡ mask_of p paged a
unfolding mask_of
mask_none p true a h e = rw e (omega arith)
mask_none p false a h e = rw e (omega arith)

-- so an access of a mode whose PMM is 0 keeps its address, whether masking is lifted or not
pub transform_none : (c : Control) (m : Mode) (k : Kind) (a : ℕ) → a < 2 ^ 64 → pmm_of m c.upmm c.spmm c.mpmm ≡ 0 → a ≡ transformed_of c m k a
unfolding transformed_of
transform_none c m k a h e = go (unmasked_of c k)
  where
    go : (b : Bool) → a ≡ pick b a (masked_of c m a)
    go true = refl
    go false = mask_none _ (paged_of m c.sv39) a h (ap pmlen_of e)

-- and so does one that step 2 does not mask
pub transform_unmasked : (c : Control) (m : Mode) (k : Kind) (a : ℕ) → unmasked_of c k ≡ true → a ≡ transformed_of c m k a
unfolding transformed_of
transform_unmasked c m k a u = rw u

-- m counts the values of the bits that stay
module _ (p a m : ℕ) (e : m ≡ 2 ^ (64 - p)) where
  kept : (0 < m) × (m ≤ 2 ^ 64)
  kept =
      let l : 64 - p ≤ 64 = omega arith in
      let w : 2 ^ (64 - p) ≤ 2 ^ 64 = pow_mono l in
      (rw e (pow_pos (64 - p)), rw e w)

  pub room : a % m + (2 ^ 64 - 1 - (m - 1)) < 2 ^ 64
  room = omega (arith, kept.0, kept.1, mod-lt a kept.0)

  pub mask_copied : (h : ℕ) → h ≡ 2 ^ (63 - p) → a / h % 2 ≡ 1 → a % m + (2 ^ 64 - 1 - (m - 1)) ≡ mask_of p true a
  unfolding mask_of
  mask_copied h f g =
      let k : 64 - p - 1 ≡ 63 - p = omega arith in
      rw (k, ← f, ← e, g, one-mul) (omega (arith, kept.0, kept.1))

  pub mask_clear : (h : ℕ) → h ≡ 2 ^ (63 - p) → (a / h % 2 ≡ 1 → ⊥) → a % m ≡ mask_of p true a
  unfolding mask_of
  mask_clear h f g =
      let k : 64 - p - 1 ≡ 63 - p = omega arith in
      let z : a / h % 2 ≡ 0 = omega arith in
      rw (k, ← f, ← e, z, zero-mul, add-zero)

  pub mask_bare : a % m ≡ mask_of p false a
  unfolding mask_of
  mask_bare = rw (← e)
