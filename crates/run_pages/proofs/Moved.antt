-- Masking moves the addresses of a page alike, and a page's first address stays one.
-- Assumes nothing.
use mathlib.Core.Bool.{Bool, true, false}
use mathlib.Core.Path.{◌≡◌, refl}
use Prim.Native.Nat.{ℕ, ◌+◌, ◌/◌, ◌%◌, ◌^◌, ◌<◌}
use native.Mathlib.Omega.{arith}
use lib.Dec.{eqb}
use Rattle.word.specs.Choice.{pick}
use Rattle.isa.specs.declared.Kind.{Kind}
use Rattle.isa.specs.declared.Mode.{Mode}
use Rattle.address.specs.Control.{pmm_of, paged_of, unmasked_of}
use Rattle.address.specs.Mask.{pmlen_of, mask_of, masked_of, transformed_of}
use Rattle.address.specs.declared.control.Control.{Control}

-- how many bits are masked
data Masked : ℕ → Type 0 where
  none : Masked 0
  seven : Masked 7
  sixteen : Masked 16

masked : (pmm : ℕ) → Masked (pmlen_of pmm)
masked pmm = go (eqb pmm 2) (eqb pmm 3)
  where
    go : (a b : Bool) → Masked (pick a 7 (pick b 16 0))
    go true b = seven
    go false true = sixteen
    go false false = none

module _ (low d : ℕ) (first : low % 4096 ≡ 0) (near : d < 4096) where
  same_63 : (low + d) / 2 ^ 63 ≡ low / 2 ^ 63
  same_63 = omega arith

  same_56 : (low + d) / 2 ^ 56 ≡ low / 2 ^ 56
  same_56 = omega arith

  same_47 : (low + d) / 2 ^ 47 ≡ low / 2 ^ 47
  same_47 = omega arith

  mask_alike : {p : ℕ} → Masked p → (paged : Bool) → (mask_of p paged (low + d) ≡ mask_of p paged low + d) × (mask_of p paged low % 4096 ≡ 0)
  unfolding mask_of
  mask_alike none true = (rw same_63 (omega arith), omega arith)
  mask_alike none false = (omega arith, omega arith)
  mask_alike seven true = (rw same_56 (omega arith), omega arith)
  mask_alike seven false = (omega arith, omega arith)
  mask_alike sixteen true = (rw same_47 (omega arith), omega arith)
  mask_alike sixteen false = (omega arith, omega arith)

  pub transform_alike : (c : Control) (m : Mode) (k : Kind)
      → (transformed_of c m k (low + d) ≡ transformed_of c m k low + d) × (transformed_of c m k low % 4096 ≡ 0)
  unfolding transformed_of
  transform_alike c m k = go (unmasked_of c k)
    where
      go : (u : Bool) → (pick u (low + d) (masked_of c m (low + d)) ≡ pick u low (masked_of c m low) + d) × (pick u low (masked_of c m low) % 4096 ≡ 0)
      go true = (refl, first)
      go false = mask_alike (masked (pmm_of m c.upmm c.spmm c.mpmm)) (paged_of m c.sv39)
