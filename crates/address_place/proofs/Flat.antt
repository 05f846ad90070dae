-- Where an access is neither masked nor translated, its place is that of steps 3 and 9 alone.
-- Assumes nothing.
use mathlib.Core.Path.{◌≡◌, refl, sym}
use mathlib.Core.Bool.{Bool, true, false, ◌||◌, not}
use mathlib.Core.List.{List}
use Prim.Native.Nat.{ℕ, ◌+◌, ◌-◌, ◌^◌, ◌<◌, ◌≤◌}
use native.Mathlib.Omega.{arith}
use lib.Dec.{eqb}
use borrow.Author.Tests.{eqb-true}
use Rattle.word.proofs.Bools.{both}
use Rattle.isa.specs.Size.{size_of}
use Rattle.isa.specs.declared.Width.TheVariants.{Word}
use Rattle.isa.specs.declared.Width.{Width}
use Rattle.address_page.specs.Kinds.{is_fetch_of, is_shadow_of}
use Rattle.std.specs.Prelude.{Ok, Err}
use Rattle.isa.specs.declared.Fault.TheVariants.{Misaligned}
use Rattle.isa.specs.declared.Kind.TheVariants.{Fetch, Load, Store, Push, Pop, Swap}
use Rattle.isa.specs.declared.Kind.{Kind}
use Rattle.isa.specs.declared.Mode.{Mode}
use Rattle.address.proofs.Masking.{mask_none}
use Rattle.address.specs.Align.{aligned_of}
use Rattle.address.specs.Cause.{fault_of}
use Rattle.address.specs.Control.{effective_mode_of, pmm_of, paged_of, unmasked_of, bare_of, flat_of}
use Rattle.address.specs.Mask.{pmlen_of, transformed_of}
use Rattle.address.specs.declared.control.Control.{Control}
use Rattle.address_place.specs.Place.{base, Within, inside_of, plain_place_of, reached_of, place_of, flat_place_of}
use Rattle.address_place.specs.declared.Physical.{Physical}
use Rattle.address_place.proofs.Reach.{behind, inside_at}

-- the two steps in their order
module _ (k : Kind) (w : Width) (a len : ℕ) where
  pub flat_aligned : aligned_of w a ≡ true → inside_of k w len a a ≡ flat_place_of k w a len
  unfolding flat_place_of
  flat_aligned e = rw e

  pub flat_misaligned : aligned_of w a ≡ false → Err (fault_of Misaligned k a) ≡ flat_place_of k w a len
  unfolding flat_place_of
  flat_misaligned e = rw e

-- a place that they give lies in memory
module _ (k : Kind) (w : Width) (a len : ℕ) (q : Physical) (at : flat_place_of k w a len ≡ Ok q) where
  pub flat_within : Within len w q.0
  unfolding flat_place_of
  flat_within = (inside_at k w len q a a (behind (aligned_of w a) (inside_of k w len a a) (fault_of Misaligned k a) q at).1).1

  pub flat_index : q.0 - base + size_of w ≤ len
  flat_index = omega (arith, flat_within.0, flat_within.1)

off : (b : Bool) → not b ≡ true → b ≡ false
off true e = cc
off false e = refl

-- the one effective mode of loads and stores
data_mode : (c : Control) (k : Kind) → is_shadow_of k ≡ false → is_fetch_of k ≡ false → effective_mode_of c k ≡ effective_mode_of c Load
unfolding effective_mode_of
data_mode c Fetch s f = cc
data_mode c Load s f = refl
data_mode c Store s f = refl
data_mode c Push s f = cc
data_mode c Pop s f = cc
data_mode c Swap s f = cc

-- and masking is lifted from both, or from none
data_unmasked : (c : Control) (k : Kind) → is_shadow_of k ≡ false → is_fetch_of k ≡ false → unmasked_of c k ≡ unmasked_of c Load
data_unmasked c Fetch s f = cc
data_unmasked c Load s f = refl
data_unmasked c Store s f = refl
data_unmasked c Push s f = cc
data_unmasked c Pop s f = cc
data_unmasked c Swap s f = cc

-- where masking is lifted nothing is masked, and by PMM 0 neither
unmasked : (c : Control) (m : Mode) (k : Kind) (a : ℕ) → a < 2 ^ 64 → (lifted : Bool) → unmasked_of c k ≡ lifted
    → (lifted || eqb (pmm_of m c.upmm c.spmm c.mpmm) 0) ≡ true
    → transformed_of c m k a ≡ a
unfolding transformed_of
unmasked c m k a h true u e = rw u
unmasked c m k a h false u e =
    let z : pmm_of m c.upmm c.spmm c.mpmm ≡ 0 = eqb-true _ _ e in
    rw u (sym (mask_none (pmlen_of (pmm_of m c.upmm c.spmm c.mpmm)) (paged_of m c.sv39) a h (rw z)))

-- in M or Bare the address stays what it is, and an access that is no shadow access has steps 3 and 9 left
plainly_reached : (c : Control) (m : Mode) (k : Kind) (w : Width) (a : ℕ) (map : List ℕ) (len : ℕ)
    → is_shadow_of k ≡ false → paged_of m c.sv39 ≡ false
    → reached_of c m k w a map len ≡ flat_place_of k w a len
unfolding reached_of plain_place_of flat_place_of
plainly_reached c m k w a map len s p = rw (p, s)

pub fetch_flat : (c : Control) (a : ℕ) (map : List ℕ) (len : ℕ) → bare_of c ≡ true
    → place_of c Fetch Word a map len ≡ flat_place_of Fetch Word a len
unfolding place_of transformed_of bare_of
fetch_flat c a map len e = plainly_reached c (effective_mode_of c Fetch) Fetch Word a map len refl (off _ e)

pub data_flat : (c : Control) (k : Kind) (w : Width) (a : ℕ) (map : List ℕ) (len : ℕ) → flat_of c ≡ true
    → is_shadow_of k ≡ false → is_fetch_of k ≡ false → a < 2 ^ 64
    → place_of c k w a map len ≡ flat_place_of k w a len
unfolding place_of flat_of
data_flat c k w a map len e s f h =
    let m = effective_mode_of c Load in
    let b = both (not (paged_of m c.sv39)) (unmasked_of c Load || eqb (pmm_of m c.upmm c.spmm c.mpmm) 0) e in
    rw (data_mode c k s f, unmasked c m k a h (unmasked_of c Load) (data_unmasked c k s f) b.1)
    (plainly_reached c m k w a map len s (off _ b.0))
