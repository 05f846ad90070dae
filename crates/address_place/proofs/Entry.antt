-- An address that is not canonical is as one without an entry.
-- Assumes nothing.
use mathlib.Core.Path.{◌≡◌, refl}
use mathlib.Core.Bool.{Bool, true, false}
use mathlib.Core.List.{List}
use Prim.Native.Nat.{ℕ}
use Rattle.std.specs.Prelude.{Option, None, Err}
use Rattle.word.specs.Choice.{pick}
use Rattle.isa.specs.declared.Width.{Width}
use Rattle.address_page.specs.Map.{lookup_of}
use Rattle.isa.specs.declared.Fault.TheVariants.{Page}
use Rattle.isa.specs.declared.Kind.{Kind}
use Rattle.address_page.specs.declared.Regime.{Regime}
use Rattle.address.specs.Cause.{fault_of}
use Rattle.address_place.specs.Place.{canonical_of, page_number, through_of, paged_place_of}

module _ (g : Regime) (k : Kind) (w : Width) (t len : ℕ) where
  either_way : (b : Bool) (f : Option ℕ) → pick b (through_of f g k w len t) (Err (fault_of Page k t)) ≡ through_of (pick b f None) g k w len t
  unfolding through_of
  either_way true f = refl
  either_way false f = refl

  pub paged_through : (map : List ℕ)
      → paged_place_of g k w t map len ≡ through_of (pick (canonical_of t) (lookup_of map (page_number t)) None) g k w len t
  unfolding paged_place_of
  paged_through map = either_way (canonical_of t) (lookup_of map (page_number t))
