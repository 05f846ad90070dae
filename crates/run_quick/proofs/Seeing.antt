-- What a window shows is what a fetch gives.
-- Assumes nothing.
use Rattle.std.specs.Prelude.{Ok}
use mathlib.Core.List.{List}
use mathlib.Core.Path.{◌≡◌}
use Prim.Native.Nat.{ℕ, ◌+◌, ◌-◌, ◌%◌, ◌^◌, ◌<◌}
use native.Mathlib.Omega.{arith}
use lib.ListN.{length}
use Rattle.word.specs.Sum.{difference_of}
use Rattle.isa.specs.declared.Width.TheVariants.{Word}
use Rattle.memory.specs.Bytes.{load_of}
use Rattle.isa.specs.declared.Kind.TheVariants as kind
use Rattle.address.specs.declared.control.Control.{Control}
use Rattle.address_place.specs.Place.{base, place_of}
use Rattle.address_place.specs.Window.{Shows}
use Rattle.address_place.specs.declared.window.Window.{Window}
use Rattle.step_meaning.specs.Plan.{fetched_of}
use Rattle.step_meaning.specs.declared.Source.TheVariants.{Fetch}

pub seen_word : (v : Window) (pc d w : ℕ) → d ≡ difference_of pc v.low → d < v.span → pc % 4 ≡ 0 → pc < 2 ^ 64
    → (c : Control) (map m : List ℕ) → Shows v c map (length m) → w ≡ load_of m (v.at + d) 4
    → fetched_of Fetch c pc m map ≡ Ok w
unfolding fetched_of
seen_word v pc d w e l z h c map m shows r =
    let there : place_of c kind.Fetch Word pc map (length m) ≡ Ok (record { 0 = base + (v.at + difference_of pc v.low) }) =
    shows.place pc h (rw e at l) z in
    let i : base + (v.at + d) - base ≡ v.at + d = omega arith in
    rw (there, ← e, i, r)
