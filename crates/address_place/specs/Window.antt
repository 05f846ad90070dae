-- What a window shows: where fetches from its addresses find their words. Rule 10.10 of docs/HART.md.
use Rattle.std.specs.Prelude.{Bool, List, ◌≡◌, ℕ, ◌+◌, ◌-◌, ◌%◌, ◌^◌, ◌<◌, ◌≤◌, ltb, Ok}
use Rattle.word.specs.Sum.{difference_of}
use Rattle.isa.specs.declared.Width.TheVariants.{Word}
use Rattle.isa.specs.declared.Kind.TheVariants.{Fetch}
use Rattle.address.specs.declared.control.Control.{Control}
use Rattle.address_place.specs.Place.{base, place_of}
use Rattle.address_place.specs.declared.window.Window.{Window}

-- how far address a is from the window's first
abbrev pub distance : Window → (a : ℕ) → ℕ
distance v a = difference_of a v.low

abbrev pub covers_of : Window → (a : ℕ) → Bool
covers_of v a = ltb (distance v a) v.span

-- under what the hart's mode and CSRs say (c), with this map and so many bytes of memory: each word that begins in the window lies in memory
-- whole, and a fetch from an aligned address finds it at that address's distance
pub record Shows (v : Window) (c : Control) (map : List ℕ) (len : ℕ) : Type 0 where
  pub fits : v.at + v.span ≤ len - 3
  pub place : (a : ℕ) → a < 2 ^ 64 → distance v a < v.span → a % 4 ≡ 0
      → place_of c Fetch Word a map len ≡ Ok (record { 0 = base + (v.at + distance v a) })
