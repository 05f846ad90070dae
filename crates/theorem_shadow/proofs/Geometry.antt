-- What the proof needs to know of how shadow slots lie in memory. A slot is an address that the pointer can have; `slot a` is the
-- place of the eight bytes there. Slots have a rank that rises by 1 from a permitted one to the next, so that no argument about
-- wrapping is needed; slots of two ranks do not overlap.
-- Assumes nothing.
use Rattle.std.specs.Prelude.{Ok}
use mathlib.Core.Logic.{◌⊎◌}
use mathlib.Core.Path.{◌≡◌}
use Prim.Native.Nat.{ℕ, suc, ◌+◌, ◌-◌, ◌%◌, ◌≤◌, ◌<◌}
use Rattle.word.specs.Sum.{sum_of, difference_of}
use Rattle.isa.specs.declared.Width.TheVariants.{Double}
use Rattle.address_place.specs.Place.{base, Within, PlaceOrFault}
use Rattle.address_place.specs.declared.Physical.{Physical}

pub record Geometry (slot : ℕ → PlaceOrFault) (Shadow : ℕ → Type 0) (len : ℕ) : Type 0 where
  pub rank : ℕ → ℕ
  pub rank_up : (a : ℕ) (q : Physical) → a % 8 ≡ 0 → slot a ≡ Ok q → rank (sum_of a 8) ≡ suc (rank a)
  pub rank_down : (a : ℕ) (q : Physical) → a % 8 ≡ 0 → slot (difference_of a 8) ≡ Ok q → rank a ≡ suc (rank (difference_of a 8))
  pub same : (a b : ℕ) (p q : Physical) → a % 8 ≡ 0 → b % 8 ≡ 0 → slot a ≡ Ok p → slot b ≡ Ok q → rank a ≡ rank b → p ≡ q
  pub apart : (a b : ℕ) (p q : Physical) → a % 8 ≡ 0 → b % 8 ≡ 0 → slot a ≡ Ok p → slot b ≡ Ok q → (rank a ≡ rank b → ⊥)
      → (p.0 + 8 ≤ q.0) ⊎ (q.0 + 8 ≤ p.0)
  pub inside : (a : ℕ) (q : Physical) → slot a ≡ Ok q → Within len Double q.0
  pub shadow : (a : ℕ) (q : Physical) (i : ℕ) → a % 8 ≡ 0 → slot a ≡ Ok q → i < 8 → Shadow (q.0 - base + i)
