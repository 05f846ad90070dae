-- Rule 7.2 e: where masking is lifted, the address as the program gives it is what rules 7.3 to 7.9 go by, and so what a fault's tval tells.
-- Assumes nothing.
use mathlib.Core.Bool.{true}
use mathlib.Core.List.{List}
use mathlib.Core.Path.{◌≡◌}
use Prim.Native.Nat.{ℕ}
use Rattle.isa.specs.declared.Width.{Width}
use Rattle.isa.specs.declared.Kind.{Kind}
use Rattle.address.specs.Control.{effective_mode_of, unmasked_of}
use Rattle.address.specs.Mask.{transformed_of}
use Rattle.address.specs.declared.control.Control.{Control}
use Rattle.address_place.specs.Place.{reached_of, place_of}

pub whole_address : (c : Control) (k : Kind) (w : Width) (a : ℕ) (map : List ℕ) (len : ℕ) → unmasked_of c k ≡ true
    → place_of c k w a map len ≡ reached_of c (effective_mode_of c k) k w a map len
unfolding place_of transformed_of
whole_address c k w a map len e = rw e
