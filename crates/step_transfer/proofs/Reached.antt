-- A place in memory, as an index.
-- Assumes nothing.
use mathlib.Core.Path.{◌≡◌, subst}
use Prim.Native.Nat.{ℕ, ◌+◌, ◌-◌, ◌≤◌}
use native.Mathlib.Omega.{arith}
use Rattle.isa.specs.Size.{size_of, width_of}
use Rattle.isa.specs.declared.Access.{Access}
use Rattle.address_place.specs.Place.{base, Within}

-- an access k that is l has its bytes within memory's length, at the index of its place
pub index_in : (len q i : ℕ) (k l : Access) → k ≡ l → i ≡ q - base → Within len (width_of k) q → i + size_of (width_of l) ≤ len
index_in len q i k l e f h =
    let w = subst (λ (a : Access). Within len (width_of a) q) e h in
    omega (arith, f, w.0, w.1)
