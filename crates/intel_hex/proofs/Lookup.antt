-- The table of digits: what two bytes say by it.
-- Assumes nothing.
use mathlib.Core.List.{List}
use mathlib.Core.Path.{◌≡◌}
use Prim.Native.Nat.{ℕ, ◌+◌, ◌*◌, ◌<◌, ◌≤◌}
use native.Mathlib.Omega.{arith}
use lib.ListN.{get_or}
use Rattle.intel_hex.specs.Inner.{weight_of, Filled}
use Rattle.intel_hex.proofs.Digits.{weight_most}

-- two bytes
module _ (t u : List ℕ) (f : Filled t u 256) (x y : ℕ) (h : x < 256) (l : y < 256) where
  pub both_are : get_or u x 0 + get_or t y 0 ≡ weight_of x * 16 + weight_of y
  both_are = rw (f.upper x h, f.lower y l)

  pub both_most : get_or u x 0 + get_or t y 0 ≤ 0x110_0000
  both_most = omega (arith, both_are, weight_most x, weight_most y)
