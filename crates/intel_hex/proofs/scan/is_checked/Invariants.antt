use mathlib.Core.Path.{◌≡◌}
use Prim.Native.Nat.{◌+◌, ◌*◌, ◌≤◌}
use lib.ListN.{length, drop}
use Rattle.intel_hex.proofs.Pairs.{pair_weights, weights}
use Rattle.intel_hex.proofs.scan.is_checked.Given as goal

abbrev pub invariant-loop-high : goal.invariant-loop-high
invariant-loop-high l = record {
  few : length l.pairs ≤ 260;
  small : l.sum ≤ 0x110_0000 * l.high-index;
  whole : l.sum + pair_weights (drop l.high-index l.pairs) ≡ weights l.digits;
}
