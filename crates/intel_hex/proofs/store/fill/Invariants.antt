use mathlib.Core.Path.{◌≡◌}
use Prim.Native.Nat.{◌+◌}
use lib.ListN.{length, drop}
use lib.Seq.{sets}
use Rattle.intel_hex.specs.Line.{data_of}
use Rattle.intel_hex.proofs.store.fill.Given as goal

abbrev pub invariant-loop-k : goal.invariant-loop-k
invariant-loop-k l = record {
  size : length l.mem ≡ length l.initial.mem;
  whole : sets l.mem (l.to + l.k) (drop l.k (data_of l.line.text.now)) ≡ sets l.initial.mem l.to (data_of l.line.text.now);
}
