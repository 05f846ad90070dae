use mathlib.Core.Path.{◌≡◌}
use Prim.Native.Nat.{◌≤◌, ◌+◌}
use lib.ListN.{length}
use Rattle.std.specs.Prelude.{None}
use Rattle.intel_hex.specs.Lines.{lines_of}
use Rattle.intel_hex.specs.Load.{last_start, first_bad_of}
use Rattle.intel_hex.proofs.verdict.judge.Given as goal

abbrev pub invariant-loop-rest : goal.invariant-loop-rest
invariant-loop-rest l = record {
  counted : l.n + length l.rest ≤ length l.text + 1;
  bad : first_bad_of l.len 0 1 (lines_of l.text) ≡ first_bad_of l.len l.upper l.n (lines_of l.rest);
  start : last_start None (lines_of l.text) ≡ last_start l.start (lines_of l.rest);
}

abbrev pub decreases-loop-rest : goal.decreases-loop-rest
decreases-loop-rest l = length l.rest
