use mathlib.Core.Bool.{true}
use mathlib.Core.Path.{◌≡◌}
use lib.ListN.{length}
use Rattle.intel_hex.specs.Lines.{lines_of}
use Rattle.intel_hex.specs.Load.{stored}
use Rattle.intel_hex.specs.Inner.{all_good}
use Rattle.intel_hex.proofs.store.store.Given as goal

abbrev pub invariant-loop-rest : goal.invariant-loop-rest
invariant-loop-rest l = record {
  size : length l.mem ≡ length l.initial.mem;
  good : all_good (length l.initial.mem) l.upper (lines_of l.rest) ≡ true;
  whole : stored 0 l.initial.mem (lines_of l.text) ≡ stored l.upper l.mem (lines_of l.rest);
}

abbrev pub decreases-loop-rest : goal.decreases-loop-rest
decreases-loop-rest l = length l.rest
