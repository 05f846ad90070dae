use mathlib.Core.Path.{◌≡◌}
use lib.ListN.{length}
use Rattle.step_meaning.specs.declared.Source.TheVariants.{Fetch}
use Rattle.step_hart.specs.Hart.{hart}
use Rattle.step_hart.specs.Run.{run_from, Midway}
use Rattle.run_engine.proofs.run.long.Given as goal

-- memory keeps its length, and what is left, run, gives what the first call of the fast path left
abbrev pub invariant-loop-left : goal.invariant-loop-left
invariant-loop-left l =
    (length l.mem ≡ length l.initial.mem) × Midway (run_from Fetch l.initial.left (hart l.initial.x l.initial.w) l.initial.mem l.map) l.initial.left l.left Fetch (hart l.x l.w) l.mem l.map

abbrev pub decreases-loop-left : goal.decreases-loop-left
decreases-loop-left l = l.left
