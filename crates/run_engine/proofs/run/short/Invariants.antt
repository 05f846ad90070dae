use mathlib.Core.Path.{◌≡◌}
use lib.ListN.{length}
use Rattle.csr_words.specs.Setting.{setting_of}
use Rattle.step_meaning.specs.Context.{Knows}
use Rattle.step_hart.specs.Hart.{hart}
use Rattle.step_hart.specs.Run.{run_from, Midway}
use Rattle.run_engine.proofs.run.short.Given as goal

-- memory keeps its length, the setting is that of the words, and what is left, run, gives the whole
abbrev pub invariant-loop-left : goal.invariant-loop-left
invariant-loop-left l =
    (length l.mem ≡ length l.initial.mem) × Knows l.k (setting_of l.w) × Midway (run_from l.initial.from l.budget (hart l.initial.x l.initial.w) l.initial.mem l.map) l.budget l.left l.from (hart l.x l.w) l.mem l.map

abbrev pub decreases-loop-left : goal.decreases-loop-left
decreases-loop-left l = l.left
