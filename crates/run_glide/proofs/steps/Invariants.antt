use mathlib.Core.Path.{◌≡◌}
use Rattle.step_meaning.specs.declared.Source.TheVariants.{Fetch}
use Rattle.csr_words.specs.Setting.{setting_of}
use Rattle.run_turn.specs.Glide.{hart_at, Straight}
use Rattle.step_hart.specs.Run.{run_from, Midway}
use Rattle.run_glide.proofs.steps.Given as goal

-- no landing pad is expected, the setting is what it was, and what is left, run, gives the whole
abbrev pub invariant-loop-at : goal.invariant-loop-at
invariant-loop-at l =
    Straight l.w × (setting_of l.w ≡ setting_of l.initial.w)
    × Midway (run_from Fetch l.budget (hart_at l.initial.at.pc l.initial.x l.initial.w) l.initial.mem l.map) l.budget l.at.left Fetch (hart_at l.at.pc l.x l.w) l.mem l.map

abbrev pub decreases-loop-at : goal.decreases-loop-at
decreases-loop-at l = l.at.left
