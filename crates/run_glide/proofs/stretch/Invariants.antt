use mathlib.Core.Path.{◌≡◌}
use Prim.Native.Nat.{◌-◌}
use Rattle.step_meaning.specs.declared.Source.TheVariants.{Fetch}
use Rattle.csr_words.specs.Setting.{setting_of}
use Rattle.run_turn.specs.Glide.{hart_at, Straight}
use Rattle.step_hart.specs.Run.{run_from, Midway}
use Rattle.run_glide.proofs.stretch.Given as goal

-- no landing pad is expected, the setting is what it was, and what is left, run, gives the whole
abbrev pub invariant-loop-taken : goal.invariant-loop-taken
invariant-loop-taken l =
    Straight l.w × (setting_of l.w ≡ setting_of l.initial.w)
    × Midway (run_from Fetch l.budget (hart_at l.initial.pc l.initial.x l.initial.w) l.initial.mem l.map) l.budget (l.budget - l.taken) Fetch (hart_at l.pc l.x l.w) l.mem l.map
