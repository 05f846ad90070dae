-- A run that is one step longer: where it did not trap, one step more from where it ended.
-- Assumes nothing.
use mathlib.Core.List.{List}
use mathlib.Core.Path.{◌≡◌, sym, ap, ◌∙◌}
use Prim.Native.Nat.{ℕ, suc}
use native.Mathlib.Numerals.{add-one}
use Rattle.step_meaning.specs.declared.Source.TheVariants.{Fetch}
use Rattle.step_hart.specs.Run.{Run, once, run_of}
use Rattle.step_hart.specs.Step.{step_from}
use Rattle.step_hart.specs.declared.Hart.{Hart}
use Rattle.step_hart.proofs.Compose.{onward, run_composes}
use Rattle.step_hart.proofs.Turns.{one_step}

-- a run, and where it did not trap one step more
abbrev pub longer : Run → (map : List ℕ) → Run
longer r map = onward r.trapped r (once (step_from Fetch r.hart r.memory map))

pub run_longer : (n : ℕ) (h : Hart) (m map : List ℕ) → run_of (suc n) h m map ≡ longer (run_of n h m map) map
run_longer n h m map =
    ap (λ (k : ℕ). run_of k h m map) (sym (add-one n))
    ∙ run_composes n 1 h m map
    ∙ ap (onward (run_of n h m map).trapped (run_of n h m map)) (one_step Fetch (run_of n h m map).hart (run_of n h m map).memory map)
