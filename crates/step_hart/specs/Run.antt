-- A run: it ends after the first step that traps, or when the budget is spent, and counts its steps. Rules 10.4 to 10.6 of docs/HART.md.
use Rattle.std.specs.Prelude.{Bool, true, false, List, ◌≡◌, ℕ, zero, suc, ◌+◌, ◌-◌, ◌≤◌}
use Rattle.step_meaning.specs.declared.Source.{Source}
use Rattle.step_meaning.specs.declared.Source.TheVariants.{Fetch}
use Rattle.step_hart.specs.Step.{Outcome, step_from}
use Rattle.step_hart.specs.declared.Hart.{Hart}

-- the hart and memory at its end, the number of steps taken, the trapping one included, and the last trap's cause if there was one
pub record Run : Type 0 where
  pub hart : Hart
  pub memory : List ℕ
  pub count : ℕ
  pub trapped : Bool
  pub cause : ℕ

-- k steps, and then a run
abbrev pub after : (k : ℕ) → Run → Run
after k r = record { hart = r.hart; memory = r.memory; count = k + r.count; trapped = r.trapped; cause = r.cause }

-- no step
abbrev pub stayed : Hart → (m : List ℕ) → Run
stayed h m = record { hart = h; memory = m; count = 0; trapped = false; cause = 0 }

-- one step
abbrev pub once : Outcome → Run
once o = record { hart = o.hart; memory = o.memory; count = 1; trapped = o.trapped; cause = o.cause }

-- a step, and where it did not trap the rest of the run
abbrev pub followed : (trapped : Bool) → Outcome → (rest : Run) → Run
followed true o rest = once o
followed false o rest = after 1 rest

-- a run of at most n steps, of which the first takes its word from a source and the others fetch
unfoldable pub run_from : Source → (n : ℕ) → Hart → (m map : List ℕ) → Run
run_from source zero h m map = stayed h m
run_from source (suc n) h m map =
    followed (step_from source h m map).trapped (step_from source h m map)
    (run_from Fetch n (step_from source h m map).hart (step_from source h m map).memory map)

-- a run fetches
abbrev pub run_of : (budget : ℕ) → Hart → (m map : List ℕ) → Run
run_of budget h m map = run_from Fetch budget h m map

-- a run, taken up in its middle: what is left, run, gives the whole
abbrev pub Midway : (whole : Run) (budget left : ℕ) → Source → Hart → (m map : List ℕ) → Type 0
Midway whole budget left source g m map = (left ≤ budget) × (whole ≡ after (budget - left) (run_from source left g m map))
