-- Runs compose: a run of a + b steps is a run of a steps and then, where that did not trap, a run of b steps from where it ended.
-- And a run that does not trap takes every step of its budget.
-- Assumes nothing.
use mathlib.Core.Bool.{Bool, true, false}
use mathlib.Core.List.{List}
use mathlib.Core.Path.{◌≡◌, refl, sym, ap, ◌∙◌}
use Prim.Native.Nat.{ℕ, zero, suc, ◌+◌}
use native.Mathlib.Nat.{add_assoc, zero-add, suc-add}
use native.Mathlib.Omega.{arith}
use Rattle.step_meaning.specs.declared.Source.{Source}
use Rattle.step_meaning.specs.declared.Source.TheVariants.{Fetch}
use Rattle.step_hart.specs.Run.{Run, after, followed, run_from, run_of}
use Rattle.step_hart.specs.Step.{Outcome, step_from}
use Rattle.step_hart.specs.declared.Hart.{Hart}

-- a run, and where it did not trap the rest, its steps counted on
abbrev pub onward : (trapped : Bool) → Run → (rest : Run) → Run
onward true r rest = r
onward false r rest = after r.count rest

-- a run r, and then a run of b steps, which fetch, from where r ended
abbrev pub then_run : Run → (b : ℕ) → (map : List ℕ) → Run
then_run r b map = onward r.trapped r (run_of b r.hart r.memory map)

-- no step, and then a run, is that run
none_first : (r : Run) → r ≡ after 0 r
none_first r = rw (zero-add r.count)

-- a step, and then a run and its rest, is a step and the run, and then the rest
regrouped : (t : Bool) (r rest : Run) → after 1 (onward t r rest) ≡ onward t (after 1 r) rest
regrouped true r rest = refl
regrouped false r rest = rw (← add_assoc)

-- the same where the step may trap: then the run is that step, and so is the whole
stepped : (t : Bool) (o : Outcome) (r : Run) (b : ℕ) (map : List ℕ) → o.trapped ≡ t
    → followed t o (then_run r b map) ≡ then_run (followed t o r) b map
stepped true o r b map e = rw e
stepped false o r b map e = regrouped r.trapped r (run_of b r.hart r.memory map)

-- a step more in the first run
one_more : (source : Source) (a b : ℕ) (h : Hart) (m map : List ℕ)
    → run_of (a + b) (step_from source h m map).hart (step_from source h m map).memory map
    ≡ then_run (run_of a (step_from source h m map).hart (step_from source h m map).memory map) b map
    → run_from source (suc a + b) h m map ≡ then_run (run_from source (suc a) h m map) b map
unfolding run_from
one_more source a b h m map e =
    let o : Outcome = step_from source h m map in
    ap (λ (n : ℕ). run_from source n h m map) (suc-add a b)
    ∙ ap (followed o.trapped o) e
    ∙ stepped o.trapped o (run_of a o.hart o.memory map) b map refl

-- runs that fetch compose
pub run_composes : (a b : ℕ) (h : Hart) (m map : List ℕ) → run_of (a + b) h m map ≡ then_run (run_of a h m map) b map
unfolding run_from
run_composes zero b h m map = ap (λ (n : ℕ). run_from Fetch n h m map) (zero-add b) ∙ none_first (run_from Fetch b h m map)
run_composes (suc a) b h m map =
    one_more Fetch a b h m map (run_composes a b (step_from Fetch h m map).hart (step_from Fetch h m map).memory map)

-- so does a run whose first step takes its word from any source, where that step is one of the first run's: the second one fetches
pub run_composes_from : (source : Source) (a b : ℕ) (h : Hart) (m map : List ℕ)
    → run_from source (suc a + b) h m map ≡ then_run (run_from source (suc a) h m map) b map
run_composes_from source a b h m map =
    one_more source a b h m map (run_composes a b (step_from source h m map).hart (step_from source h m map).memory map)

-- how many steps a run takes: those of a step and the rest of the run
counted : (t : Bool) (o : Outcome) (rest : Run) (n : ℕ) → o.trapped ≡ t → (rest.trapped ≡ false → rest.count ≡ n)
    → (followed t o rest).trapped ≡ false → (followed t o rest).count ≡ suc n
counted true o rest n e f h =
    let z : true ≡ false = sym e ∙ h in
    cc
counted false o rest n e f h =
    let c : rest.count ≡ n = f h in
    omega (arith, c)

-- a run that does not trap takes every step of its budget
pub run_count : (n : ℕ) (source : Source) (h : Hart) (m map : List ℕ) → (run_from source n h m map).trapped ≡ false
    → (run_from source n h m map).count ≡ n
unfolding run_from
run_count zero source h m map e = refl
run_count (suc n) source h m map e =
    let o : Outcome = step_from source h m map in
    counted o.trapped o (run_of n o.hart o.memory map) n refl (run_count n Fetch o.hart o.memory map) e
