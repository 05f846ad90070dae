-- A run in parts: some of the steps that are left are a run of their own, which ends the whole with a trap, or what is left after it does.
-- Assumes nothing.
use mathlib.Core.Bool.{Bool, true, false, true≢false}
use mathlib.Core.List.{List}
use mathlib.Core.Path.{◌≡◌, refl, sym, ap, ◌∙◌}
use Prim.Native.Nat.{ℕ, zero, suc, ◌+◌, ◌-◌, ◌<◌, ◌≤◌}
use native.Mathlib.Nat.{add_assoc}
use native.Mathlib.Omega.{arith}
use Rattle.std.specs.Option.{is_some}
use Rattle.step_meaning.specs.declared.Source.{Source}
use Rattle.step_meaning.specs.declared.Source.TheVariants.{Fetch}
use Rattle.step_hart.specs.Run.{Run, after, followed, run_from, run_of, Midway}
use Rattle.step_hart.specs.Step.{Outcome, step_from}
use Rattle.step_hart.specs.declared.Hart.{Hart}
use Rattle.step_hart.proofs.Compose.{onward, run_composes_from, run_count}
use Rattle.step_hart.proofs.Turns.{start, told_trapped}
use Rattle.run_engine.specs.Told.{told_of}
use Rattle.run_engine.specs.declared.run.Told.{Told}

-- what is told of a run, and the hart and memory at its end
abbrev pub Tells : Run → Told → Hart → (m : List ℕ) → Type 0
Tells run t h m = (t ≡ told_of run) × ((h ≡ run.hart) × (m ≡ run.memory))

-- whether a run trapped is told
trapped_as_told : (r : Run) (t : Told) → t ≡ told_of r → r.trapped ≡ is_some t.trap
trapped_as_told r t e = sym (told_trapped r.trapped r.cause) ∙ ap (λ (u : Told). is_some u.trap) (sym e)

-- a run takes no more steps than its budget

one_more : (t : Bool) (o : Outcome) (rest : Run) (n : ℕ) → rest.count ≤ n → (followed t o rest).count ≤ suc n
one_more true o rest n le = omega arith
one_more false o rest n le = omega (arith, le)

pub within : (n : ℕ) (source : Source) (h : Hart) (m map : List ℕ) → (run_from source n h m map).count ≤ n
unfolding run_from
within zero source h m map = omega arith
within (suc n) source h m map =
    let o : Outcome = step_from source h m map in
    one_more o.trapped o (run_of n o.hart o.memory map) n (within n Fetch o.hart o.memory map)

pub told_within : (n : ℕ) (source : Source) (h : Hart) (m map : List ℕ) (t : Told) → t ≡ told_of (run_from source n h m map) → t.count ≤ n
told_within n source h m map t e = rw e (within n source h m map)

-- a run of n steps, and then of more: where the first traps it is the whole, else the second goes on from its end

no_step : (source : Source) (h : Hart) (m map : List ℕ) → (run_from source 0 h m map).trapped ≡ true → ⊥
unfolding run_from
no_step source h m map q = true≢false (sym q)

no_more : (t : Bool) (r rest : Run) → t ≡ true → onward t r rest ≡ r
no_more t r rest q = rw q

some_more : (t : Bool) (r rest : Run) → t ≡ false → onward t r rest ≡ after r.count rest
some_more t r rest q = rw q

module _ (source : Source) (more : ℕ) (h : Hart) (m map : List ℕ) where
  trapped_in : (n : ℕ) → (run_from source n h m map).trapped ≡ true → run_from source (n + more) h m map ≡ run_from source n h m map
  trapped_in zero q = absurd (no_step source h m map q)
  trapped_in (suc n) q = run_composes_from source n more h m map ∙ no_more _ _ _ q

  passed : (n : ℕ) → 0 < n → (run_from source n h m map).trapped ≡ false
      → run_from source (n + more) h m map ≡ after n (run_of more (run_from source n h m map).hart (run_from source n h m map).memory map)
  passed zero some q = absurd (omega (arith, some))
  passed (suc n) some q =
      run_composes_from source n more h m map
      ∙ some_more _ _ _ q
      ∙ ap (λ (k : ℕ). after k (run_of more (run_from source (suc n) h m map).hart (run_from source (suc n) h m map).memory map))
      (run_count (suc n) source h m map q)

-- the next n steps of a run that was taken up in its middle, and what the code has after them: what they tell, the hart and memory
module _ (whole : Run) (budget left n : ℕ) (source : Source) (g : Hart) (m map : List ℕ) (now : Midway whole budget left source g m map)
    (le : n ≤ left) (t : Told) (h : Hart) (m' : List ℕ) (tells : Tells (run_from source n g m map) t h m') where
  abbrev part : Run
  part = run_from source n g m map

  trapped_said : part.trapped ≡ is_some t.trap
  trapped_said = trapped_as_told part t tells.0

  wholly : (rest : Run) → run_from source (n + (left - n)) g m map ≡ rest → whole ≡ after (budget - left) rest
  wholly rest e =
      let s : left ≡ n + (left - n) = omega (arith, le) in
      now.1 ∙ ap (λ (k : ℕ). after (budget - left) (run_from source k g m map)) s ∙ ap (after (budget - left)) e

  -- they did not trap
  pub passes : 0 < n → is_some t.trap ≡ false → Midway whole budget (left - n) Fetch h m' map
  passes some q =
      let k : budget - left + n ≡ budget - (left - n) = omega (arith, le, now.0) in
      rw (tells.1.0, tells.1.1)
      (omega (arith, now.0), wholly _ (passed source (left - n) g m map n some (trapped_said ∙ q)) ∙ rw (← add_assoc, k))

  -- they trapped
  pub ends : (r : Told) → is_some t.trap ≡ true → r ≡ record { count = budget - left + t.count; trap = t.trap } → Tells whole r h m'
  ends r q e =
      let p : part.trapped ≡ true = trapped_said ∙ q in
      rw (wholly part (trapped_in source (left - n) g m map n p), e, tells.0) (refl, tells.1)

-- the first n steps of a run
module _ (source : Source) (budget n : ℕ) (g : Hart) (m map : List ℕ) (le : n ≤ budget) (t : Told) (h : Hart) (m' : List ℕ)
    (tells : Tells (run_from source n g m map) t h m') where
  -- they trapped
  pub ends_first : is_some t.trap ≡ true → Tells (run_from source budget g m map) t h m'
  ends_first q =
      let s : budget ≡ n + (budget - n) = omega (arith, le) in
      let p : (run_from source n g m map).trapped ≡ true = trapped_as_told (run_from source n g m map) t tells.0 ∙ q in
      rw (ap (λ (k : ℕ). run_from source k g m map) s ∙ trapped_in source (budget - n) g m map n p) tells

  -- they are all
  pub ends_there : budget ≡ n → Tells (run_from source budget g m map) t h m'
  ends_there e = rw e tells

  -- and then the rest
  pub ends_later : 0 < n → is_some t.trap ≡ false → (u r : Told) (i : Hart) (m'' : List ℕ) → Tells (run_of (budget - n) h m' map) u i m''
      → r ≡ record { count = n + u.count; trap = u.trap } → Tells (run_from source budget g m map) r i m''
  ends_later some q u r i m'' rest e =
      let k : budget - (budget - n) ≡ n = omega (arith, le) in
      let p = passes (run_from source budget g m map) budget budget n source g m map (start source budget g m map) le t h m' tells some q in
      rw (p.1, k, e, rest.0) (refl, rest.1)
