-- A run, taken up in its middle: a turn of the loop, and the two ways out.
-- Assumes nothing.
use mathlib.Core.Bool.{Bool, true, false}
use mathlib.Core.List.{List}
use mathlib.Core.Path.{◌≡◌, refl, sym, ap, ◌∙◌}
use Prim.Native.Nat.{ℕ, suc, ◌+◌, ◌-◌, ◌<◌, ◌≤◌}
use native.Mathlib.Nat.{add_assoc}
use native.Mathlib.Omega.{arith}
use Rattle.std.specs.Prelude.{Option, Some}
use Rattle.std.specs.Option.{is_some}
use Rattle.step_meaning.specs.declared.Source.{Source}
use Rattle.step_meaning.specs.declared.Source.TheVariants.{Fetch}
use Rattle.step_effect.specs.declared.Effect.{Effect}
use Rattle.step_effect.specs.declared.Effect.TheVariants.{Write, Jump, Pad, Store, Push, Pop, Swap, Privileged, Trap}
use Rattle.step_hart.specs.Hart.{hart}
use Rattle.step_hart.specs.Run.{Run, after, stayed, once, followed, run_from, Midway}
use Rattle.step_hart.specs.Step.{Outcome, traps_of, cause_of, plan_of, step_from, stepped_of, trap_told}
use Rattle.step_hart.specs.declared.Hart.{Hart}
use Rattle.step_hart.specs.declared.methods.Stepped.{Stepped}

-- registers and words are the hart
pub same_hart : (h : Hart) (x w : List ℕ) → x ≡ h.x → w ≡ h.words → hart x w ≡ h
same_hart h x w e f = rw (e, f)

-- a trap is told where there was one
pub told_trapped : (trapped : Bool) (cause : ℕ) → is_some (trap_told trapped cause) ≡ trapped
told_trapped true cause = refl
told_trapped false cause = refl

pub start : (source : Source) (budget : ℕ) (h : Hart) (m map : List ℕ) → Midway (run_from source budget h m map) budget budget source h m map
start source budget h m map =
    let e : budget - budget ≡ 0 = omega arith in
    let z : 0 + (run_from source budget h m map).count ≡ (run_from source budget h m map).count = omega arith in
    (omega arith, rw (e, z))

module _ (source : Source) (k n : ℕ) (g : Hart) (m map : List ℕ) where
  turn : (step_from source g m map).trapped ≡ false
      → after k (run_from source (suc n) g m map)
      ≡ after (k + 1) (run_from Fetch n (step_from source g m map).hart (step_from source g m map).memory map)
  unfolding run_from
  turn q = rw (q, ← add_assoc)

  last_turn : (step_from source g m map).trapped ≡ true
      → after k (run_from source (suc n) g m map)
      ≡ record {
        hart = (step_from source g m map).hart;
        memory = (step_from source g m map).memory;
        count = k + 1;
        trapped = true;
        cause = (step_from source g m map).cause;
      }
  unfolding run_from
  last_turn q = rw q

module _ (whole : Run) (budget left : ℕ) (source : Source) (g : Hart) (m map : List ℕ) (now : Midway whole budget left source g m map) where
  -- a step that does not trap
  pub again : 0 < left → (step_from source g m map).trapped ≡ false
      → Midway whole budget (left - 1) Fetch (step_from source g m map).hart (step_from source g m map).memory map
  again h q =
      let s : left ≡ suc (left - 1) = omega arith in
      let k : budget - left + 1 ≡ budget - (left - 1) = omega arith in (
        omega arith,
        now.1 ∙ ap (λ (n : ℕ). after (budget - left) (run_from source n g m map)) s ∙ turn source (budget - left) (left - 1) g m map q ∙ rw k,
      )

  -- a step that traps
  pub ended : 0 < left → (step_from source g m map).trapped ≡ true
      → whole
      ≡ record {
        hart = (step_from source g m map).hart;
        memory = (step_from source g m map).memory;
        count = budget - (left - 1);
        trapped = true;
        cause = (step_from source g m map).cause;
      }
  ended h q =
      let s : left ≡ suc (left - 1) = omega arith in
      let k : budget - left + 1 ≡ budget - (left - 1) = omega arith in
      now.1 ∙ ap (λ (n : ℕ). after (budget - left) (run_from source n g m map)) s ∙ last_turn source (budget - left) (left - 1) g m map q ∙ rw k

  -- the same, of what the code has after a step: registers, words, memory, and what the step tells
  module _ (some : 0 < left) (x w n : List ℕ) (trap : Option ℕ)
      (ex : x ≡ (step_from source g m map).hart.x) (ew : w ≡ (step_from source g m map).hart.words) (en : n ≡ (step_from source g m map).memory)
      (et : trap ≡ trap_told (step_from source g m map).trapped (step_from source g m map).cause) where
    said : (step_from source g m map).trapped ≡ is_some trap
    said = sym (told_trapped _ _) ∙ ap is_some (sym et)

    pub goes_on : is_some trap ≡ false → Midway whole budget (left - 1) Fetch (hart x w) n map
    goes_on q = rw (same_hart _ x w ex ew, en) (again some (said ∙ q))

    pub ends : is_some trap ≡ true
        → (whole
        ≡ record {
          hart = hart x w;
          memory = n;
          count = budget - (left - 1);
          trapped = true;
          cause = (step_from source g m map).cause;
        })
        × (trap ≡ Some (step_from source g m map).cause)
    ends q = (
      rw (same_hart _ x w ex ew, en) (ended some (said ∙ q)),
      et ∙ ap (λ (b : Bool). trap_told b (step_from source g m map).cause) (said ∙ q),
    )

  -- the budget is spent
  pub spent : left ≤ 0 → whole ≡ record { hart = g; memory = m; count = budget; trapped = false; cause = 0 }
  unfolding run_from
  spent h =
      let z : left ≡ 0 = omega arith in
      let k : budget - 0 + 0 ≡ budget = omega arith in
      now.1 ∙ ap (λ (n : ℕ). after (budget - n) (run_from source n g m map)) z ∙ rw k

-- what was taken of what was left, was taken of the whole
pub joined : (whole : Run) (budget left less : ℕ) (source : Source) (g h : Hart) (m n map : List ℕ)
    → Midway whole budget left source g m map → Midway (run_from source left g m map) left less source h n map
    → Midway whole budget less source h n map
joined whole budget left less source g h m n map a b =
    let k : budget - left + (left - less) ≡ budget - less = omega (arith, a.0, b.0) in
    (omega (arith, a.0, b.0), a.1 ∙ ap (λ (r : Run). after (budget - left) r) b.1 ∙ rw (← add_assoc, k))

-- a run of one step is that step

followed_once : (t : Bool) (o : Outcome) → o.trapped ≡ t → (o.trapped ≡ false → o.cause ≡ 0)
    → followed t o (stayed o.hart o.memory) ≡ once o
followed_once true o e z = refl
followed_once false o e z = rw (e, z e)

no_cause : (e : Effect) → traps_of e ≡ false → cause_of e ≡ 0
no_cause (Write rd v next) q = refl
no_cause (Jump rd link next elp) q = refl
no_cause (Pad next) q = refl
no_cause (Store r w v next) q = refl
no_cause (Push r v ssp next) q = refl
no_cause (Pop ssp next) q = refl
no_cause (Swap rd old r w v next) q = refl
no_cause (Privileged k) q = refl
no_cause (Trap c t) q = cc

pub one_step : (source : Source) (h : Hart) (m map : List ℕ) → run_from source 1 h m map ≡ once (step_from source h m map)
unfolding run_from step_from
one_step source h m map =
    followed_once (step_from source h m map).trapped (step_from source h m map) refl (no_cause (plan_of source h m map))

-- a step as it is handed back, from its registers, its words and what it tells
pub handed_back : (o : Outcome) (x w : List ℕ) (trap : Option ℕ)
    → x ≡ o.hart.x → w ≡ o.hart.words → trap ≡ trap_told o.trapped o.cause
    → ◌≡◌ {A = Stepped} (record { hart = hart x w; trap = trap }) (stepped_of o)
handed_back o x w trap e f g = rw (e, f, g)
