-- What customers call is such a stretch: a call `step` or `step_word` is its next step, and a call `run` goes on with it by as many steps as
-- it takes, where none of them completes a swap or a CSR write of ssp. So calls may be mixed and chained, and the promise speaks of
-- what they leave (`run_keeps`).
-- Assumes nothing.
use mathlib.Core.Bool.{Bool, true, false}
use mathlib.Core.List.{List, [], ◌∷◌, ◌++◌, append-nil}
use mathlib.Core.Path.{◌≡◌, refl, sym, ap, subst, ◌∙◌}
use Prim.Native.Nat.{ℕ, zero, suc, ◌<◌, ◌≤◌}
use lib.ListN.{length}
use native.Mathlib.Omega.{arith}
use borrow.Author.Tests.{le-ltb}
use Rattle.word.specs.Choice.{pick}
use Rattle.step_effect.specs.declared.Effect.{Effect}
use Rattle.step_meaning.specs.declared.Source.{Source}
use Rattle.step_meaning.specs.declared.Source.TheVariants.{Fetch}
use Rattle.step_hart.proofs.Compose.{onward}
use Rattle.step_hart.proofs.Longer.{run_longer}
use Rattle.step_hart.proofs.Turns.{told_trapped}
use Rattle.std.specs.Prelude.{None}
use Rattle.std.specs.Option.{is_some}
use Rattle.step_hart.specs.Run.{Run, once, run_from, run_of}
use Rattle.step_hart.specs.Step.{plan_of, step_from}
use Rattle.step_hart.specs.declared.Hart.{Hart}
use Rattle.run_machine.proofs.Chained.{step_accepted}
use Rattle.run_call.specs.Call.{Called, refusal_of, run_refusal_of, step_from_call, run_call_of}
use Rattle.theorem_shadow.specs.Promise.{ShadowStarts, Event, event_of, NoSwap, NoPointerWrite, Stretch, start, step, Promise}
use Rattle.theorem_shadow.proofs.Demand.{shadow_stack}

-- the effect of the step that a run makes after k steps
abbrev pub effect_after : (k : ℕ) → Hart → (m map : List ℕ) → Effect
effect_after k h m map = plan_of Fetch (run_of k h m map).hart (run_of k h m map).memory map

-- a run of n steps without a swap and without a CSR write of ssp: no step that it makes completes one
abbrev pub Undisturbed : (n : ℕ) → Hart → (m map : List ℕ) → Type 0
Undisturbed n h m map =
    (k : ℕ) → k < n → (run_of k h m map).trapped ≡ false → NoSwap (effect_after k h m map) × NoPointerWrite (effect_after k h m map)

-- a run's events, the newest first: those of its steps, up to the first that traps
unfoldable pub run_events : (n : ℕ) → Hart → (m map : List ℕ) → List Event
run_events zero h m map = []
run_events (suc n) h m map =
    pick (run_of n h m map).trapped (run_events n h m map) (event_of (effect_after n h m map) ∷ run_events n h m map)

-- it has an event for each step
one_counted : (t : Bool) (e : Event) (es : List Event) (r rest : Run) → length es ≡ r.count → rest.count ≡ 1
    → length (pick t es (e ∷ es)) ≡ (onward t r rest).count
one_counted true e es r rest l c = l
one_counted false e es r rest l c = omega (arith, l, c)

pub events_counted : (n : ℕ) (h : Hart) (m map : List ℕ) → length (run_events n h m map) ≡ (run_of n h m map).count
unfolding run_events run_from
events_counted zero h m map = refl
events_counted (suc n) h m map =
    let r : Run = run_of n h m map in
    one_counted r.trapped (event_of (effect_after n h m map)) (run_events n h m map) r (once (step_from Fetch r.hart r.memory map))
    (events_counted n h m map) refl
    ∙ ap (λ (x : Run). x.count) (sym (run_longer n h m map))

module _ (map : List ℕ) (h₀ : Hart) (m₀ : List ℕ) where
  -- that a stretch from h₀ and m₀ leaves what a run leaves, and what a call leaves
  abbrev pub Reaches : List Event → Run → Type 0
  Reaches es r = Stretch map h₀ m₀ es r.hart r.memory r.trapped

  abbrev pub Leaves : List Event → Called → Type 0
  Leaves es c = Stretch map h₀ m₀ es c.answer.hart c.memory (is_some c.answer.trap)

  -- one step more of a run that has not trapped; one that has is at its end
  one_more : (new es : List Event) (r : Run) (t : Bool) → r.trapped ≡ t → Reaches (new ++ es) r
      → (t ≡ false → NoSwap (plan_of Fetch r.hart r.memory map) × NoPointerWrite (plan_of Fetch r.hart r.memory map))
      → Reaches (pick t new (event_of (plan_of Fetch r.hart r.memory map) ∷ new) ++ es)
      (onward t r (once (step_from Fetch r.hart r.memory map)))
  one_more new es r true e w calm = w
  one_more new es r false e w calm =
      let (ns, np) = calm refl in
      step (subst (Stretch map h₀ m₀ (new ++ es) r.hart r.memory) e w) Fetch ns np

  -- at the end of a stretch that has not trapped
  module _ (es : List Event) (h : Hart) (m : List ℕ) (s : Stretch map h₀ m₀ es h m false) where
    no_step : Reaches (run_events 0 h m map ++ es) (run_of 0 h m map)
    unfolding run_from run_events
    no_step = s

    -- a run goes on with it
    pub run_goes_on : (n : ℕ) → Undisturbed n h m map → Reaches (run_events n h m map ++ es) (run_of n h m map)
    unfolding run_events
    run_goes_on zero calm = no_step
    run_goes_on (suc n) calm =
        let r : Run = run_of n h m map in
        let w : Reaches (run_events n h m map ++ es) r = run_goes_on n (λ k l. calm k (omega arith)) in
        subst (Reaches (run_events (suc n) h m map ++ es)) (sym (run_longer n h m map))
        (one_more (run_events n h m map) es r r.trapped refl w (calm n (omega arith)))

    -- and so does the call `run`, where it is taken
    pub run_call : (budget : ℕ) → run_refusal_of budget h m map ≡ None → Undisturbed budget h m map
        → Leaves (run_events budget h m map ++ es) (run_call_of budget h m map)
    unfolding run_call_of
    run_call budget e calm = rw (e, told_trapped (run_of budget h m map).trapped (run_of budget h m map).cause) (run_goes_on budget calm)

    -- a call `step` or `step_word` that is taken is its next step
    pub step_call : (source : Source) → refusal_of h m map ≡ None → NoSwap (plan_of source h m map) → NoPointerWrite (plan_of source h m map)
        → Leaves (event_of (plan_of source h m map) ∷ es) (step_from_call source h m map)
    unfolding step_from_call
    step_call source e ns np = rw (e, told_trapped (step_from source h m map).trapped (step_from source h m map).cause) (step s source ns np)

  -- and at the end of a stretch from an accepted state the calls are taken: refusals 1 to 3 do not apply
  pub stretch_accepted : refusal_of h₀ m₀ map ≡ None → {es : List Event} {h : Hart} {m : List ℕ} {trapped : Bool}
      → Stretch map h₀ m₀ es h m trapped → refusal_of h m map ≡ None
  stretch_accepted e start = e
  stretch_accepted e (step {es} {h} {m} r source ns np) = step_accepted source h m map (stretch_accepted e r)

  not_over : (budget : ℕ) → refusal_of h₀ m₀ map ≡ None → budget ≤ 1000000 → run_refusal_of budget h₀ m₀ map ≡ None
  unfolding run_refusal_of
  not_over budget e l = rw (e, le-ltb 1000000 budget l)

  -- the promise of a call `run`, of what it leaves
  pub run_keeps : (budget : ℕ) → ShadowStarts map h₀ m₀ → budget ≤ 1000000 → Undisturbed budget h₀ m₀ map
      → Promise map h₀ m₀ (run_events budget h₀ m₀ map)
      (run_call_of budget h₀ m₀ map).answer.hart (run_call_of budget h₀ m₀ map).memory (is_some (run_call_of budget h₀ m₀ map).answer.trap)
  run_keeps budget S l calm =
      let s : Leaves (run_events budget h₀ m₀ map) (run_call_of budget h₀ m₀ map) =
      rw append-nil at (run_call [] h₀ m₀ start budget (not_over budget S.accepted l) calm) in
      shadow_stack map h₀ m₀ S _ _ _ _ s
