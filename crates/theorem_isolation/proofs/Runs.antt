-- Runs, calls and rows of calls: by induction over the steps of a run, and over the calls.
-- Assumes nothing.
use mathlib.Core.Bool.{Bool, true, false}
use mathlib.Core.List.{List, [], ◌∷◌}
use mathlib.Core.Path.{◌≡◌, refl, sym, ap, ap₂, ◌∙◌}
use Prim.Native.Nat.{ℕ, zero, suc, ◌+◌}
use Rattle.std.specs.Prelude.{Option, Some, None}
use Rattle.std.specs.Option.{is_some}
use Rattle.step_effect.specs.declared.Effect.{Effect}
use Rattle.step_meaning.specs.declared.Source.{Source}
use Rattle.step_meaning.specs.declared.Source.TheVariants.{Fetch, Given}
use Rattle.step_transfer.specs.Commit.{memory_of}
use Rattle.step_hart.specs.Run as run
use Rattle.step_hart.specs.Run.{Run, once, run_from}
use Rattle.step_hart.specs.Step.{apply_of, traps_of, outcome_of, plan_of, step_from}
use Rattle.step_hart.specs.declared.Hart.{Hart}
use Rattle.run_call.specs.Call.{Called, refusal_of, run_refusal_of, taken_with, called_of, step_from_call, run_call_of}
use Rattle.run_call.specs.declared.Answer.{Answer}
use Rattle.run_call.specs.declared.Refusal.{Refusal}
use Rattle.step_hart.proofs.Turns.{told_trapped}
use Rattle.theorem_isolation.specs.Unseen.{Alike, Keeps, Call, step, step_given_word, call_of, Session, call_followed, session_of}
use Rattle.theorem_isolation.specs.Unseen as unseen
use Rattle.theorem_isolation.proofs.Bytes.{keeps_all, keeps_on}
use Rattle.theorem_isolation.proofs.Steps.{Confined, Left, step_same, step_left, step_confined}

module _ (Of To : (o : ℕ) → Type 0) (map : List ℕ) where
  -- two runs, from memories m and n
  pub record Runs (m n : List ℕ) (r s : Run) : Type 0 where
    pub told : (taken_with r).answer ≡ (taken_with s).answer
    pub confined : r.trapped ≡ false → Confined Of To map r.hart
    pub alike : Alike Of r.memory s.memory
    pub own : Keeps To m r.memory
    pub own' : Keeps To n s.memory

  -- a step of effect e, and where it did not trap the rest of the run
  further : (t : Bool) (e : Effect) (h : Hart) (m n : List ℕ) (r s : Run) → traps_of e ≡ t → Left Of To map m n e
      → (traps_of e ≡ false → Confined Of To map (apply_of e h)) → (traps_of e ≡ false → Runs (memory_of e m) (memory_of e n) r s)
      → Runs m n (run.followed t (outcome_of e h m) r) (run.followed t (outcome_of e h n) s)
  further true e h m n r s t L c f =
      record { told = refl; confined = c; alike = L.alike; own = L.own; own' = L.own' }
  further false e h m n r s t L c f =
      let R = f t in
      record {
        told = ap (λ (x : Answer). record { refusal = None; hart = x.hart; count = 1 + x.count; trap = x.trap }) R.told;
        confined = R.confined;
        alike = R.alike;
        own = keeps_on To m (memory_of e m) r.memory L.own R.own;
        own' = keeps_on To n (memory_of e n) s.memory L.own' R.own';
      }

  pub runs : (k : ℕ) (source : Source) (h : Hart) (m n : List ℕ) → Confined Of To map h → Alike Of m n
      → Runs m n (run_from source k h m map) (run_from source k h n map)
  unfolding run_from step_from
  runs zero source h m n C A = record { told = refl; confined = λ t. C; alike = A; own = keeps_all To m; own' = keeps_all To n }
  runs (suc k) source h m n C A =
      let e : Effect = plan_of source h m map in
      let L : Left Of To map m n e = step_left Of To map source h m n C A in
      let c = step_confined Of To map source h m n C A in
      rw (← step_same Of To map source h m n C A)
      (further (traps_of e) e h m n _ _ refl L c
      (λ t. runs k Fetch (apply_of e h) (memory_of e m) (memory_of e n) (c t) L.alike))

  -- two calls
  pub record Calls (m n : List ℕ) (c d : Called) : Type 0 where
    pub answer : c.answer ≡ d.answer
    pub confined : is_some c.answer.trap ≡ false → Confined Of To map c.answer.hart
    pub alike : Alike Of c.memory d.memory
    pub own : Keeps To m c.memory
    pub own' : Keeps To n d.memory

  module _ (h : Hart) (m n : List ℕ) (C : Confined Of To map h) (A : Alike Of m n) where
    taken : (r s : Run) → Runs m n r s → Calls m n (taken_with r) (taken_with s)
    taken r s R = record {
      answer = R.told;
      confined = λ t. R.confined (sym (told_trapped r.trapped r.cause) ∙ t);
      alike = R.alike;
      own = R.own;
      own' = R.own';
    }

    called : (refusal : Option Refusal) (r s : Run) → Runs m n r s → Calls m n (called_of refusal h m r) (called_of refusal h n s)
    called None r s R = taken r s R
    called (Some k) r s R =
        record { answer = refl; confined = λ t. C; alike = A; own = keeps_all To m; own' = keeps_all To n }

    -- refusals ask the hart, memory's length and the map alone
    refusal_same : refusal_of h m map ≡ refusal_of h n map
    unfolding refusal_of
    refusal_same = rw A.long

    run_refusal_same : (budget : ℕ) → run_refusal_of budget h m map ≡ run_refusal_of budget h n map
    unfolding run_refusal_of
    run_refusal_same budget = rw refusal_same

    one_step : (source : Source) → Runs m n (once (step_from source h m map)) (once (step_from source h n map))
    unfolding step_from
    one_step source =
        let e : Effect = plan_of source h m map in
        let L : Left Of To map m n e = step_left Of To map source h m n C A in
        rw (← step_same Of To map source h m n C A)
        (record { told = refl; confined = step_confined Of To map source h m n C A; alike = L.alike; own = L.own; own' = L.own' })

    step_calls : (source : Source) → Calls m n (step_from_call source h m map) (step_from_call source h n map)
    unfolding step_from_call
    step_calls source = rw (← refusal_same) (called (refusal_of h m map) _ _ (one_step source))

    run_calls : (budget : ℕ) → Calls m n (run_call_of budget h m map) (run_call_of budget h n map)
    unfolding run_call_of
    run_calls budget =
        rw (← run_refusal_same budget)
        (called (run_refusal_of budget h m map) _ _ (runs budget Fetch h m n C A))

    pub calls : (c : Call) → Calls m n (call_of c h m map) (call_of c h n map)
    calls step = step_calls Fetch
    calls (step_given_word word) = step_calls (Given word)
    calls (unseen.run budget) = run_calls budget

  -- two rows of calls
  pub record Sessions (m n : List ℕ) (c d : Session) : Type 0 where
    pub answers : c.answers ≡ d.answers
    pub alike : Alike Of c.memory d.memory
    pub own : Keeps To m c.memory
    pub own' : Keeps To n d.memory

  going_on : (t : Bool) (m n : List ℕ) (c d : Called) (r s : Session) → is_some c.answer.trap ≡ t → Calls m n c d
      → (is_some c.answer.trap ≡ false → Sessions c.memory d.memory r s) → Sessions m n (call_followed t c r) (call_followed t d s)
  going_on true m n c d r s e K f =
      record { answers = ap (λ (a : Answer). a ∷ []) K.answer; alike = K.alike; own = K.own; own' = K.own' }
  going_on false m n c d r s e K f =
      let S = f e in
      record {
        answers = ap₂ (λ (a : Answer) (l : List Answer). a ∷ l) K.answer S.answers;
        alike = S.alike;
        own = keeps_on To m c.memory r.memory K.own S.own;
        own' = keeps_on To n d.memory s.memory K.own' S.own';
      }

  pub sessions : (cs : List Call) (h : Hart) (m n : List ℕ) → Confined Of To map h → Alike Of m n
      → Sessions m n (session_of cs h m map) (session_of cs h n map)
  unfolding session_of
  sessions [] h m n C A = record { answers = refl; alike = A; own = keeps_all To m; own' = keeps_all To n }
  sessions (c ∷ cs) h m n C A =
      let K = calls h m n C A c in
      rw (← K.answer)
      (going_on (is_some (call_of c h m map).answer.trap) m n (call_of c h m map) (call_of c h n map) _ _ refl K
      (λ t. sessions cs (call_of c h m map).answer.hart (call_of c h m map).memory (call_of c h n map).memory (K.confined t) K.alike))
