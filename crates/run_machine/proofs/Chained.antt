-- Calls chain: a run of a steps and then, where that did not trap, one of b steps from the hart and memory that it left, by two
-- calls, is the run of a + b steps (`calls_chain`, for budgets that the calls take, whatever their sum), and where a + b is no
-- more than a call takes, it is one call (`call_chains`). The second call is taken where the first one was: what a call leaves
-- passes refusal 1, memory keeps its length, and the map is the same (`left_accepted`, `step_accepted`).
-- Assumes nothing.
use mathlib.Core.Bool.{Bool, true, false}
use mathlib.Core.List.{List}
use mathlib.Core.Path.{◌≡◌, refl, sym, ap, ◌∙◌}
use Prim.Native.Nat.{ℕ, ◌+◌, ◌≤◌}
use native.Mathlib.Omega.{arith}
use borrow.Author.Tests.{le-ltb, not-false}
use lib.Dec.{ltb}
use Rattle.std.specs.Prelude.{Option, Some, None}
use Rattle.std.specs.Option.{is_some}
use Rattle.step_meaning.specs.declared.Source.{Source}
use Rattle.step_meaning.specs.declared.Source.TheVariants.{Fetch}
use Rattle.step_hart.specs.Hart.{legal}
use Rattle.step_hart.specs.Run.{Run, run_from, run_of}
use Rattle.step_hart.specs.Step.{step_from}
use Rattle.step_hart.specs.declared.Hart.{Hart}
use Rattle.step_hart.proofs.Steps.{step_legal, step_length, run_legal, run_length}
use Rattle.step_hart.proofs.Compose.{onward, run_composes}
use Rattle.step_hart.proofs.Turns.{told_trapped}
use Rattle.run_call.specs.Call.{Called, refusal_of, or_over, run_refusal_of, refused_with, taken_with, called_of, run_call_of}
use Rattle.run_call.specs.declared.Refusal.{Refusal}
use Rattle.run_call.proofs.Accepted.{no_refusal}

-- a call's outcome, with k steps that were taken before it
abbrev pub counted : (k : ℕ) → Called → Called
counted k c = record {
  answer = record {
    refusal = c.answer.refusal;
    hart = c.answer.hart;
    count = k + c.answer.count;
    trap = c.answer.trap;
  };
  memory = c.memory;
}

-- a call, and where it did not trap the next one, its steps counted on
abbrev pub followed_by : (trapped : Bool) → Called → (rest : Called) → Called
followed_by true c rest = c
followed_by false c rest = counted c.answer.count rest

-- a call c, and then a run of b steps from the hart and memory that it left
abbrev pub then_call : Called → (b : ℕ) → (map : List ℕ) → Called
then_call c b map = followed_by (is_some c.answer.trap) c (run_call_of b c.answer.hart c.memory map)

-- a budget that is not too large adds no refusal
within_budget : (n : Option Refusal) (budget : ℕ) → budget ≤ 1000000 → or_over n (ltb 1000000 budget) ≡ n
within_budget None budget l = rw (le-ltb 1000000 budget l)
within_budget (Some n) budget l = refl

-- one after the other, as runs and as calls
taken_each : (t : Bool) (r s : Run) → taken_with (onward t r s) ≡ followed_by t (taken_with r) (taken_with s)
taken_each true r s = refl
taken_each false r s = refl

-- refusals 1 to 3 do not apply to what a run leaves, where they did not apply before, whatever its first word came from
pub left_accepted : (source : Source) (budget : ℕ) (h : Hart) (m map : List ℕ) → refusal_of h m map ≡ None
    → refusal_of (run_from source budget h m map).hart (run_from source budget h m map).memory map ≡ None
unfolding refusal_of
left_accepted source budget h m map e =
    let (p, q, r) = no_refusal h m map e in
    rw (run_legal source budget h m map (not-false (legal h) p), run_length source budget h m map, q, r)

-- nor to what a step leaves, fetched or given
pub step_accepted : (source : Source) (h : Hart) (m map : List ℕ) → refusal_of h m map ≡ None
    → refusal_of (step_from source h m map).hart (step_from source h m map).memory map ≡ None
unfolding refusal_of
step_accepted source h m map e =
    let (p, q, r) = no_refusal h m map e in
    rw (step_legal source h m map (not-false (legal h) p), step_length source h m map, q, r)

module _ (budget : ℕ) (h : Hart) (m map : List ℕ) where
  -- refusals 1 to 3 decide, where the budget is not too large
  by_refusal : budget ≤ 1000000 → run_call_of budget h m map ≡ called_of (refusal_of h m map) h m (run_of budget h m map)
  unfolding run_call_of run_refusal_of
  by_refusal l = ap (λ (n : Option Refusal). called_of n h m (run_of budget h m map)) (within_budget (refusal_of h m map) budget l)

  taken : budget ≤ 1000000 → refusal_of h m map ≡ None → run_call_of budget h m map ≡ taken_with (run_of budget h m map)
  taken l e = by_refusal l ∙ ap (λ (n : Option Refusal). called_of n h m (run_of budget h m map)) e

  refused : budget ≤ 1000000 → (n : Refusal) → refusal_of h m map ≡ Some n → run_call_of budget h m map ≡ refused_with n h m
  refused l n e = by_refusal l ∙ ap (λ (o : Option Refusal). called_of o h m (run_of budget h m map)) e

-- two calls, of budgets that a call takes, give the run of the sum: so a host may go on for as long as it likes
pub calls_chain : (a b : ℕ) (h : Hart) (m map : List ℕ) → a ≤ 1000000 → b ≤ 1000000 → refusal_of h m map ≡ None
    → then_call (run_call_of a h m map) b map ≡ taken_with (run_of (a + b) h m map)
calls_chain a b h m map la lb e =
    let r : Run = run_of a h m map in
    let s : Run = run_of b r.hart r.memory map in
    ap (λ (c : Called). then_call c b map) (taken a h m map la e)
    ∙ ap (λ (t : Bool). followed_by t (taken_with r) (run_call_of b r.hart r.memory map)) (told_trapped r.trapped r.cause)
    ∙ ap (followed_by r.trapped (taken_with r)) (taken b r.hart r.memory map lb (left_accepted Fetch a h m map e))
    ∙ sym (taken_each r.trapped r s)
    ∙ sym (ap taken_with (run_composes a b h m map))

-- one call and two are the same, those that refusals 1 to 3 apply to included: then each gives the same refusal
module _ (a b : ℕ) (h : Hart) (m map : List ℕ) (l : a + b ≤ 1000000) where
  chains_taken : refusal_of h m map ≡ None → run_call_of (a + b) h m map ≡ then_call (run_call_of a h m map) b map
  chains_taken e = taken (a + b) h m map l e ∙ sym (calls_chain a b h m map (omega arith) (omega arith) e)

  chains_refused : (n : Refusal) → refusal_of h m map ≡ Some n → run_call_of (a + b) h m map ≡ then_call (run_call_of a h m map) b map
  chains_refused n e =
      refused (a + b) h m map l n e
      ∙ ap (counted 0) (sym (refused b h m map (omega arith) n e))
      ∙ ap (λ (c : Called). then_call c b map) (sym (refused a h m map (omega arith) n e))

  pub call_chains : run_call_of (a + b) h m map ≡ then_call (run_call_of a h m map) b map
  call_chains = go (refusal_of h m map) refl
    where
      go : (z : Option Refusal) → refusal_of h m map ≡ z → run_call_of (a + b) h m map ≡ then_call (run_call_of a h m map) b map
      go None e = chains_taken e
      go (Some n) e = chains_refused n e
