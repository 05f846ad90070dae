-- A refusal changes nothing: where the result of a call is not 0, every word of x and rest and every byte of memory is as given, and
-- the answer is 0, 0, 0 (`step_keeps`, `step_word_keeps`, `run_keeps`; for a load `load_keeps`). The words may be any, also those that are no hart.
-- Assumes nothing.
use mathlib.Core.List.{List, [], ◌∷◌}
use mathlib.Core.Path.{◌≡◌, refl, ap, ◌∙◌}
use Rattle.std.specs.Prelude.{Option, Some, None, Result, Ok, Err, is_err}
use Prim.Native.Nat.{ℕ}
use Rattle.step_meaning.specs.declared.Source.TheVariants.{Fetch, Given}
use Rattle.step_hart.specs.Hart.{hart}
use Rattle.step_hart.specs.Run.{Run, once, run_of}
use Rattle.step_hart.specs.Step.{step_from}
use Rattle.run_call.specs.declared.Refusal.{Refusal}
use Rattle.run_call.specs.Call.{called_of, refusal_of, run_refusal_of, step_from_call, run_call_of}
use Rattle.intel_hex.specs.Load.{line_of, load_hex_of}
use Rattle.intel_hex.specs.declared.Refusal.{Refusal as LoadRefusal}
use Rattle.intel_hex.proofs.Kept.{refused_changes_nothing}
use Rattle.sporhulma.specs.Load.{load_left_by, load_left}
use Rattle.sporhulma.specs.Boundary.{Left, left_by, step_left_of, step_word_left, run_left}

-- what a call leaves where it changes nothing
abbrev pub Kept : (x rest m : List ℕ) → Left → Type 0
Kept x rest m l = (l.x ≡ x) × (l.rest ≡ rest) × (l.memory ≡ m) × (l.answer ≡ (0 ∷ 0 ∷ 0 ∷ []))

module _ (x rest m : List ℕ) (r : Run) where
  -- each call is `left_by` of such a `called_of`
  refusal_keeps : (n : Option Refusal) → ((left_by (called_of n (hart x rest) m r)).result ≡ 0 → ⊥) → Kept x rest m (left_by (called_of n (hart x rest) m r))
  refusal_keeps None ne = absurd (ne refl)
  refusal_keeps (Some n) ne = (refl, refl, refl, refl)

module _ (x rest m map : List ℕ) where
  pub step_keeps : ((step_left_of x rest m map).result ≡ 0 → ⊥) → Kept x rest m (step_left_of x rest m map)
  unfolding step_left_of step_from_call
  step_keeps = refusal_keeps x rest m (once (step_from Fetch (hart x rest) m map)) (refusal_of (hart x rest) m map)

  pub step_word_keeps : (word : ℕ) → ((step_word_left word x rest m map).result ≡ 0 → ⊥) → Kept x rest m (step_word_left word x rest m map)
  unfolding step_word_left step_from_call
  step_word_keeps word =
      refusal_keeps x rest m (once (step_from (Given word) (hart x rest) m map)) (refusal_of (hart x rest) m map)

  pub run_keeps : (budget : ℕ) → ((run_left budget x rest m map).result ≡ 0 → ⊥) → Kept x rest m (run_left budget x rest m map)
  unfolding run_left run_call_of
  run_keeps budget = refusal_keeps x rest m (run_of budget (hart x rest) m map) (run_refusal_of budget (hart x rest) m map)

-- what a load leaves in words, by its answer
by_answer : (a : Result (Option ℕ) LoadRefusal) (m : List ℕ) → ((load_left_by a m).result ≡ 0 → ⊥)
    → ((load_left_by a m).memory ≡ m) × ((e : LoadRefusal) × (a ≡ Err e) × ((load_left_by a m).answer ≡ (line_of e ∷ 0 ∷ 0 ∷ [])))
by_answer (Ok None) m h = absurd (h refl)
by_answer (Ok (Some start)) m h = absurd (h refl)
by_answer (Err e) m h = (refl, (e, refl, refl))

-- a refused load changes no byte, and hands back no start address: its first word is the line that the refusal names
pub load_keeps : (text mem : List ℕ) → ((load_left text mem).result ≡ 0 → ⊥)
    → ((load_left text mem).memory ≡ mem)
    × ((e : LoadRefusal) × ((load_hex_of text mem).answer ≡ Err e) × ((load_left text mem).answer ≡ (line_of e ∷ 0 ∷ 0 ∷ [])))
load_keeps text mem h =
    let (m, (e, a, w)) = by_answer (load_hex_of text mem).answer (load_hex_of text mem).memory h in
    (m ∙ refused_changes_nothing text mem (ap is_err a), (e, a, w))
