-- What a call leaves, by what it answers: refused, the words as they were; taken, the run's.
-- Assumes nothing.
use mathlib.Core.Bool.{Bool, true, false}
use mathlib.Core.List.{List, [], ◌∷◌}
use mathlib.Core.Path.{◌≡◌, refl}
use Prim.Native.Nat.{ℕ, ◌<◌}
use native.Mathlib.Omega.{arith}
use borrow.Author.Tests.{ltb-true}
use Rattle.std.specs.Prelude.{Option, Some, None}
use Rattle.step_meaning.specs.declared.Source.{Source}
use Rattle.csr_words.specs.Words.{◌of◌, ELP}
use Rattle.step_hart.specs.Hart.{hart, legal}
use Rattle.step_hart.specs.Run.{Run, run_from}
use Rattle.step_hart.specs.Step.{trap_told}
use Rattle.step_hart.proofs.Steps.{lawful_hart}
use Rattle.run_engine.specs.Told.{told_of}
use Rattle.run_engine.specs.declared.run.Told.{Told}
use Rattle.run_call.specs.Call.{refusal_of, run_refusal_of, refused_with, taken_with}
use Rattle.run_call.specs.declared.Refusal.{Refusal}
use Rattle.run_call.specs.declared.Refusal.TheVariants as refusal
use Rattle.sporhulma.specs.Boundary.{trapped_word, cause_word, left_by, left_from}

module _ (source : Source) (budget : ℕ) (x rest m map : List ℕ) where
  pub taken : run_refusal_of budget (hart x rest) m map ≡ None
      → left_from source budget x rest m map ≡ left_by (taken_with (run_from source budget (hart x rest) m map))
  unfolding left_from
  taken z = rw z

  pub refused : (n : Refusal) → run_refusal_of budget (hart x rest) m map ≡ Some n
      → left_from source budget x rest m map ≡ left_by (refused_with n (hart x rest) m)
  unfolding left_from
  refused n z = rw z

  -- refusal 1 is the lowest
  first_of_all : legal (hart x rest) ≡ false → run_refusal_of budget (hart x rest) m map ≡ Some refusal.Hart
  unfolding run_refusal_of refusal_of
  first_of_all e = rw e

  -- an elp of neither 0 nor 1 is refusal 1
  pub other_elp : 1 < ELP of rest → left_from source budget x rest m map ≡ left_by (refused_with refusal.Hart (hart x rest) m)
  unfolding left_from
  other_elp l = go (legal (hart x rest)) refl
    where
      go : (b : Bool) → legal (hart x rest) ≡ b → left_from source budget x rest m map ≡ left_by (refused_with refusal.Hart (hart x rest) m)
      go true e = absurd (omega (arith, l, ltb-true (ELP of rest) 2 ((lawful_hart (hart x rest) e).words.fit ELP)))
      go false e = rw (first_of_all e)

-- the three words of an answer, from what the run tells
pub told : (r : Run) (t : Told) → t ≡ told_of r → (trap : Option ℕ) → t.trap ≡ trap
    → ◌≡◌ {A = List ℕ} (t.count ∷ trapped_word trap ∷ cause_word trap ∷ [])
    (r.count ∷ trapped_word (trap_told r.trapped r.cause) ∷ cause_word (trap_told r.trapped r.cause) ∷ [])
told r t e trap f = rw (← f, e)
