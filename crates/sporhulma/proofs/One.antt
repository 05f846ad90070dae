-- Each of the three calls is a run whose first word comes from a source: a step is a run of one, to which refusal 4 never applies.
-- Assumes nothing.
use mathlib.Core.Bool.{false}
use Rattle.std.specs.Prelude.{Option, Some, None}
use mathlib.Core.List.{List}
use mathlib.Core.Path.{◌≡◌, refl, ap}
use Prim.Native.Nat.{ℕ}
use Rattle.step_meaning.specs.declared.Source.{Source}
use Rattle.step_meaning.specs.declared.Source.TheVariants.{Fetch, Given}
use Rattle.step_hart.specs.Hart.{hart}
use Rattle.step_hart.specs.Run.{run_from}
use Rattle.step_hart.specs.declared.Hart.{Hart}
use Rattle.step_hart.proofs.Turns.{one_step}
use Rattle.run_call.specs.declared.Refusal.{Refusal}
use Rattle.run_call.specs.Call.{refusal_of, or_over, run_refusal_of, called_of, step_from_call, run_call_of}
use Rattle.sporhulma.specs.Boundary.{left_by, step_left_of, step_word_left, run_left, left_from}

none_more : (n : Option Refusal) → or_over n false ≡ n
none_more None = refl
none_more (Some n) = refl

step_called : (source : Source) (h : Hart) (m map : List ℕ)
    → step_from_call source h m map ≡ called_of (run_refusal_of 1 h m map) h m (run_from source 1 h m map)
unfolding step_from_call run_refusal_of
step_called source h m map = rw (one_step source h m map, none_more (refusal_of h m map))

module _ (x rest m map : List ℕ) where
  pub step_one : step_left_of x rest m map ≡ left_from Fetch 1 x rest m map
  unfolding step_left_of left_from
  step_one = ap left_by (step_called Fetch (hart x rest) m map)

  pub step_word_one : (word : ℕ) → step_word_left word x rest m map ≡ left_from (Given word) 1 x rest m map
  unfolding step_word_left left_from
  step_word_one word = ap left_by (step_called (Given word) (hart x rest) m map)

  pub run_one : (budget : ℕ) → run_left budget x rest m map ≡ left_from Fetch budget x rest m map
  unfolding run_left run_call_of left_from
  run_one budget = refl
