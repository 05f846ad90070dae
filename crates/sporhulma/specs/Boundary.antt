-- The calls for C: what each leaves, in every word and byte, through the definitions of crate `run_call`. Rule 2.12 of docs/HART.md.
--
-- Below, x and rest are the words of the hart, m memory, map the page map.
use Rattle.std.specs.Prelude.{Option, Some, None, List, [], ◌∷◌, ℕ}
use Rattle.step_meaning.specs.declared.Source.{Source}
use Rattle.step_hart.specs.Run.{run_from}
use Rattle.step_hart.specs.Hart.{hart}
use Rattle.run_call.specs.declared.Refusal.{Refusal}
use Rattle.run_call.specs.Call.{Called, refusal_number, run_refusal_of, called_of, step_call_of, step_word_call, run_call_of}

-- what a call leaves: its result, the hart's words, the three words of its answer (count, trapped, cause), and memory
pub record Left : Type 0 where
  pub result : ℕ
  pub x : List ℕ
  pub rest : List ℕ
  pub answer : List ℕ
  pub memory : List ℕ

-- the result: the refusal's number, and 0 where there is none
abbrev pub result_of : Option Refusal → ℕ
result_of None = 0
result_of (Some n) = refusal_number n

-- whether a run trapped, as 1 or 0, and the cause, or 0
abbrev pub trapped_word : Option ℕ → ℕ
trapped_word None = 0
trapped_word (Some cause) = 1

abbrev pub cause_word : Option ℕ → ℕ
cause_word None = 0
cause_word (Some cause) = cause

-- what a call on the hart of the words leaves, as words; any words may be given, and those of no hart are refusal 1 (an elp of neither 0 nor 1 too)
abbrev pub left_by : Called → Left
left_by c = record {
  result = result_of c.answer.refusal;
  x = c.answer.hart.x;
  rest = c.answer.hart.words;
  answer = c.answer.count ∷ trapped_word c.answer.trap ∷ cause_word c.answer.trap ∷ [];
  memory = c.memory;
}

unfoldable pub step_left_of : (x rest m map : List ℕ) → Left
step_left_of x rest m map = left_by (step_call_of (hart x rest) m map)

unfoldable pub step_word_left : (word : ℕ) → (x rest m map : List ℕ) → Left
step_word_left word x rest m map = left_by (step_word_call word (hart x rest) m map)

unfoldable pub run_left : (budget : ℕ) → (x rest m map : List ℕ) → Left
run_left budget x rest m map = left_by (run_call_of budget (hart x rest) m map)

-- all three at once: a run whose first word comes from a source (`Rattle.sporhulma.proofs.One` says that each is one)
unfoldable pub left_from : Source → (budget : ℕ) → (x rest m map : List ℕ) → Left
left_from source budget x rest m map =
    left_by (called_of (run_refusal_of budget (hart x rest) m map) (hart x rest) m (run_from source budget (hart x rest) m map))
