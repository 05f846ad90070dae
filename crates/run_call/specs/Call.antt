-- The public calls: `step_call_of` fetches at pc, `step_word_call` takes a given word, `run_call_of` makes a run. Each gives the whole
-- outcome: the answer, and all of memory. Rules 2.1 and 2.7 to 2.9 of docs/HART.md.
--
-- Below, h is the hart, m memory, map the page map.
use Rattle.std.specs.Prelude.{Bool, not, Option, Some, None, List, ℕ, ltb, length}
use Rattle.word.specs.Choice.{pick}
use Rattle.memory.specs.Refusal as memory
use Rattle.address_page.specs.Map as page
use Rattle.step_meaning.specs.declared.Source.{Source}
use Rattle.step_meaning.specs.declared.Source.TheVariants.{Fetch, Given}
use Rattle.step_hart.specs.Hart.{legal}
use Rattle.step_hart.specs.Run.{Run, once, run_of}
use Rattle.step_hart.specs.Step.{step_from, trap_told}
use Rattle.step_hart.specs.declared.Hart.{Hart}
use Rattle.run_call.specs.declared.Answer.{Answer}
use Rattle.run_call.specs.declared.Refusal.{Refusal}
use Rattle.run_call.specs.declared.Refusal.TheVariants as refusal

-- a refusal's number
abbrev pub refusal_number : Refusal → ℕ
refusal_number refusal.Hart = 1
refusal_number refusal.Memory = 2
refusal_number refusal.Map = 3
refusal_number refusal.Budget = 4

-- refusals 1 to 3, the one of the lowest number that applies, if one does
unfoldable pub refusal_of : Hart → (m map : List ℕ) → Option Refusal
refusal_of h m map =
    pick (not (legal h)) (Some refusal.Hart)
    (pick (memory.memory_refused_of (length m)) (Some refusal.Memory) (pick (page.map_refused_of map) (Some refusal.Map) None))

-- refusal 4, where no lower one applies
abbrev pub or_over : Option Refusal → (over : Bool) → Option Refusal
or_over (Some n) over = Some n
or_over None over = pick over (Some refusal.Budget) None

-- a run's also: a budget over 1,000,000 is refusal 4
unfoldable pub run_refusal_of : (budget : ℕ) → Hart → (m map : List ℕ) → Option Refusal
run_refusal_of budget h m map = or_over (refusal_of h m map) (ltb 1000000 budget)

-- what a call leaves: its answer, and memory
pub record Called : Type 0 where
  pub answer : Answer
  pub memory : List ℕ

-- a call that was refused says so, returns the hart as handed in and count 0, and memory is untouched
abbrev pub refused_with : Refusal → Hart → (m : List ℕ) → Called
refused_with n h m = record { answer = record { refusal = Some n; hart = h; count = 0; trap = None }; memory = m }

-- a call that was taken
abbrev pub taken_with : Run → Called
taken_with r = record {
  answer = record { refusal = None; hart = r.hart; count = r.count; trap = trap_told r.trapped r.cause };
  memory = r.memory;
}

-- by the refusal, if there is one
abbrev pub called_of : Option Refusal → Hart → (m : List ℕ) → Run → Called
called_of None h m r = taken_with r
called_of (Some n) h m r = refused_with n h m

unfoldable pub step_from_call : Source → Hart → (m map : List ℕ) → Called
step_from_call source h m map = called_of (refusal_of h m map) h m (once (step_from source h m map))

-- one step, which fetches at pc
abbrev pub step_call_of : Hart → (m map : List ℕ) → Called
step_call_of h m map = step_from_call Fetch h m map

-- one step with a given word, as if it had been fetched at pc
abbrev pub step_word_call : (word : ℕ) → Hart → (m map : List ℕ) → Called
step_word_call word h m map = step_from_call (Given word) h m map

-- a run ends after the first step that traps, or when the budget is spent
unfoldable pub run_call_of : (budget : ℕ) → Hart → (m map : List ℕ) → Called
run_call_of budget h m map = called_of (run_refusal_of budget h m map) h m (run_of budget h m map)
