-- The quick way through a run: instructions done in place, one after the other, while no landing pad is expected. It keeps pc aside, in a machine
-- register. Rule 10.10 of docs/HART.md.
--
-- Below, x are the registers, w the hart's other words, m memory; a name with ' is what it is afterwards.
use Rattle.std.specs.Prelude.{Bool, true, false, Option, Some, None, List, ◌≡◌, ℕ, length, Ok}
use Rattle.step_meaning.specs.declared.Source.TheVariants.{Fetch}
use Rattle.step_meaning.specs.Plan.{fetched_of}
use Rattle.csr_words.specs.Words.{◌of◌, ◌but◌≔◌, COUNT, PC, ELP}
use Rattle.csr_words.specs.Setting.{setting_of}
use Rattle.step_hart.specs.Hart.{hart}
use Rattle.step_hart.specs.Run.{run_from, Midway}
use Rattle.step_hart.specs.Step.{step_from}
use Rattle.step_hart.specs.declared.Hart.{Hart}
use Rattle.run_turn.specs.declared.Glided.{Glided}

-- the hart at pc of these words, whose own word of it is old
abbrev pub hart_at : (pc : ℕ) → (x w : List ℕ) → Hart
hart_at pc x w = hart x (w but PC ≔ pc)

-- a hart's words, and no landing pad is expected
abbrev pub Straight : (w : List ℕ) → Type 0
Straight w = (length w ≡ COUNT) × (ELP of w ≡ 0)

-- word stands at pc
abbrev pub Fetches : (word pc : ℕ) → (w m map : List ℕ) → Type 0
Fetches word pc w m map = fetched_of Fetch (setting_of w).control pc m map ≡ Ok word

-- a step that fetches was taken, without a trap, and the mode and CSRs say what they said; or nothing changed
abbrev pub Turned : (done : Bool) → (pc : ℕ) → (x w m map : List ℕ) → (pc' : ℕ) → (x' w' m' : List ℕ) → Type 0
Turned true pc x w m map pc' x' w' m' =
    ((step_from Fetch (hart_at pc x w) m map).trapped ≡ false)
    × ((step_from Fetch (hart_at pc x w) m map).hart ≡ hart_at pc' x' w')
    × ((step_from Fetch (hart_at pc x w) m map).memory ≡ m')
    × Straight w'
    × (setting_of w' ≡ setting_of w)
Turned false pc x w m map pc' x' w' m' = (x' ≡ x) × (w' ≡ w) × (m' ≡ m)

-- the same of what tells where pc goes on, if a step was taken
abbrev pub TurnTaken : Option ℕ → (pc : ℕ) → (x w m map : List ℕ) → (x' w' m' : List ℕ) → Type 0
TurnTaken (Some pc') pc x w m map x' w' m' = Turned true pc x w m map pc' x' w' m'
TurnTaken None pc x w m map x' w' m' = Turned false pc x w m map pc x' w' m'

-- some of a run's steps were taken, and none of them trapped
abbrev pub Glides : (budget pc : ℕ) → (x w m map : List ℕ) → Glided → (x' w' m' : List ℕ) → Type 0
Glides budget pc x w m map g x' w' m' =
    Midway (run_from Fetch budget (hart_at pc x w) m map) budget g.left Fetch (hart_at g.pc x' w') m' map
