-- What the quick way does with an instruction that touches the registers and pc alone, and what it sees of memory. Rule 10.10 of docs/HART.md.
use Rattle.std.specs.Prelude.{Bool, Option, Some, None, List, ◌≡◌, ℕ, Ok}
use Rattle.isa.specs.declared.Instruction.{Instruction}
use Rattle.csr_setting.specs.declared.Setting.{Setting}
use Rattle.step_meaning.specs.Instruction.{execute_of}
use Rattle.step_meaning.specs.Plan.{Fetched}
use Rattle.run_done.specs.Moves.{Done}

-- an instruction that touches the registers and pc alone, whatever the rest of the hart and memory are; pad is the pad enable
abbrev pub Computes : Instruction → (w : ℕ) → (x : List ℕ) → (pc : ℕ) → (pad : Bool) → Option ℕ → (x' : List ℕ) → Type 0
Computes i w x pc pad t x' =
    (ssp : ℕ) (s : Setting) (rest m map : List ℕ) → s.pad ≡ pad
    → Done t (execute_of i w x pc ssp s m map) x rest m x' rest m

-- a word that was seen is the one that a fetch gives
abbrev pub Sees : Option ℕ → Fetched → Type 0
Sees (Some word) f = f ≡ Ok word
Sees None f = Unit {0}
