-- What the quick way does with an instruction: it does all that the instruction's effect says, or it leaves everything as it was.
-- Rule 10.10 of docs/HART.md.
--
-- Below, x are the registers, rest the hart's other words, m memory; a name with ' is what it is afterwards. s is what the hart's mode and CSRs say.
use Rattle.std.specs.Prelude.{Bool, true, false, Option, Some, None, List, ◌≡◌, ℕ}
use Rattle.word.specs.declared.field.Fields.{Fields}
use Rattle.word.specs.Sum.{sum_of}
use Rattle.isa.specs.declared.Instruction.{Instruction}
use Rattle.address.specs.Control.{flat_of}
use Rattle.csr_setting.specs.declared.Setting.{Setting}
use Rattle.csr_words.specs.Words.{◌but◌≔◌, SSP}
use Rattle.step_effect.specs.Register.{reg_of, put_of}
use Rattle.step_effect.specs.declared.Effect.{Effect}
use Rattle.step_effect.specs.declared.Effect.TheVariants.{Write, Jump, Pad, Store, Push, Pop, Swap, Privileged, Trap}
use Rattle.step_transfer.specs.Commit.{memory_of}
use Rattle.step_meaning.specs.Instruction.{next_of, execute_of}

-- an effect was applied: pc', registers, words and memory are what it says. It never is a trap, nor a jump to a landing pad, nor
-- one that changes more than these
abbrev pub Applied : Effect → (x rest m : List ℕ) → (pc' : ℕ) → (x' rest' m' : List ℕ) → Type 0
Applied (Write rd v next) x rest m pc' x' rest' m' = (pc' ≡ next) × (x' ≡ put_of rd v x) × (rest' ≡ rest) × (m' ≡ m)
Applied (Jump rd link next pad) x rest m pc' x' rest' m' =
    (pad ≡ false) × (pc' ≡ next) × (x' ≡ put_of rd link x) × (rest' ≡ rest) × (m' ≡ m)
Applied (Pad next) x rest m pc' x' rest' m' = ⊥
Applied (Store q w v next) x rest m pc' x' rest' m' =
    (pc' ≡ next) × (x' ≡ x) × (rest' ≡ rest) × (m' ≡ memory_of (Store q w v next) m)
Applied (Push q v top next) x rest m pc' x' rest' m' =
    (pc' ≡ next) × (x' ≡ x) × (rest' ≡ rest but SSP ≔ top) × (m' ≡ memory_of (Push q v top next) m)
Applied (Pop top next) x rest m pc' x' rest' m' = (pc' ≡ next) × (x' ≡ x) × (rest' ≡ rest but SSP ≔ top) × (m' ≡ m)
Applied (Swap rd old q w v next) x rest m pc' x' rest' m' = ⊥
Applied (Privileged k) x rest m pc' x' rest' m' = ⊥
Applied (Trap cause tval) x rest m pc' x' rest' m' = ⊥

-- done, or nothing changed
abbrev pub Does : (done : Bool) → Effect → (x rest m : List ℕ) → (pc' : ℕ) → (x' rest' m' : List ℕ) → Type 0
Does true e x rest m pc' x' rest' m' = Applied e x rest m pc' x' rest' m'
Does false e x rest m pc' x' rest' m' = (x' ≡ x) × (rest' ≡ rest) × (m' ≡ m)

-- the same of what tells where pc goes on, if the instruction was done
abbrev pub Done : Option ℕ → Effect → (x rest m : List ℕ) → (x' rest' m' : List ℕ) → Type 0
Done (Some pc') e x rest m x' rest' m' = Does true e x rest m pc' x' rest' m'
Done None e x rest m x' rest' m' = Does false e x rest m 0 x' rest' m'

-- what a load with these fields and this offset puts into its register, from address a and memory m, where loads are neither masked nor translated
abbrev pub Loads : Option ℕ → Instruction → Fields → (off a : ℕ) → (m : List ℕ) → Type 0
Loads (Some v) i f off a m =
    (w pc ssp : ℕ) (x map : List ℕ) (s : Setting) → flat_of s.control ≡ true → a ≡ sum_of (reg_of x f.rs1) off
    → execute_of i w x pc ssp s m map ≡ Write f.rd v (next_of pc)
Loads None i f off a m = Unit {0}
