-- What a word of OP, OP-IMM or their word forms writes: it touches its register and pc alone. Rule 10.10 of docs/HART.md.
use Rattle.std.specs.Prelude.{Option, Some, None, List, ◌≡◌, ℕ}
use Rattle.word.specs.declared.field.Fields.{Fields}
use Rattle.isa.specs.declared.Instruction.{Instruction}
use Rattle.step_effect.specs.Register.{reg_of}
use Rattle.csr_setting.specs.declared.Setting.{Setting}
use Rattle.step_effect.specs.declared.Effect.TheVariants.{Write}
use Rattle.step_meaning.specs.Instruction.{next_of, execute_of}

-- what an instruction with these fields writes, where its two registers hold a and b: if there is a value, rd takes it and nothing else happens
abbrev pub Writes : Option ℕ → Instruction → Fields → (a b : ℕ) → Type 0
Writes (Some v) i f a b =
    (w pc ssp : ℕ) (x : List ℕ) (s : Setting) (m map : List ℕ) → reg_of x f.rs1 ≡ a → reg_of x f.rs2 ≡ b
    → execute_of i w x pc ssp s m map ≡ Write f.rd v (next_of pc)
Writes None i f a b = Unit {0}
