-- The next table's value, where this one says what it does.
-- Assumes nothing.
use mathlib.Core.Path.{◌≡◌}
use Prim.Native.Nat.{ℕ}
use Rattle.std.specs.Prelude.{Option}
use Rattle.word.specs.declared.field.Fields.{Fields}
use Rattle.isa.specs.declared.Instruction.{Instruction}
use Rattle.run_value.specs.Value.{Writes}

pub next_told : (t : Option ℕ) (i j : Instruction) (f : Fields) (a b : ℕ) → j ≡ i → Writes t j f a b → Writes t i f a b
next_told t i j f a b h w = rw (← h) w
