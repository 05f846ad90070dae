-- The register that is written by what `run_value` tells of a word.
-- Assumes nothing.
use mathlib.Core.Bool.{Bool}
use mathlib.Core.List.{List}
use mathlib.Core.Path.{◌≡◌, sym, ap, ◌∙◌}
use Prim.Native.Nat.{ℕ}
use Rattle.std.specs.Prelude.{Option, Some}
use Rattle.word.specs.declared.field.Fields.{Fields}
use Rattle.isa.specs.declared.Instruction.{Instruction}
use Rattle.step_effect.specs.Register.{reg_of, put_of}
use Rattle.step_effect.specs.declared.Effect.TheVariants.{Write}
use Rattle.step_meaning.specs.Instruction.{next_of, execute_of}
use Rattle.run_quick.specs.Quick.{Computes}
use Rattle.run_value.specs.Value.{Writes}
use Rattle.run_done.proofs.Ways.{wrote_does}

-- rd took the value: what the instruction of the word does
pub value_does : (t : Option ℕ) (v : ℕ) (i j : Instruction) (f : Fields) (a b next w pc : ℕ) (pad : Bool) (x x' : List ℕ) → i ≡ j
    → Writes (Some v) i f a b → a ≡ reg_of x f.rs1 → b ≡ reg_of x f.rs2 → next ≡ next_of pc
    → (t ≡ Some next) × (x' ≡ put_of f.rd v x)
    → Computes j w x pc pad t x'
value_does t v i j f a b next w pc pad x x' same told p q n done ssp s rest m map e =
    let effect : execute_of j w x pc ssp s m map ≡ Write f.rd v next =
    ap (λ (d : Instruction). execute_of d w x pc ssp s m map) (sym same) ∙ told w pc ssp x s m map (sym p) (sym q)
    ∙ ap (λ (d : ℕ). Write f.rd v d) (sym n) in
    wrote_does t f.rd v next x x' done _ effect rest m
