-- Worked examples of the definitions, computed: where the next instruction is, and what JAL links.
-- Assumes nothing.
use mathlib.Core.List.{List}
use mathlib.Core.Path.{◌≡◌, refl}
use Prim.Native.Nat.{ℕ}
use Rattle.step_effect.specs.Jump.{jal_of}
use Rattle.step_effect.specs.declared.Effect.TheVariants.{Write}
use Rattle.csr_setting.specs.declared.Setting.{Setting}
use Rattle.isa.specs.declared.Instruction.TheVariants.{Jal}
use Rattle.step_meaning.specs.Instruction.{next_of, execute_of}

-- after the last word of the address space comes the first
pub last_wraps : next_of 0xFFFF_FFFF_FFFF_FFFC ≡ 0
last_wraps = refl

-- JAL x1, 8 at 0x1000
pub jal_links : (word : ℕ) (x : List ℕ) (ssp : ℕ) (s : Setting) (m map : List ℕ)
    → execute_of (Jal 1 8) word x 0x1000 ssp s m map ≡ Write 1 0x1004 0x1008
unfolding execute_of jal_of
jal_links word x ssp s m map = refl
