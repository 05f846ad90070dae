-- JAL, JALR and branches. A misaligned jump target is cause 0, tval the plain target; a branch's only where it is taken.
-- Rules 4.17 to 4.20 and 9.2 of docs/HART.md.
use Rattle.std.specs.Prelude.{Bool, ◌&&◌, ◌||◌, not, ℕ, ◌-◌, ◌%◌, eqb}
use Rattle.word.specs.Choice.{pick}
use Rattle.isa.specs.declared.Kind.TheVariants.{Fetch}
use Rattle.address.specs.Cause.{misaligned_of}
use Rattle.step_effect.specs.declared.Effect.{Effect}
use Rattle.step_effect.specs.declared.Effect.TheVariants.{Write, Jump, Trap}

-- to a target, with the link in rd; a misaligned one is an exception, and then rd is not written
unfoldable pub jal_of : (rd link target : ℕ) → Effect
jal_of rd link target = pick (eqb (target % 4) 0) (Write rd link target) (Trap (misaligned_of Fetch) target)

-- rs1 is x1, x5 or x7: a jump through them needs no landing pad
abbrev pub needs_no_pad_of : (rs1 : ℕ) → Bool
needs_no_pad_of rs1 = eqb rs1 1 || (eqb rs1 5 || eqb rs1 7)

-- JALR clears bit 0 of its target
abbrev pub even_of : ℕ → ℕ
even_of target = target - target % 2

-- after JALR, ELP is 1 exactly if the pad enable is set and rs1 is not x1, x5 or x7
unfoldable pub jalr_of : (rd rs1 link target : ℕ) → (pad : Bool) → Effect
jalr_of rd rs1 link target pad =
    pick (eqb (even_of target % 4) 0)
    (Jump rd link (even_of target) (pad && not (needs_no_pad_of rs1)))
    (Trap (misaligned_of Fetch) (even_of target))

-- to the target if it is taken, else to the next instruction
unfoldable pub branch_of : (taken : Bool) → (next target : ℕ) → Effect
branch_of taken next target = pick taken (jal_of 0 0 target) (Write 0 0 next)
