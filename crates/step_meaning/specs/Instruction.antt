-- One instruction's effect: what RV64I, ECALL, EBREAK, the CSR instructions, MRET, SRET, Zimop, Zicfiss and Zicfilp do, from
-- the registers x, pc, ssp, what the hart's mode and CSRs say (s), memory m and the map. Rules of docs/HART.md: chapter 4, 8.6 and 9.2.
use Rattle.std.specs.Prelude.{Bool, List, ℕ}
use Rattle.word.specs.Choice.{pick}
use Rattle.word.specs.Sum.{sum_of}
use Rattle.isa.specs.declared.Instruction.{Instruction}
use Rattle.isa.specs.declared.Instruction.TheVariants.{Illegal, Lui, Auipc, Jal, Jalr, Branch, Memory, OpImm, OpImm32, Op, Op32, Fence, Ecall}
use Rattle.isa.specs.declared.Instruction.TheVariants.{Ebreak, Sret, Mret, Csr, ReadSsp, MopR, MopRr}
use Rattle.csr_access.specs.Exception.{illegal_of, breakpoint_of, ecall_of}
use Rattle.step_transfer.specs.Access.{access_of}
use Rattle.step_effect.specs.Compute.{operation_of, word_operation_of, condition_of}
use Rattle.step_effect.specs.Csrs.{csr_effect_of}
use Rattle.step_effect.specs.Jump.{jal_of, jalr_of, branch_of}
use Rattle.step_effect.specs.Register.{reg_of}
use Rattle.step_effect.specs.System.{trap_with, mret_effect_of, sret_effect_of}
use Rattle.csr_setting.specs.declared.Setting.{Setting}
use Rattle.step_effect.specs.declared.Effect.{Effect}
use Rattle.step_effect.specs.declared.Effect.TheVariants.{Write}

-- the instruction after this one
abbrev pub next_of : (pc : ℕ) → ℕ
next_of pc = sum_of pc 4

-- a read of ssp, by the active shadow enable; off, the Zimop words write 0
abbrev pub ssp_shown_of : (on : Bool) → (ssp : ℕ) → ℕ
ssp_shown_of on ssp = pick on ssp 0

unfoldable pub execute_of : Instruction → (word : ℕ) → (x : List ℕ) → (pc ssp : ℕ) → Setting → (m map : List ℕ) → Effect
execute_of Illegal word x pc ssp s m map = trap_with (illegal_of word)
execute_of (Lui rd v) word x pc ssp s m map = Write rd v (next_of pc)
execute_of (Auipc rd v) word x pc ssp s m map = Write rd (sum_of pc v) (next_of pc)
execute_of (Jal rd off) word x pc ssp s m map = jal_of rd (next_of pc) (sum_of pc off)
execute_of (Jalr rd rs1 off) word x pc ssp s m map = jalr_of rd rs1 (next_of pc) (sum_of (reg_of x rs1) off) s.pad
execute_of (Branch k rs1 rs2 off) word x pc ssp s m map =
    branch_of (condition_of k (reg_of x rs1) (reg_of x rs2)) (next_of pc) (sum_of pc off)
execute_of (Memory k rd rs1 rs2 off) word x pc ssp s m map =
    access_of k word rd (reg_of x rs1) (reg_of x rs2) off ssp (next_of pc) s m map
execute_of (OpImm o rd rs1 v) word x pc ssp s m map = Write rd (operation_of o (reg_of x rs1) v) (next_of pc)
execute_of (OpImm32 o rd rs1 v) word x pc ssp s m map = Write rd (word_operation_of o (reg_of x rs1) v) (next_of pc)
execute_of (Op o rd rs1 rs2) word x pc ssp s m map = Write rd (operation_of o (reg_of x rs1) (reg_of x rs2)) (next_of pc)
execute_of (Op32 o rd rs1 rs2) word x pc ssp s m map = Write rd (word_operation_of o (reg_of x rs1) (reg_of x rs2)) (next_of pc)
execute_of (Fence fm pred succ rs1 rd) word x pc ssp s m map = Write 0 0 (next_of pc)
execute_of Ecall word x pc ssp s m map = trap_with (ecall_of s.control.mode)
execute_of Ebreak word x pc ssp s m map = trap_with (breakpoint_of pc)
execute_of Sret word x pc ssp s m map = sret_effect_of s.control.mode word
execute_of Mret word x pc ssp s m map = mret_effect_of s.control.mode word
execute_of (Csr o source rd address) word x pc ssp s m map =
    csr_effect_of o source rd address word x (next_of pc) s.control.mode s.permitted
execute_of (ReadSsp rd) word x pc ssp s m map = Write rd (ssp_shown_of s.shadow ssp) (next_of pc)
execute_of (MopR n rd rs1) word x pc ssp s m map = Write rd 0 (next_of pc)
execute_of (MopRr n rd rs1 rs2) word x pc ssp s m map = Write rd 0 (next_of pc)
