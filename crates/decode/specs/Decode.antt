-- The instruction that a word names: the manual's map of major opcodes. Every word that no row has is illegal, among them each whose low two bits are
-- not 11. Rules 3.3 and 3.20 of docs/HART.md.
use Rattle.std.specs.Prelude.{Bool, ◌&&◌, not, ℕ, eqb}
use Rattle.word.specs.Choice.{Table, ◌⇒◌¦◌, otherwise, look}
use Rattle.word.specs.Field.{bits, opcode, fields_of}
use Rattle.word.specs.Immediate.{imm_i_of, imm_s_of, imm_b_of, imm_u_of, imm_j_of}
use Rattle.word.specs.declared.field.Fields.{Fields}
use Rattle.decode_base.specs.Base.{decode_jalr_of, decode_branch_of, decode_load_of, decode_store_of, op_imm_of, op_imm32_of, op_of, op32_of, misc_mem_of}
use Rattle.decode.specs.Cfi.{swap_of}
use Rattle.decode.specs.System.{system_of}
use Rattle.isa.specs.declared.Instruction.{Instruction}
use Rattle.isa.specs.declared.Instruction.TheVariants.{Illegal, Lui, Auipc, Jal}

-- LUI, AUIPC, JAL, JALR, BRANCH, LOAD, STORE, OP-IMM, OP-IMM-32, OP, OP-32, MISC-MEM, AMO, SYSTEM
abbrev pub opcodes : ℕ → Fields → Table Instruction
opcodes w f =
    0b0110111 ⇒ Lui f.rd (imm_u_of w)
    ¦ 0b0010111 ⇒ Auipc f.rd (imm_u_of w)
    ¦ 0b1101111 ⇒ Jal f.rd (imm_j_of w)
    ¦ 0b1100111 ⇒ decode_jalr_of f (imm_i_of w)
    ¦ 0b1100011 ⇒ decode_branch_of f (imm_b_of w)
    ¦ 0b0000011 ⇒ decode_load_of f (imm_i_of w)
    ¦ 0b0100011 ⇒ decode_store_of f (imm_s_of w)
    ¦ 0b0010011 ⇒ op_imm_of f (imm_i_of w)
    ¦ 0b0011011 ⇒ op_imm32_of f (imm_i_of w)
    ¦ 0b0110011 ⇒ op_of f
    ¦ 0b0111011 ⇒ op32_of f
    ¦ 0b0001111 ⇒ misc_mem_of w f
    ¦ 0b0101111 ⇒ swap_of f
    ¦ 0b1110011 ⇒ system_of w f
    ¦ otherwise Illegal

unfoldable pub decode_of : ℕ → Instruction
decode_of w = look (opcode w) (opcodes w (fields_of w))

-- SYSTEM without Zimop: environment calls, breakpoints, returns and CSR instructions, and what is illegal beside them
abbrev pub is_privileged : ℕ → Bool
is_privileged w = eqb (opcode w) 0b1110011 && not (eqb (bits w 14 12) 0b100)
