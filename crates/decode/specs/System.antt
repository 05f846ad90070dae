-- The SYSTEM opcode. SFENCE.VMA, WFI and every other word of funct3 000 is illegal. Rules 3.15 and 3.16 of docs/HART.md.
use Rattle.std.specs.Prelude.{ℕ}
use Rattle.word.specs.Choice.{Table, ◌⇒◌¦◌, otherwise, look}
use Rattle.word.specs.Field.{bits}
use Rattle.word.specs.declared.field.Fields.{Fields}
use Rattle.decode.specs.Cfi.{zimop_of}
use Rattle.isa.specs.declared.CsrOperation.TheVariants.{Write, Set, Clear}
use Rattle.isa.specs.declared.CsrSource.TheVariants.{Register, Immediate}
use Rattle.isa.specs.declared.Instruction.{Instruction}
use Rattle.isa.specs.declared.Instruction.TheVariants.{Illegal, Ecall, Ebreak, Sret, Mret, Csr}

-- CSRRW, CSRRS, CSRRC, CSRRWI, CSRRSI, CSRRCI with the CSR in bits 31:20; funct3 100 is Zimop's
abbrev pub csrs : ℕ → Fields → Table Instruction
csrs w f =
    0b001 ⇒ Csr Write (Register f.rs1) f.rd (bits w 31 20)
    ¦ 0b010 ⇒ Csr Set (Register f.rs1) f.rd (bits w 31 20)
    ¦ 0b011 ⇒ Csr Clear (Register f.rs1) f.rd (bits w 31 20)
    ¦ 0b101 ⇒ Csr Write (Immediate f.rs1) f.rd (bits w 31 20)
    ¦ 0b110 ⇒ Csr Set (Immediate f.rs1) f.rd (bits w 31 20)
    ¦ 0b111 ⇒ Csr Clear (Immediate f.rs1) f.rd (bits w 31 20)
    ¦ 0b100 ⇒ zimop_of w f
    ¦ otherwise Illegal

unfoldable pub decode_csr_of : ℕ → Fields → Instruction
decode_csr_of w f = look f.funct3 (csrs w f)

-- ECALL, EBREAK, SRET and MRET are whole words
abbrev pub systems : ℕ → Fields → Table Instruction
systems w f =
    0x00000073 ⇒ Ecall
    ¦ 0x00100073 ⇒ Ebreak
    ¦ 0x10200073 ⇒ Sret
    ¦ 0x30200073 ⇒ Mret
    ¦ otherwise (decode_csr_of w f)

unfoldable pub system_of : ℕ → Fields → Instruction
system_of w f = look w (systems w f)
