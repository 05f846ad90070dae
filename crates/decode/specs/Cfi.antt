-- Zicfiss and Zimop: the shadow swap, the may-be-operations, and the words that push, pop-check or read ssp (docs/HART.md, 3.17 to 3.19).
use Rattle.std.specs.Prelude.{Bool, ℕ, ◌+◌, ◌-◌, ◌*◌, ◌/◌, ◌%◌, ◌^◌, eqb}
use Rattle.word.specs.Choice.{Table, ◌⇒◌¦◌, otherwise, look}
use Rattle.word.specs.Field.{bits}
use Rattle.word.specs.declared.field.Fields.{Fields}
use Rattle.isa.specs.declared.Width.TheVariants.{Word, Double}
use Rattle.isa.specs.declared.Access.TheVariants.{Push, Pop, Swap}
use Rattle.isa.specs.declared.Instruction.{Instruction}
use Rattle.isa.specs.declared.Instruction.TheVariants.{Illegal, Memory, ReadSsp, MopR, MopRr}

-- funct7 of an AMO word is funct5, aq and rl. Swap: funct5 01001, funct3 010 or 011, any aq and rl
abbrev pub amo_key : Fields → ℕ
amo_key f = f.funct7 / 4 * 8 + f.funct3

abbrev pub aq : Fields → Bool
aq f = eqb (f.funct7 / 2 % 2) 1

abbrev pub rl : Fields → Bool
rl f = eqb (f.funct7 % 2) 1

abbrev pub swaps : Fields → Table Instruction
swaps f =
    0b01001_010 ⇒ Memory (Swap Word (aq f) (rl f)) f.rd f.rs1 f.rs2 0
    ¦ 0b01001_011 ⇒ Memory (Swap Double (aq f) (rl f)) f.rd f.rs1 f.rs2 0
    ¦ otherwise Illegal

unfoldable pub swap_of : Fields → Instruction
swap_of f = look (amo_key f) (swaps f)

-- MOP.RR.n: bits 31:25 are 1 n[2] 00 n[1:0] 1
abbrev pub mop_rr_key : ℕ → ℕ
mop_rr_key w = bits w 31 31 * 2 ^ 3 + bits w 29 28 * 2 + bits w 25 25

abbrev pub mop_rrs : ℕ → Fields → Table Instruction
mop_rrs w f =
    0b1_00_1 ⇒ MopRr (bits w 30 30 * 2 ^ 2 + bits w 27 26) f.rd f.rs1 f.rs2
    ¦ otherwise Illegal

-- MOP.R.n: bits 31:20 are 1 n[4] 00 n[3:2] 0111 n[1:0]
abbrev pub mop_r_key : ℕ → ℕ
mop_r_key w = bits w 31 31 * 2 ^ 6 + bits w 29 28 * 2 ^ 4 + bits w 25 22

abbrev pub mop_rs : ℕ → Fields → Table Instruction
mop_rs w f =
    0b1_00_0111 ⇒ MopR (bits w 30 30 * 2 ^ 4 + bits w 27 26 * 2 ^ 2 + bits w 21 20) f.rd f.rs1
    ¦ otherwise (look (mop_rr_key w) (mop_rrs w f))

unfoldable pub mop_of : ℕ → Fields → Instruction
mop_of w f = look (mop_r_key w) (mop_rs w f)

-- 0xCDC04073 with rd not 0 in bits 11:7 reads ssp; other Zimop words are the plain operations
abbrev pub reads : ℕ → Fields → Table Instruction
reads w f =
    0xCDC04073 ⇒ ReadSsp f.rd
    ¦ otherwise (mop_of w f)

-- push of x1 and of x5, pop-check of x1 and of x5
abbrev pub zimops : ℕ → Fields → Table Instruction
zimops w f =
    0xCE104073 ⇒ Memory Push 0 0 1 0
    ¦ 0xCE504073 ⇒ Memory Push 0 0 5 0
    ¦ 0xCDC0C073 ⇒ Memory Pop 0 1 0 0
    ¦ 0xCDC2C073 ⇒ Memory Pop 0 5 0 0
    ¦ 0xCDC04073 ⇒ mop_of w f
    ¦ otherwise (look (w - bits w 11 7 * 2 ^ 7) (reads w f))

unfoldable pub zimop_of : ℕ → Fields → Instruction
zimop_of w f = look w (zimops w f)
