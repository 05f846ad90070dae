-- RV64I, M, and what is taken from Zbb: what a word of each major opcode names, by its fields, as the manual's instruction listings have it.
-- Rules 3.4 to 3.14 of docs/HART.md.
use Rattle.std.specs.Prelude.{true, false, ℕ, ◌+◌, ◌*◌, ◌/◌, ◌%◌}
use Rattle.word.specs.Choice.{Table, ◌⇒◌¦◌, otherwise, look}
use Rattle.word.specs.Field.{bits}
use Rattle.word.specs.declared.field.Fields.{Fields}
use Rattle.isa.specs.declared.Width.TheVariants.{Byte, Half, Word, Double}
use Rattle.isa.specs.declared.Access.TheVariants.{Load, Store}
use Rattle.isa.specs.declared.Condition.TheVariants.{Equal, NotEqual, Less, NotLess, LessUnsigned, NotLessUnsigned}
use Rattle.isa.specs.declared.Operation.TheVariants.{Add, Sub, Sll, Slt, Sltu, Xor, Srl, Sra, Or, And, Mul, Mulh, Mulhsu, Mulhu, Div, Divu, Rem}
use Rattle.isa.specs.declared.Operation.TheVariants.{Remu, Min, Minu, Max, Maxu, Clz, Ctz, Cpop}
use Rattle.isa.specs.declared.WordOperation.TheVariants.{Addw, Subw, Sllw, Srlw, Sraw, Mulw, Divw, Divuw, Remw, Remuw, Clzw, Ctzw, Cpopw}
use Rattle.isa.specs.declared.Instruction.{Instruction}
use Rattle.isa.specs.declared.Instruction.TheVariants.{Illegal, Jalr, Branch, Memory, OpImm, OpImm32, Op, Op32, Fence}

-- funct7 and funct3 side by side, so that a row's key reads as the manual prints it
abbrev pub functs : Fields → ℕ
functs f = f.funct7 * 8 + f.funct3

-- JALR
abbrev pub jalrs : Fields → ℕ → Table Instruction
jalrs f o =
    0b000 ⇒ Jalr f.rd f.rs1 o
    ¦ otherwise Illegal

unfoldable pub decode_jalr_of : Fields → ℕ → Instruction
decode_jalr_of f o = look f.funct3 (jalrs f o)

-- BRANCH: BEQ, BNE, BLT, BGE, BLTU, BGEU
abbrev pub branches : Fields → ℕ → Table Instruction
branches f o =
    0b000 ⇒ Branch Equal f.rs1 f.rs2 o
    ¦ 0b001 ⇒ Branch NotEqual f.rs1 f.rs2 o
    ¦ 0b100 ⇒ Branch Less f.rs1 f.rs2 o
    ¦ 0b101 ⇒ Branch NotLess f.rs1 f.rs2 o
    ¦ 0b110 ⇒ Branch LessUnsigned f.rs1 f.rs2 o
    ¦ 0b111 ⇒ Branch NotLessUnsigned f.rs1 f.rs2 o
    ¦ otherwise Illegal

unfoldable pub decode_branch_of : Fields → ℕ → Instruction
decode_branch_of f o = look f.funct3 (branches f o)

-- LOAD: LB, LH, LW, LD, LBU, LHU, LWU
abbrev pub loads : Fields → ℕ → Table Instruction
loads f o =
    0b000 ⇒ Memory (Load Byte true) f.rd f.rs1 0 o
    ¦ 0b001 ⇒ Memory (Load Half true) f.rd f.rs1 0 o
    ¦ 0b010 ⇒ Memory (Load Word true) f.rd f.rs1 0 o
    ¦ 0b011 ⇒ Memory (Load Double true) f.rd f.rs1 0 o
    ¦ 0b100 ⇒ Memory (Load Byte false) f.rd f.rs1 0 o
    ¦ 0b101 ⇒ Memory (Load Half false) f.rd f.rs1 0 o
    ¦ 0b110 ⇒ Memory (Load Word false) f.rd f.rs1 0 o
    ¦ otherwise Illegal

unfoldable pub decode_load_of : Fields → ℕ → Instruction
decode_load_of f o = look f.funct3 (loads f o)

-- STORE: SB, SH, SW, SD
abbrev pub stores : Fields → ℕ → Table Instruction
stores f o =
    0b000 ⇒ Memory (Store Byte) 0 f.rs1 f.rs2 o
    ¦ 0b001 ⇒ Memory (Store Half) 0 f.rs1 f.rs2 o
    ¦ 0b010 ⇒ Memory (Store Word) 0 f.rs1 f.rs2 o
    ¦ 0b011 ⇒ Memory (Store Double) 0 f.rs1 f.rs2 o
    ¦ otherwise Illegal

unfoldable pub decode_store_of : Fields → ℕ → Instruction
decode_store_of f o = look f.funct3 (stores f o)

-- funct7, rs2 and funct3 side by side
abbrev pub count_key : Fields → ℕ
count_key f = f.funct7 * 256 + f.rs2 * 8 + f.funct3

-- CLZ, CTZ, CPOP
abbrev pub counts : Fields → Table Instruction
counts f =
    0b0110000_00000_001 ⇒ OpImm Clz f.rd f.rs1 0
    ¦ 0b0110000_00001_001 ⇒ OpImm Ctz f.rd f.rs1 0
    ¦ 0b0110000_00010_001 ⇒ OpImm Cpop f.rd f.rs1 0
    ¦ otherwise Illegal

unfoldable pub count_of : Fields → Instruction
count_of f = look (count_key f) (counts f)

-- CLZW, CTZW, CPOPW
abbrev pub count_words_of : Fields → Table Instruction
count_words_of f =
    0b0110000_00000_001 ⇒ OpImm32 Clzw f.rd f.rs1 0
    ¦ 0b0110000_00001_001 ⇒ OpImm32 Ctzw f.rd f.rs1 0
    ¦ 0b0110000_00010_001 ⇒ OpImm32 Cpopw f.rd f.rs1 0
    ¦ otherwise Illegal

unfoldable pub count_word_of : Fields → Instruction
count_word_of f = look (count_key f) (count_words_of f)

-- SLLI, SRLI, SRAI: bits 31:26 before funct3, and the amount in bits 25:20
abbrev pub shift_key : Fields → ℕ
shift_key f = f.funct7 / 2 * 8 + f.funct3

abbrev pub shift_amount : Fields → ℕ
shift_amount f = f.funct7 % 2 * 32 + f.rs2

abbrev pub shifts : Fields → Table Instruction
shifts f =
    0b000000_001 ⇒ OpImm Sll f.rd f.rs1 (shift_amount f)
    ¦ 0b000000_101 ⇒ OpImm Srl f.rd f.rs1 (shift_amount f)
    ¦ 0b010000_101 ⇒ OpImm Sra f.rd f.rs1 (shift_amount f)
    ¦ otherwise (count_of f)

unfoldable pub shift_of : Fields → Instruction
shift_of f = look (shift_key f) (shifts f)

-- OP-IMM: ADDI, SLTI, SLTIU, XORI, ORI, ANDI and the shifts
abbrev pub op_imms : Fields → ℕ → Table Instruction
op_imms f i =
    0b000 ⇒ OpImm Add f.rd f.rs1 i
    ¦ 0b010 ⇒ OpImm Slt f.rd f.rs1 i
    ¦ 0b011 ⇒ OpImm Sltu f.rd f.rs1 i
    ¦ 0b100 ⇒ OpImm Xor f.rd f.rs1 i
    ¦ 0b110 ⇒ OpImm Or f.rd f.rs1 i
    ¦ 0b111 ⇒ OpImm And f.rd f.rs1 i
    ¦ otherwise (shift_of f)

unfoldable pub op_imm_of : Fields → ℕ → Instruction
op_imm_of f i = look f.funct3 (op_imms f i)

-- OP-IMM-32: SLLIW, SRLIW, SRAIW with the amount in bits 24:20, and ADDIW
abbrev pub word_shifts_of : Fields → Table Instruction
word_shifts_of f =
    0b0000000_001 ⇒ OpImm32 Sllw f.rd f.rs1 f.rs2
    ¦ 0b0000000_101 ⇒ OpImm32 Srlw f.rd f.rs1 f.rs2
    ¦ 0b0100000_101 ⇒ OpImm32 Sraw f.rd f.rs1 f.rs2
    ¦ otherwise (count_word_of f)

unfoldable pub word_shift_of : Fields → Instruction
word_shift_of f = look (functs f) (word_shifts_of f)

abbrev pub op_imm32s : Fields → ℕ → Table Instruction
op_imm32s f i =
    0b000 ⇒ OpImm32 Addw f.rd f.rs1 i
    ¦ otherwise (word_shift_of f)

unfoldable pub op_imm32_of : Fields → ℕ → Instruction
op_imm32_of f i = look f.funct3 (op_imm32s f i)

-- MUL, MULH, MULHSU, MULHU, DIV, DIVU, REM, REMU of M; MIN, MINU, MAX, MAXU of Zbb
abbrev pub extensions : Fields → Table Instruction
extensions f =
    0b0000001_000 ⇒ Op Mul f.rd f.rs1 f.rs2
    ¦ 0b0000001_001 ⇒ Op Mulh f.rd f.rs1 f.rs2
    ¦ 0b0000001_010 ⇒ Op Mulhsu f.rd f.rs1 f.rs2
    ¦ 0b0000001_011 ⇒ Op Mulhu f.rd f.rs1 f.rs2
    ¦ 0b0000001_100 ⇒ Op Div f.rd f.rs1 f.rs2
    ¦ 0b0000001_101 ⇒ Op Divu f.rd f.rs1 f.rs2
    ¦ 0b0000001_110 ⇒ Op Rem f.rd f.rs1 f.rs2
    ¦ 0b0000001_111 ⇒ Op Remu f.rd f.rs1 f.rs2
    ¦ 0b0000101_100 ⇒ Op Min f.rd f.rs1 f.rs2
    ¦ 0b0000101_101 ⇒ Op Minu f.rd f.rs1 f.rs2
    ¦ 0b0000101_110 ⇒ Op Max f.rd f.rs1 f.rs2
    ¦ 0b0000101_111 ⇒ Op Maxu f.rd f.rs1 f.rs2
    ¦ otherwise Illegal

unfoldable pub extension_of : Fields → Instruction
extension_of f = look (functs f) (extensions f)

-- OP: ADD, SUB, SLL, SLT, SLTU, XOR, SRL, SRA, OR, AND
abbrev pub ops : Fields → Table Instruction
ops f =
    0b0000000_000 ⇒ Op Add f.rd f.rs1 f.rs2
    ¦ 0b0100000_000 ⇒ Op Sub f.rd f.rs1 f.rs2
    ¦ 0b0000000_001 ⇒ Op Sll f.rd f.rs1 f.rs2
    ¦ 0b0000000_010 ⇒ Op Slt f.rd f.rs1 f.rs2
    ¦ 0b0000000_011 ⇒ Op Sltu f.rd f.rs1 f.rs2
    ¦ 0b0000000_100 ⇒ Op Xor f.rd f.rs1 f.rs2
    ¦ 0b0000000_101 ⇒ Op Srl f.rd f.rs1 f.rs2
    ¦ 0b0100000_101 ⇒ Op Sra f.rd f.rs1 f.rs2
    ¦ 0b0000000_110 ⇒ Op Or f.rd f.rs1 f.rs2
    ¦ 0b0000000_111 ⇒ Op And f.rd f.rs1 f.rs2
    ¦ otherwise (extension_of f)

unfoldable pub op_of : Fields → Instruction
op_of f = look (functs f) (ops f)

-- MULW, DIVW, DIVUW, REMW, REMUW
abbrev pub extension32s : Fields → Table Instruction
extension32s f =
    0b0000001_000 ⇒ Op32 Mulw f.rd f.rs1 f.rs2
    ¦ 0b0000001_100 ⇒ Op32 Divw f.rd f.rs1 f.rs2
    ¦ 0b0000001_101 ⇒ Op32 Divuw f.rd f.rs1 f.rs2
    ¦ 0b0000001_110 ⇒ Op32 Remw f.rd f.rs1 f.rs2
    ¦ 0b0000001_111 ⇒ Op32 Remuw f.rd f.rs1 f.rs2
    ¦ otherwise Illegal

unfoldable pub extension32_of : Fields → Instruction
extension32_of f = look (functs f) (extension32s f)

-- OP-32: ADDW, SUBW, SLLW, SRLW, SRAW
abbrev pub op32s : Fields → Table Instruction
op32s f =
    0b0000000_000 ⇒ Op32 Addw f.rd f.rs1 f.rs2
    ¦ 0b0100000_000 ⇒ Op32 Subw f.rd f.rs1 f.rs2
    ¦ 0b0000000_001 ⇒ Op32 Sllw f.rd f.rs1 f.rs2
    ¦ 0b0000000_101 ⇒ Op32 Srlw f.rd f.rs1 f.rs2
    ¦ 0b0100000_101 ⇒ Op32 Sraw f.rd f.rs1 f.rs2
    ¦ otherwise (extension32_of f)

unfoldable pub op32_of : Fields → Instruction
op32_of f = look (functs f) (op32s f)

-- MISC-MEM: FENCE, with any fields
abbrev pub misc_mems : ℕ → Fields → Table Instruction
misc_mems w f =
    0b000 ⇒ Fence (bits w 31 28) (bits w 27 24) (bits w 23 20) f.rs1 f.rd
    ¦ otherwise Illegal

unfoldable pub misc_mem_of : ℕ → Fields → Instruction
misc_mem_of w f = look f.funct3 (misc_mems w f)
