-- The number of an operation, as the manual's listings print it: funct7, then rs2, then funct3, with 0 for what is an operand.
-- Rule 12.3 of docs/HART.md.
use Rattle.std.specs.Prelude.{Bool, true, false, ℕ}
use Rattle.isa.specs.declared.Width.{Width}
use Rattle.isa.specs.declared.Width.TheVariants.{Byte, Half, Word, Double}
use Rattle.isa.specs.declared.Condition.{Condition}
use Rattle.isa.specs.declared.Condition.TheVariants.{Equal, NotEqual, Less, NotLess, LessUnsigned, NotLessUnsigned}
use Rattle.isa.specs.declared.Operation.{Operation}
use Rattle.isa.specs.declared.Operation.TheVariants.{Add, Sub, Sll, Slt, Sltu, Xor, Srl, Sra, Or, And, Mul, Mulh, Mulhsu, Mulhu, Div, Divu, Rem}
use Rattle.isa.specs.declared.Operation.TheVariants.{Remu, Min, Minu, Max, Maxu, Clz, Ctz, Cpop}
use Rattle.isa.specs.declared.WordOperation.{WordOperation}
use Rattle.isa.specs.declared.WordOperation.TheVariants.{Addw, Subw, Sllw, Srlw, Sraw, Mulw, Divw, Divuw, Remw, Remuw, Clzw, Ctzw, Cpopw}
use Rattle.isa.specs.declared.CsrOperation.{CsrOperation}
use Rattle.isa.specs.declared.CsrOperation.TheVariants.{Write, Set, Clear}
use Rattle.isa.specs.declared.CsrSource.{CsrSource}
use Rattle.isa.specs.declared.CsrSource.TheVariants.{Register, Immediate}

abbrev pub condition_key : Condition → ℕ
condition_key Equal = 0b000
condition_key NotEqual = 0b001
condition_key Less = 0b100
condition_key NotLess = 0b101
condition_key LessUnsigned = 0b110
condition_key NotLessUnsigned = 0b111

-- the same number in OP and in OP-IMM; a shift's amount reaches into funct7, whose upper six bits are then its own
abbrev pub operation_key : Operation → ℕ
operation_key Add = 0b0000000_00000_000
operation_key Sub = 0b0100000_00000_000
operation_key Sll = 0b0000000_00000_001
operation_key Slt = 0b0000000_00000_010
operation_key Sltu = 0b0000000_00000_011
operation_key Xor = 0b0000000_00000_100
operation_key Srl = 0b0000000_00000_101
operation_key Sra = 0b0100000_00000_101
operation_key Or = 0b0000000_00000_110
operation_key And = 0b0000000_00000_111
operation_key Mul = 0b0000001_00000_000
operation_key Mulh = 0b0000001_00000_001
operation_key Mulhsu = 0b0000001_00000_010
operation_key Mulhu = 0b0000001_00000_011
operation_key Div = 0b0000001_00000_100
operation_key Divu = 0b0000001_00000_101
operation_key Rem = 0b0000001_00000_110
operation_key Remu = 0b0000001_00000_111
operation_key Min = 0b0000101_00000_100
operation_key Minu = 0b0000101_00000_101
operation_key Max = 0b0000101_00000_110
operation_key Maxu = 0b0000101_00000_111
operation_key Clz = 0b0110000_00000_001
operation_key Ctz = 0b0110000_00001_001
operation_key Cpop = 0b0110000_00010_001

abbrev pub word_operation_key : WordOperation → ℕ
word_operation_key Addw = 0b0000000_00000_000
word_operation_key Subw = 0b0100000_00000_000
word_operation_key Sllw = 0b0000000_00000_001
word_operation_key Srlw = 0b0000000_00000_101
word_operation_key Sraw = 0b0100000_00000_101
word_operation_key Mulw = 0b0000001_00000_000
word_operation_key Divw = 0b0000001_00000_100
word_operation_key Divuw = 0b0000001_00000_101
word_operation_key Remw = 0b0000001_00000_110
word_operation_key Remuw = 0b0000001_00000_111
word_operation_key Clzw = 0b0110000_00000_001
word_operation_key Ctzw = 0b0110000_00001_001
word_operation_key Cpopw = 0b0110000_00010_001

abbrev pub width_key : Width → ℕ
width_key Byte = 0b000
width_key Half = 0b001
width_key Word = 0b010
width_key Double = 0b011

-- there is no LDU: 0b111 is no load's number
abbrev pub load_key : Width → Bool → ℕ
load_key w true = width_key w
load_key Byte false = 0b100
load_key Half false = 0b101
load_key Word false = 0b110
load_key Double false = 0b111

-- funct5 is 01001; aq and rl are operands, and there is no swap of a byte or of a half
abbrev pub swap_key : Width → ℕ
swap_key Byte = 0b0100100_00000_000
swap_key Half = 0b0100100_00000_001
swap_key Word = 0b0100100_00000_010
swap_key Double = 0b0100100_00000_011

abbrev pub csr_operation_key : CsrOperation → ℕ
csr_operation_key Write = 0b001
csr_operation_key Set = 0b010
csr_operation_key Clear = 0b011

abbrev pub csr_key : CsrOperation → CsrSource → ℕ
csr_key Write (Register r) = 0b001
csr_key Set (Register r) = 0b010
csr_key Clear (Register r) = 0b011
csr_key Write (Immediate n) = 0b101
csr_key Set (Immediate n) = 0b110
csr_key Clear (Immediate n) = 0b111
