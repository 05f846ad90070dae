-- An operation is told by its number: it can be looked up by it again.
-- Assumes nothing.
use mathlib.Core.Bool.{Bool, true, false}
use mathlib.Core.Path.{◌≡◌, refl}
use Prim.Native.Nat.{ℕ}
use Rattle.word.specs.Choice.{◌⇒◌¦◌, otherwise, look}
use Rattle.isa.specs.declared.Access.{Access}
use Rattle.isa.specs.declared.Access.TheVariants.{Load}
use Rattle.isa.specs.declared.Width.{Width}
use Rattle.isa.specs.declared.Width.TheVariants.{Byte, Half, Word, Double}
use Rattle.isa.specs.declared.Condition.{Condition}
use Rattle.isa.specs.declared.Condition.TheVariants.{Equal, NotEqual, Less, NotLess, LessUnsigned, NotLessUnsigned}
use Rattle.isa.specs.declared.Operation.{Operation}
use Rattle.isa.specs.declared.Operation.TheVariants.{Add, Sub, Sll, Slt, Sltu, Xor, Srl, Sra, Or, And, Mul, Mulh, Mulhsu, Mulhu, Div, Divu, Rem}
use Rattle.isa.specs.declared.Operation.TheVariants.{Remu, Min, Minu, Max, Maxu, Clz, Ctz, Cpop}
use Rattle.isa.specs.declared.WordOperation.{WordOperation}
use Rattle.isa.specs.declared.WordOperation.TheVariants.{Addw, Subw, Sllw, Srlw, Sraw, Mulw, Divw, Divuw, Remw, Remuw, Clzw, Ctzw, Cpopw}
use Rattle.isa.specs.declared.CsrOperation.{CsrOperation}
use Rattle.isa.specs.declared.CsrOperation.TheVariants.{Write, Set, Clear}
use Rattle.isa.specs.declared.CsrSource.{CsrSource}
use Rattle.isa.specs.declared.CsrSource.TheVariants.{Register, Immediate}
use Rattle.isa.specs.declared.Instruction.{Instruction}
use Rattle.isa.specs.declared.Instruction.TheVariants.{Csr}
use Rattle.decode_numbers.specs.Key.{condition_key, operation_key, word_operation_key, width_key, load_key, swap_key, csr_key}
use Rattle.decode_numbers.specs.Numbers.{source_of}

pub condition_at : ℕ → Condition
condition_at n =
    look n
    (0b000 ⇒ Equal
    ¦ 0b001 ⇒ NotEqual
    ¦ 0b100 ⇒ Less
    ¦ 0b101 ⇒ NotLess
    ¦ 0b110 ⇒ LessUnsigned
    ¦ otherwise NotLessUnsigned)

pub condition_again : (c : Condition) → condition_at (condition_key c) ≡ c
unfolding condition_at
condition_again Equal = refl
condition_again NotEqual = refl
condition_again Less = refl
condition_again NotLess = refl
condition_again LessUnsigned = refl
condition_again NotLessUnsigned = refl

pub operation_at : ℕ → Operation
operation_at n =
    look n
    (0b0000000_00000_000 ⇒ Add
    ¦ 0b0100000_00000_000 ⇒ Sub
    ¦ 0b0000000_00000_001 ⇒ Sll
    ¦ 0b0000000_00000_010 ⇒ Slt
    ¦ 0b0000000_00000_011 ⇒ Sltu
    ¦ 0b0000000_00000_100 ⇒ Xor
    ¦ 0b0000000_00000_101 ⇒ Srl
    ¦ 0b0100000_00000_101 ⇒ Sra
    ¦ 0b0000000_00000_110 ⇒ Or
    ¦ 0b0000000_00000_111 ⇒ And
    ¦ 0b0000001_00000_000 ⇒ Mul
    ¦ 0b0000001_00000_001 ⇒ Mulh
    ¦ 0b0000001_00000_010 ⇒ Mulhsu
    ¦ 0b0000001_00000_011 ⇒ Mulhu
    ¦ 0b0000001_00000_100 ⇒ Div
    ¦ 0b0000001_00000_101 ⇒ Divu
    ¦ 0b0000001_00000_110 ⇒ Rem
    ¦ 0b0000001_00000_111 ⇒ Remu
    ¦ 0b0000101_00000_100 ⇒ Min
    ¦ 0b0000101_00000_101 ⇒ Minu
    ¦ 0b0000101_00000_110 ⇒ Max
    ¦ 0b0000101_00000_111 ⇒ Maxu
    ¦ 0b0110000_00000_001 ⇒ Clz
    ¦ 0b0110000_00001_001 ⇒ Ctz
    ¦ otherwise Cpop)

pub operation_again : (o : Operation) → operation_at (operation_key o) ≡ o
unfolding operation_at
operation_again Add = refl
operation_again Sub = refl
operation_again Sll = refl
operation_again Slt = refl
operation_again Sltu = refl
operation_again Xor = refl
operation_again Srl = refl
operation_again Sra = refl
operation_again Or = refl
operation_again And = refl
operation_again Mul = refl
operation_again Mulh = refl
operation_again Mulhsu = refl
operation_again Mulhu = refl
operation_again Div = refl
operation_again Divu = refl
operation_again Rem = refl
operation_again Remu = refl
operation_again Min = refl
operation_again Minu = refl
operation_again Max = refl
operation_again Maxu = refl
operation_again Clz = refl
operation_again Ctz = refl
operation_again Cpop = refl

pub word_operation_at : ℕ → WordOperation
word_operation_at n =
    look n
    (0b0000000_00000_000 ⇒ Addw
    ¦ 0b0100000_00000_000 ⇒ Subw
    ¦ 0b0000000_00000_001 ⇒ Sllw
    ¦ 0b0000000_00000_101 ⇒ Srlw
    ¦ 0b0100000_00000_101 ⇒ Sraw
    ¦ 0b0000001_00000_000 ⇒ Mulw
    ¦ 0b0000001_00000_100 ⇒ Divw
    ¦ 0b0000001_00000_101 ⇒ Divuw
    ¦ 0b0000001_00000_110 ⇒ Remw
    ¦ 0b0000001_00000_111 ⇒ Remuw
    ¦ 0b0110000_00000_001 ⇒ Clzw
    ¦ 0b0110000_00001_001 ⇒ Ctzw
    ¦ otherwise Cpopw)

pub word_operation_again : (w : WordOperation) → word_operation_at (word_operation_key w) ≡ w
unfolding word_operation_at
word_operation_again Addw = refl
word_operation_again Subw = refl
word_operation_again Sllw = refl
word_operation_again Srlw = refl
word_operation_again Sraw = refl
word_operation_again Mulw = refl
word_operation_again Divw = refl
word_operation_again Divuw = refl
word_operation_again Remw = refl
word_operation_again Remuw = refl
word_operation_again Clzw = refl
word_operation_again Ctzw = refl
word_operation_again Cpopw = refl

pub width_at : ℕ → Width
width_at n =
    look n
    (0b000 ⇒ Byte
    ¦ 0b001 ⇒ Half
    ¦ 0b010 ⇒ Word
    ¦ otherwise Double)

pub width_again : (w : Width) → width_at (width_key w) ≡ w
unfolding width_at
width_again Byte = refl
width_again Half = refl
width_again Word = refl
width_again Double = refl

pub load_at_of : ℕ → Access
load_at_of n =
    look n
    (0b000 ⇒ Load Byte true
    ¦ 0b001 ⇒ Load Half true
    ¦ 0b010 ⇒ Load Word true
    ¦ 0b011 ⇒ Load Double true
    ¦ 0b100 ⇒ Load Byte false
    ¦ 0b101 ⇒ Load Half false
    ¦ 0b110 ⇒ Load Word false
    ¦ otherwise (Load Double false))

pub load_again : (w : Width) (signed : Bool) → load_at_of (load_key w signed) ≡ Load w signed
unfolding load_at_of
load_again Byte true = refl
load_again Half true = refl
load_again Word true = refl
load_again Double true = refl
load_again Byte false = refl
load_again Half false = refl
load_again Word false = refl
load_again Double false = refl

pub swap_at : ℕ → Width
swap_at n =
    look n
    (0b0100100_00000_000 ⇒ Byte
    ¦ 0b0100100_00000_001 ⇒ Half
    ¦ 0b0100100_00000_010 ⇒ Word
    ¦ otherwise Double)

pub swap_again : (w : Width) → swap_at (swap_key w) ≡ w
unfolding swap_at
swap_again Byte = refl
swap_again Half = refl
swap_again Word = refl
swap_again Double = refl

pub csr_at : ℕ → ℕ → ℕ → ℕ → Instruction
csr_at n s d c =
    look n
    (0b001 ⇒ Csr Write (Register s) d c
    ¦ 0b010 ⇒ Csr Set (Register s) d c
    ¦ 0b011 ⇒ Csr Clear (Register s) d c
    ¦ 0b101 ⇒ Csr Write (Immediate s) d c
    ¦ 0b110 ⇒ Csr Set (Immediate s) d c
    ¦ otherwise (Csr Clear (Immediate s) d c))

pub csr_again : (o : CsrOperation) (s : CsrSource) (d c : ℕ) → csr_at (csr_key o s) (source_of s) d c ≡ Csr o s d c
unfolding csr_at
csr_again Write (Register r) d c = refl
csr_again Set (Register r) d c = refl
csr_again Clear (Register r) d c = refl
csr_again Write (Immediate n) d c = refl
csr_again Set (Immediate n) d c = refl
csr_again Clear (Immediate n) d c = refl
