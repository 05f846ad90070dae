-- The first of the eight numbers is the family that `family_of` says.
-- Assumes nothing.
use mathlib.Core.Path.{◌≡◌, refl}
use Rattle.isa.specs.declared.Access.TheVariants.{Load, Store, Push, Pop, Swap}
use Rattle.isa.specs.declared.Instruction.{Instruction}
use Rattle.isa.specs.declared.Instruction.TheVariants.{Illegal, Lui, Auipc, Jal, Jalr, Branch, Memory, OpImm, OpImm32, Op, Op32, Fence, Ecall}
use Rattle.isa.specs.declared.Instruction.TheVariants.{Ebreak, Sret, Mret, Csr, ReadSsp, MopR, MopRr}
use Rattle.family.specs.Family.{family_of}
use Rattle.decode_numbers.specs.Numbers.{numbers_of}

pub one_family : (i : Instruction) → (numbers_of i).family ≡ family_of i
one_family Illegal = refl
one_family (Lui d i) = refl
one_family (Auipc d i) = refl
one_family (Jal d o) = refl
one_family (Jalr d a o) = refl
one_family (Branch c a b o) = refl
one_family (Memory (Load w s) d a b o) = refl
one_family (Memory (Store w) d a b o) = refl
one_family (Memory Push d a b o) = refl
one_family (Memory Pop d a b o) = refl
one_family (Memory (Swap w aq rl) d a b o) = refl
one_family (OpImm k d a i) = refl
one_family (OpImm32 k d a i) = refl
one_family (Op k d a b) = refl
one_family (Op32 k d a b) = refl
one_family (Fence fm p s a d) = refl
one_family Ecall = refl
one_family Ebreak = refl
one_family Sret = refl
one_family Mret = refl
one_family (Csr k s d n) = refl
one_family (ReadSsp d) = refl
one_family (MopR n d a) = refl
one_family (MopRr n d a b) = refl
