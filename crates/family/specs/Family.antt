-- The decoder's verdict as a number: 0 for a word that is no instruction of the hart, else its family. A memory instruction's
-- family is its access. Rule 12.1 of docs/HART.md.
use Rattle.std.specs.Prelude.{ℕ}
use Rattle.isa.specs.declared.Access.{Access}
use Rattle.isa.specs.declared.Access.TheVariants.{Load, Store, Push, Pop, Swap}
use Rattle.isa.specs.declared.Instruction.{Instruction}
use Rattle.isa.specs.declared.Instruction.TheVariants.{Illegal, Lui, Auipc, Jal, Jalr, Branch, Memory, OpImm, OpImm32, Op, Op32, Fence, Ecall}
use Rattle.isa.specs.declared.Instruction.TheVariants.{Ebreak, Sret, Mret, Csr, ReadSsp, MopR, MopRr}

abbrev pub access_family : Access → ℕ
access_family (Load _ _) = 6
access_family (Store _) = 7
access_family Push = 19
access_family Pop = 20
access_family (Swap _ _ _) = 21

abbrev pub family_of : Instruction → ℕ
family_of Illegal = 0
family_of (Lui _ _) = 1
family_of (Auipc _ _) = 2
family_of (Jal _ _) = 3
family_of (Jalr _ _ _) = 4
family_of (Branch _ _ _ _) = 5
family_of (Memory a _ _ _ _) = access_family a
family_of (OpImm _ _ _ _) = 8
family_of (OpImm32 _ _ _ _) = 9
family_of (Op _ _ _ _) = 10
family_of (Op32 _ _ _ _) = 11
family_of (Fence _ _ _ _ _) = 12
family_of Ecall = 13
family_of Ebreak = 14
family_of Sret = 15
family_of Mret = 16
family_of (Csr _ _ _ _) = 17
family_of (ReadSsp _) = 18
family_of (MopR _ _ _) = 22
family_of (MopRr _ _ _ _) = 23
