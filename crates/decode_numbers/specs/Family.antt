-- The number of a family. Rule 12.1 of docs/HART.md.
use Rattle.std.specs.Prelude.{ℕ}
use Rattle.decode_numbers.specs.declared.families.Family.{Family}
use Rattle.decode_numbers.specs.declared.families.Family.TheVariants.{Illegal, Lui, Auipc, Jal, Jalr, Branch, Load, Store, OpImm, OpImm32, Op, Op32}
use Rattle.decode_numbers.specs.declared.families.Family.TheVariants.{Fence, Ecall, Ebreak, Sret, Mret, Csr, ReadSsp, Push, Pop, Swap, MopR, MopRr}

abbrev pub family_number : Family → ℕ
family_number Illegal = 0
family_number Lui = 1
family_number Auipc = 2
family_number Jal = 3
family_number Jalr = 4
family_number Branch = 5
family_number Load = 6
family_number Store = 7
family_number OpImm = 8
family_number OpImm32 = 9
family_number Op = 10
family_number Op32 = 11
family_number Fence = 12
family_number Ecall = 13
family_number Ebreak = 14
family_number Sret = 15
family_number Mret = 16
family_number Csr = 17
family_number ReadSsp = 18
family_number Push = 19
family_number Pop = 20
family_number Swap = 21
family_number MopR = 22
family_number MopRr = 23
