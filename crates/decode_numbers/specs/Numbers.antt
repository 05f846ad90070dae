-- A decoded instruction as eight numbers, one layout for all families: the family, its operation, rd, rs1, rs2, the immediate, and two
-- for what is left. What a family does not have is 0. include/sporhulma.h explains them for C. Rules 12.2 and 12.4 of docs/HART.md.
use Rattle.std.specs.Prelude.{Bool, true, false, ℕ, List, [], ◌∷◌, get_or}
use Rattle.isa.specs.declared.Access.{Access}
use Rattle.isa.specs.declared.Access.TheVariants.{Load, Store, Push, Pop, Swap}
use Rattle.isa.specs.declared.CsrSource.{CsrSource}
use Rattle.isa.specs.declared.CsrSource.TheVariants.{Register, Immediate}
use Rattle.isa.specs.declared.Instruction.{Instruction}
use Rattle.isa.specs.declared.Instruction.TheVariants.{Illegal, Lui, Auipc, Jal, Jalr, Branch, Memory, OpImm, OpImm32, Op, Op32, Fence, Ecall}
use Rattle.isa.specs.declared.Instruction.TheVariants.{Ebreak, Sret, Mret, Csr, ReadSsp, MopR, MopRr}
use Rattle.decode_numbers.specs.declared.Eight.{Eight}
use Rattle.decode_numbers.specs.Key.{condition_key, operation_key, word_operation_key, width_key, load_key, swap_key, csr_key}

abbrev pub eight_of : (family operation rd rs1 rs2 immediate first second : ℕ) → Eight
eight_of f o d a b i p q =
    record { family = f; operation = o; rd = d; rs1 = a; rs2 = b; immediate = i; first = p; second = q }

-- eight words of a host as an instruction's numbers
abbrev pub eight_at : List ℕ → Eight
eight_at l =
    eight_of (get_or l 0 0) (get_or l 1 0) (get_or l 2 0) (get_or l 3 0) (get_or l 4 0) (get_or l 5 0) (get_or l 6 0) (get_or l 7 0)

-- and an instruction's numbers as eight words: family, operation, rd, rs1, rs2, immediate, and the two for what is left
abbrev pub list_of : Eight → List ℕ
list_of n =
    n.family ∷ n.operation ∷ n.rd ∷ n.rs1 ∷ n.rs2 ∷ n.immediate ∷ n.first ∷ n.second ∷ []

-- bits 19:15 of a CSR instruction: a register's number, or the number itself
abbrev pub source_of : CsrSource → ℕ
source_of (Register r) = r
source_of (Immediate n) = n

abbrev pub ordering_bit : Bool → ℕ
ordering_bit true = 1
ordering_bit false = 0

-- a swap's aq and rl are the two that are left
abbrev pub access_numbers : Access → ℕ → ℕ → ℕ → ℕ → Eight
access_numbers (Load w signed) d a b o = eight_of 6 (load_key w signed) d a b o 0 0
access_numbers (Store w) d a b o = eight_of 7 (width_key w) d a b o 0 0
access_numbers Push d a b o = eight_of 19 0 d a b o 0 0
access_numbers Pop d a b o = eight_of 20 0 d a b o 0 0
access_numbers (Swap w aq rl) d a b o = eight_of 21 (swap_key w) d a b o (ordering_bit aq) (ordering_bit rl)

-- FENCE's operation is fm, and pred and succ are left; a CSR instruction's CSR is left; the operation of MOP.R.n and MOP.RR.n is n
abbrev pub numbers_of : Instruction → Eight
numbers_of Illegal = eight_of 0 0 0 0 0 0 0 0
numbers_of (Lui d i) = eight_of 1 0 d 0 0 i 0 0
numbers_of (Auipc d i) = eight_of 2 0 d 0 0 i 0 0
numbers_of (Jal d o) = eight_of 3 0 d 0 0 o 0 0
numbers_of (Jalr d a o) = eight_of 4 0 d a 0 o 0 0
numbers_of (Branch c a b o) = eight_of 5 (condition_key c) 0 a b o 0 0
numbers_of (Memory k d a b o) = access_numbers k d a b o
numbers_of (OpImm k d a i) = eight_of 8 (operation_key k) d a 0 i 0 0
numbers_of (OpImm32 k d a i) = eight_of 9 (word_operation_key k) d a 0 i 0 0
numbers_of (Op k d a b) = eight_of 10 (operation_key k) d a b 0 0 0
numbers_of (Op32 k d a b) = eight_of 11 (word_operation_key k) d a b 0 0 0
numbers_of (Fence fm p s a d) = eight_of 12 fm d a 0 0 p s
numbers_of Ecall = eight_of 13 0 0 0 0 0 0 0
numbers_of Ebreak = eight_of 14 0 0 0 0 0 0 0
numbers_of Sret = eight_of 15 0 0 0 0 0 0 0
numbers_of Mret = eight_of 16 0 0 0 0 0 0 0
numbers_of (Csr k s d n) = eight_of 17 (csr_key k s) d (source_of s) 0 0 n 0
numbers_of (ReadSsp d) = eight_of 18 0 d 0 0 0 0 0
numbers_of (MopR n d a) = eight_of 22 n d a 0 0 0 0
numbers_of (MopRr n d a b) = eight_of 23 n d a b 0 0 0
