-- An instruction is told by its numbers: it can be made of them again.
-- Assumes nothing.
use mathlib.Core.Bool.{Bool, true, false}
use mathlib.Core.Path.{◌≡◌, refl, sym, ◌∙◌, ap}
use lib.Dec.{eqb}
use Prim.Native.Nat.{ℕ}
use Rattle.word.specs.Choice.{Table, ◌⇒◌¦◌, otherwise, look}
use Rattle.word.proofs.Tables.{hit}
use Rattle.isa.specs.declared.Access.{Access}
use Rattle.isa.specs.declared.Access.TheVariants.{Load, Store, Push, Pop, Swap}
use Rattle.isa.specs.declared.Instruction.{Instruction}
use Rattle.isa.specs.declared.Instruction.TheVariants.{Illegal, Lui, Auipc, Jal, Jalr, Branch, Memory, OpImm, OpImm32, Op, Op32, Fence, Ecall}
use Rattle.isa.specs.declared.Instruction.TheVariants.{Ebreak, Sret, Mret, Csr, ReadSsp, MopR, MopRr}
use Rattle.decode_numbers.specs.declared.Eight.{Eight}
use Rattle.decode_numbers.specs.Numbers.{ordering_bit, numbers_of}
use Rattle.decode_numbers.proofs.Keys.{condition_at, condition_again, operation_at, operation_again, word_operation_at, word_operation_again, width_at}
use Rattle.decode_numbers.proofs.Keys.{width_again, load_at_of, load_again, swap_at, swap_again, csr_at, csr_again}

flag_again : (b : Bool) → eqb (ordering_bit b) 1 ≡ b
flag_again true = refl
flag_again false = refl

abbrev families : Eight → Table Instruction
families n =
    1 ⇒ Lui n.rd n.immediate
    ¦ 2 ⇒ Auipc n.rd n.immediate
    ¦ 3 ⇒ Jal n.rd n.immediate
    ¦ 4 ⇒ Jalr n.rd n.rs1 n.immediate
    ¦ 5 ⇒ Branch (condition_at n.operation) n.rs1 n.rs2 n.immediate
    ¦ 6 ⇒ Memory (load_at_of n.operation) n.rd n.rs1 n.rs2 n.immediate
    ¦ 7 ⇒ Memory (Store (width_at n.operation)) n.rd n.rs1 n.rs2 n.immediate
    ¦ 8 ⇒ OpImm (operation_at n.operation) n.rd n.rs1 n.immediate
    ¦ 9 ⇒ OpImm32 (word_operation_at n.operation) n.rd n.rs1 n.immediate
    ¦ 10 ⇒ Op (operation_at n.operation) n.rd n.rs1 n.rs2
    ¦ 11 ⇒ Op32 (word_operation_at n.operation) n.rd n.rs1 n.rs2
    ¦ 12 ⇒ Fence n.operation n.first n.second n.rs1 n.rd
    ¦ 13 ⇒ Ecall
    ¦ 14 ⇒ Ebreak
    ¦ 15 ⇒ Sret
    ¦ 16 ⇒ Mret
    ¦ 17 ⇒ csr_at n.operation n.rs1 n.rd n.first
    ¦ 18 ⇒ ReadSsp n.rd
    ¦ 19 ⇒ Memory Push n.rd n.rs1 n.rs2 n.immediate
    ¦ 20 ⇒ Memory Pop n.rd n.rs1 n.rs2 n.immediate
    ¦ 21 ⇒ Memory (Swap (swap_at n.operation) (eqb n.first 1) (eqb n.second 1)) n.rd n.rs1 n.rs2 n.immediate
    ¦ 22 ⇒ MopR n.operation n.rd n.rs1
    ¦ 23 ⇒ MopRr n.operation n.rd n.rs1 n.rs2
    ¦ otherwise Illegal

pub instruction_at : Eight → Instruction
instruction_at n = look n.family (families n)

access_again : (k : Access) (d a b o : ℕ) → instruction_at (numbers_of (Memory k d a b o)) ≡ Memory k d a b o
unfolding instruction_at
access_again (Load w signed) d a b o = rw (load_again w signed)
access_again (Store w) d a b o = rw (width_again w)
access_again Push d a b o = refl
access_again Pop d a b o = refl
access_again (Swap w aq rl) d a b o = rw (swap_again w, flag_again aq, flag_again rl)

pub again : (i : Instruction) → instruction_at (numbers_of i) ≡ i
unfolding instruction_at
again Illegal = refl
again (Lui d i) = refl
again (Auipc d i) = refl
again (Jal d o) = refl
again (Jalr d a o) = refl
again (Branch c a b o) = rw (condition_again c)
again (Memory k d a b o) = access_again k d a b o
again (OpImm k d a i) = rw (operation_again k)
again (OpImm32 k d a i) = rw (word_operation_again k)
again (Op k d a b) = rw (operation_again k)
again (Op32 k d a b) = rw (word_operation_again k)
again (Fence fm p s a d) = refl
again Ecall = refl
again Ebreak = refl
again Sret = refl
again Mret = refl
again (Csr k s d n) = csr_again k s d n
again (ReadSsp d) = refl
again (MopR n d a) = refl
again (MopRr n d a b) = refl

-- the numbers tell the instruction
pub told : (i j : Instruction) → numbers_of i ≡ numbers_of j → i ≡ j
told i j e = sym (again i) ∙ ap instruction_at e ∙ again j

-- family 0 is what is illegal
pub no_family : (i : Instruction) → (numbers_of i).family ≡ 0 → i ≡ Illegal
unfolding instruction_at
no_family i e = sym (again i) ∙ sym (hit (families (numbers_of i)) e)
