-- How far a branch and a jump reach: a distance that is odd, or does not fit in 13 bits (a jump's in 21), is refused, and both ends
-- are written.
-- Assumes nothing.
use mathlib.Core.Path.{◌≡◌, refl, sym, ◌∙◌, ap}
use Prim.Native.Nat.{ℕ, ◌+◌, ◌-◌, ◌*◌, ◌/◌, ◌%◌, ◌^◌, ◌<◌}
use native.Mathlib.Omega.{arith}
use Rattle.word.specs.Field.{bits, opcode, fields_of}
use Rattle.word.specs.Immediate.{imm_b_of, imm_j_of}
use Rattle.word.specs.Sign.{sign_extend_of}
use Rattle.word.proofs.Either.{either}
use Rattle.word.proofs.Extension.{sign_bit}
use Rattle.word.proofs.Tables.{looked, ◌and◌}
use Rattle.decode_base.specs.Base.{decode_branch_of, branches}
use Rattle.decode.specs.Decode.{decode_of}
use Rattle.isa.specs.declared.Condition.{Condition}
use Rattle.isa.specs.declared.Condition.TheVariants.{Equal}
use Rattle.isa.specs.declared.Instruction.{Instruction}
use Rattle.isa.specs.declared.Instruction.TheVariants.{Illegal, Lui, Auipc, Jal, Jalr, Branch, Memory, OpImm, OpImm32, Op, Op32, Fence, Ecall}
use Rattle.isa.specs.declared.Instruction.TheVariants.{Ebreak, Sret, Mret, Csr, ReadSsp, MopR, MopRr}
use Rattle.decode_numbers.specs.Numbers.{numbers_of}
use Rattle.std.specs.Prelude.{Option, Some, None}
use Rattle.decode_writer.specs.Pack.{pack_of}
use Rattle.decode_writer.specs.Promise.{Reads, Answers}
use Rattle.decode_writer.proofs.Decoded.{decoded_back}

-- an even number, and as a signed one from −2 ^ (k - 1) to 2 ^ (k - 1) − 2
abbrev pub InReach : (k o : ℕ) → Type 0
InReach k o = (o % 2 ≡ 0) × ((o + 2 ^ (k - 1)) % 2 ^ 64 < 2 ^ k)

-- what 13 bits hold, and what 21 do: l is what is below the sign's copies, q the sign
held_13 : (l q : ℕ) → l < 2 ^ 13 → q ≡ l / 2 ^ 12 → (l + q * (2 ^ 64 - 2 ^ 13) + 2 ^ 12) % 2 ^ 64 < 2 ^ 13
held_13 l q h e =
    either l (2 ^ 12) (λ b. let z : q ≡ 0 = omega arith in rw z (omega arith)) (λ b. let z : q ≡ 1 = omega arith in rw z (omega arith))

held_21 : (l q : ℕ) → l < 2 ^ 21 → q ≡ l / 2 ^ 20 → (l + q * (2 ^ 64 - 2 ^ 21) + 2 ^ 20) % 2 ^ 64 < 2 ^ 21
held_21 l q h e =
    either l (2 ^ 20) (λ b. let z : q ≡ 0 = omega arith in rw z (omega arith)) (λ b. let z : q ≡ 1 = omega arith in rw z (omega arith))

reach_13 : (v : ℕ) → v % 2 ≡ 0 → InReach 13 (sign_extend_of 13 v)
reach_13 v e = (omega arith, held_13 (v % 2 ^ 13) _ (omega arith) (sign_bit 13 v (omega arith)))

reach_21 : (v : ℕ) → v % 2 ≡ 0 → InReach 21 (sign_extend_of 21 v)
reach_21 v e = (omega arith, held_21 (v % 2 ^ 21) _ (omega arith) (sign_bit 21 v (omega arith)))

even_b : (s t p q : ℕ) → (s * 2 ^ 12 + t * 2 ^ 11 + p * 2 ^ 5 + q * 2) % 2 ≡ 0
even_b s t p q = omega arith

even_j : (s p t r : ℕ) → (s * 2 ^ 20 + p * 2 ^ 12 + t * 2 ^ 11 + r * 2) % 2 ≡ 0
even_j s p t r = omega arith

-- the distance of a branch or a jump
abbrev distance_of : Instruction → ℕ
distance_of Illegal = 0
distance_of (Lui d i) = 0
distance_of (Auipc d i) = 0
distance_of (Jal d o) = o
distance_of (Jalr d a o) = 0
distance_of (Branch c a b o) = o
distance_of (Memory k d a b o) = 0
distance_of (OpImm k d a i) = 0
distance_of (OpImm32 k d a i) = 0
distance_of (Op k d a b) = 0
distance_of (Op32 k d a b) = 0
distance_of (Fence fm p s a d) = 0
distance_of Ecall = 0
distance_of Ebreak = 0
distance_of Sret = 0
distance_of Mret = 0
distance_of (Csr k s d n) = 0
distance_of (ReadSsp d) = 0
distance_of (MopR n d a) = 0
distance_of (MopRr n d a b) = 0

-- the lowest part of a word that was packed
lowest : (op d f a n : ℕ) → op < 2 ^ 7 → (op + d * 2 ^ 7 + f * 2 ^ 12 + a * 2 ^ 15 + n * 2 ^ 20) % 2 ^ 7 ≡ op
lowest op d f a n h = omega arith

module _ (w : ℕ) where
  BranchDistance : Instruction → Type 0
  BranchDistance i = (i ≡ Illegal → ⊥) → distance_of i ≡ imm_b_of w

  read_branch : opcode w ≡ 0b1100011 → BranchDistance (decode_of w)
  unfolding decode_of decode_branch_of BranchDistance
  read_branch e =
      let d : BranchDistance (decode_branch_of (fields_of w) (imm_b_of w)) =
      looked BranchDistance (bits w 14 12) (branches (fields_of w) (imm_b_of w))
      ((λ k n. refl) and (λ k n. refl) and (λ k n. refl) and (λ k n. refl) and (λ k n. refl) and (λ k n. refl) and
      (λ n. absurd (n refl))) in
      rw e d

  branch_opcode : (c : Condition) (a b o : ℕ) → Reads w (Branch c a b o) → opcode w ≡ 0b1100011
  unfolding pack_of
  branch_opcode c a b o (h, d, l) =
      ap (λ (v : ℕ). v % 2 ^ 7) (sym (decoded_back w h (λ z. l (sym d ∙ z)))) ∙ ap (λ (i : Instruction). pack_of (numbers_of i) % 2 ^ 7) d
      ∙ lowest 0b1100011 _ _ _ _ (omega arith)

  -- a word that reads as a branch has its distance in its bits
  pub branch_reach : (c : Condition) (a b o : ℕ) → Reads w (Branch c a b o) → InReach 13 o
  unfolding BranchDistance
  branch_reach c a b o (h, d, l) =
      let e : imm_b_of w ≡ o = sym (read_branch (branch_opcode c a b o (h, d, l)) (λ z. l (sym d ∙ z))) ∙ ap distance_of d in
      rw (← e) (reach_13 _ (even_b (bits w 31 31) (bits w 7 7) (bits w 30 25) (bits w 11 8)))

  jump_opcode : (d o : ℕ) → Reads w (Jal d o) → opcode w ≡ 0b1101111
  unfolding pack_of
  jump_opcode d o (h, e, l) =
      ap (λ (v : ℕ). v % 2 ^ 7) (sym (decoded_back w h (λ z. l (sym e ∙ z)))) ∙ ap (λ (i : Instruction). pack_of (numbers_of i) % 2 ^ 7) e
      ∙ lowest 0b1101111 _ _ _ _ (omega arith)

  read_jump : opcode w ≡ 0b1101111 → distance_of (decode_of w) ≡ imm_j_of w
  unfolding decode_of
  read_jump e = rw e

  pub jump_reach : (d o : ℕ) → Reads w (Jal d o) → InReach 21 o
  jump_reach d o (h, e, l) =
      let f : imm_j_of w ≡ o = sym (read_jump (jump_opcode d o (h, e, l))) ∙ ap distance_of e in
      rw (← f) (reach_21 _ (even_j (bits w 31 31) (bits w 19 12) (bits w 20 20) (bits w 30 21)))

-- a distance out of reach is refused
pub branch_refused :
    (c : Condition) (a b o : ℕ) → (InReach 13 o → ⊥) → (r : Option ℕ) → Answers (Branch c a b o) r → r ≡ None
branch_refused c a b o n (Some w) p = absurd (n (branch_reach w c a b o p))
branch_refused c a b o n None p = refl

pub jump_refused : (d o : ℕ) → (InReach 21 o → ⊥) → (r : Option ℕ) → Answers (Jal d o) r → r ≡ None
jump_refused d o n (Some w) p = absurd (n (jump_reach w d o p))
jump_refused d o n None p = refl

pub branch_legal : (c : Condition) (a b o : ℕ) → Branch c a b o ≡ Illegal → ⊥
branch_legal c a b o z = let e : ◌≡◌ {A = ℕ} 5 0 = ap (λ (i : Instruction). (numbers_of i).family) z in absurd (omega arith)

jump_legal : (d o : ℕ) → Jal d o ≡ Illegal → ⊥
jump_legal d o z = let e : ◌≡◌ {A = ℕ} 3 0 = ap (λ (i : Instruction). (numbers_of i).family) z in absurd (omega arith)

-- −4,096 and 4,094
pub farthest_branches : Reads 0x80000063 (Branch Equal 0 0 (2 ^ 64 - 4096)) × Reads 0x7E000FE3 (Branch Equal 0 0 4094)
unfolding decode_of decode_branch_of
farthest_branches = ((omega arith, refl, branch_legal Equal 0 0 _), (omega arith, refl, branch_legal Equal 0 0 _))

-- −1,048,576 and 1,048,574
pub farthest_jumps : Reads 0x8000006F (Jal 0 (2 ^ 64 - 1048576)) × Reads 0x7FFFF06F (Jal 0 1048574)
unfolding decode_of
farthest_jumps = ((omega arith, refl, jump_legal 0 _), (omega arith, refl, jump_legal 0 _))
