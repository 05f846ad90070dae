-- The words that refusal 1 lets pass: every write, trap and return of such words leaves such words, and every value that a CSR
-- can hold is left by a write.
-- Assumes nothing.
use mathlib.Core.Path.{◌≡◌, refl, sym, ◌∙◌}
use mathlib.Core.Bool.{Bool, true, false, ◌&&◌}
use mathlib.Core.List.{List, [], ◌∷◌}
use Prim.Native.Nat.{ℕ, zero, suc, ◌%◌, ◌^◌, ◌<◌, ◌≤◌}
use native.Mathlib.Nat.{div-one}
use native.Mathlib.Omega.{arith}
use lib.Dec.{eqb, ltb}
use lib.ListN.{length, replicate, length-set}
use lib.Seq.{get_or-set_same}
use borrow.Author.Tests.{eq-eqb, eqb-true}
use Rattle.word.specs.Choice.{Table, ◌⇒◌¦◌, otherwise, pick, look}
use Rattle.word.specs.Row.{Fixed, Any, row_write_of, row_legal_of}
use Rattle.word.proofs.Bools.{both}
use Rattle.word.proofs.Rows.{all_seen_of, left, kept}
use Rattle.word.proofs.Tables.{every, checked}
use Rattle.isa.specs.declared.Mode.{Mode}
use Rattle.isa.specs.declared.Mode.TheVariants.{User, Supervisor, Machine}
use Rattle.csr_status.specs.Fields.{mstatus}
use Rattle.isa.specs.Mode.{mode_of, number_of}
use Rattle.csr.specs.Row.{fours, envcfg, satp, medeleg, mseccfg, row_of}
use Rattle.csr.specs.declared.Csr.{Csr}
use Rattle.csr.specs.declared.Csr.TheVariants.{Ssp, Sstatus, Stvec, Senvcfg, Sscratch, Sepc, Scause, Stval, Satp, Mstatus, Medeleg, Mtvec, Menvcfg}
use Rattle.csr.specs.declared.Csr.TheVariants.{Mscratch, Mepc, Mcause, Mtval, Mseccfg}
use Rattle.csr.proofs.Made.{is_view, all_fit_lem, all_seen, sixty_four, alike}
use Rattle.csr_access.specs.Enable.{sse_of, pad_of}
use Rattle.csr_setting.specs.Legal.{is_mode_of}
use Rattle.csr_trap.specs.Route.{to_s_of, delegated_of}
use Rattle.csr_trap.proofs.Crossed.{enter_m_legal, enter_s_legal, leave_m_legal, leave_s_legal}
use Rattle.csr_words.specs.Words.{◌of◌, ◌but◌≔◌, csr_slot_of, flag_of, expected, COUNT, PC, MODE, ELP, SSP, STVEC, SENVCFG, SEPC, SCAUSE, STVAL, SATP}
use Rattle.csr_words.specs.Words.{MSTATUS, MEDELEG, MTVEC, MENVCFG, MEPC, MCAUSE, MTVAL, MSECCFG}
use Rattle.csr_words.specs.Warl.{written_of, csr_write_of}
use Rattle.csr_words.specs.Legal.{holds, held, words_legal}
use Rattle.csr_words.specs.Trap.{trap_m, trap_s, trap_of}
use Rattle.csr_words.specs.Return.{back_in, mret_of, sret_of}

-- refusal 1's test of each word
abbrev tests : Table (ℕ → Bool)
tests =
    PC ⇒ (λ m. eqb (m % 4) 0) ¦ MODE ⇒ is_mode_of ¦ ELP ⇒ (λ m. ltb m 2) ¦ SSP ⇒ (λ m. eqb (m % 8) 0) ¦ STVEC ⇒ row_legal_of fours
    ¦ SENVCFG ⇒ row_legal_of envcfg ¦ SEPC ⇒ row_legal_of fours ¦ SATP ⇒ row_legal_of satp ¦ MSTATUS ⇒ row_legal_of mstatus ¦ MEDELEG ⇒ row_legal_of medeleg
    ¦ MTVEC ⇒ row_legal_of fours ¦ MENVCFG ⇒ row_legal_of envcfg ¦ MEPC ⇒ row_legal_of fours ¦ MSECCFG ⇒ row_legal_of mseccfg ¦ otherwise (λ m. true)

-- word k can be m
abbrev pub fits : (k m : ℕ) → Bool
fits k m = look k tests m

pub record Lawful (w : List ℕ) : Type 0 where
  pub size : length w ≡ COUNT
  pub fit : (k : ℕ) → fits k (k of w) ≡ true

and_true : (b : Bool) → (b && true) ≡ b
and_true true = refl
and_true false = refl

-- refusal 1 makes each of the tests
tested : (w : List ℕ) → eqb (length w) COUNT && every (λ k test. test (k of w)) tests ≡ words_legal w
unfolding words_legal
tested w = rw (and_true (held w Mseccfg))

-- so it lets these words pass, and no others
pub lawful : (w : List ℕ) → words_legal w ≡ true → Lawful w
lawful w e =
    let (size, all) = both (eqb (length w) COUNT) (every (λ k test. test (k of w)) tests) (tested w ∙ e) in
    record {
      size = eqb-true (length w) COUNT size;
      fit = λ k. checked (λ j test. test (j of w)) k tests all refl;
    }

pub legal_of : (w : List ℕ) → Lawful w → words_legal w ≡ true
unfolding words_legal
legal_of w l =
    let size = eq-eqb (length w) COUNT l.size in
    let f = l.fit in
    rw (size, f PC, f MODE, f ELP, f SSP, f STVEC, f SENVCFG, f SEPC, f SATP, f MSTATUS, f MEDELEG, f MTVEC, f MENVCFG, f MEPC, f MSECCFG)

-- a word that fits, stored
stored : (P : ℕ → ℕ → Bool) (w : List ℕ) (k v : ℕ) → P k v ≡ true → ((j : ℕ) → P j (j of w) ≡ true) → (j : ℕ) → P j (j of (w but k ≔ v)) ≡ true
stored P [] k v t f j = f j
stored P (a ∷ w) zero v t f zero = t
stored P (a ∷ w) zero v t f (suc j) = f (suc j)
stored P (a ∷ w) (suc k) v t f zero = f 0
stored P (a ∷ w) (suc k) v t f (suc j) = stored (λ i. P (suc i)) w k v t (λ i. f (suc i)) j

pub put : (k v : ℕ) {w : List ℕ} → fits k v ≡ true → Lawful w → Lawful (w but k ≔ v)
put k v {w} t l = record { size = rw length-set l.size; fit = stored fits w k v t l.fit }

-- pc and ssp, as their rows have them
low_row : (n k m : ℕ) → row_legal_of (Fixed n 0 ∷ Any k ∷ []) m ≡ eqb (m % 2 ^ n) 0
low_row n k m = rw (div-one, and_true (eqb (m % 2 ^ n) 0))

pub pc_four : (w : List ℕ) → Lawful w → PC of w % 4 ≡ 0
pc_four w l = eqb-true (PC of w % 4) 0 (l.fit PC)

pub ssp_eight : (w : List ℕ) → Lawful w → SSP of w % 8 ≡ 0
ssp_eight w l = eqb-true (SSP of w % 8) 0 (l.fit SSP)

-- where a CSR's word stands, that it is the CSR's row that it has to fit, and that a write of menvcfg leaves menvcfg's row
pub record Placed (n : Csr) : Type 0 where
  pub behind : 3 ≤ csr_slot_of n
  pub small : csr_slot_of n < COUNT
  pub row : (m : ℕ) → holds n m ≡ fits (csr_slot_of n) m
  pub own : MENVCFG ≡ csr_slot_of n → (a b : Bool) → row_of n a ≡ row_of n b

pub placed : (n : Csr) → Placed n
placed Ssp = record { behind = omega arith; small = omega arith; row = low_row 3 61; own = λ e a b. refl }
placed Sstatus = record { behind = omega arith; small = omega arith; row = λ m. refl; own = λ e a b. refl }
placed Stvec = record { behind = omega arith; small = omega arith; row = λ m. refl; own = λ e a b. refl }
placed Senvcfg = record { behind = omega arith; small = omega arith; row = λ m. refl; own = λ e. absurd (omega (arith, e)) }
placed Sscratch = record { behind = omega arith; small = omega arith; row = λ m. refl; own = λ e a b. refl }
placed Sepc = record { behind = omega arith; small = omega arith; row = λ m. refl; own = λ e a b. refl }
placed Scause = record { behind = omega arith; small = omega arith; row = λ m. refl; own = λ e a b. refl }
placed Stval = record { behind = omega arith; small = omega arith; row = λ m. refl; own = λ e a b. refl }
placed Satp = record { behind = omega arith; small = omega arith; row = λ m. refl; own = λ e a b. refl }
placed Mstatus = record { behind = omega arith; small = omega arith; row = λ m. refl; own = λ e a b. refl }
placed Medeleg = record { behind = omega arith; small = omega arith; row = λ m. refl; own = λ e a b. refl }
placed Mtvec = record { behind = omega arith; small = omega arith; row = λ m. refl; own = λ e a b. refl }
placed Menvcfg = record { behind = omega arith; small = omega arith; row = λ m. refl; own = λ e a b. refl }
placed Mscratch = record { behind = omega arith; small = omega arith; row = λ m. refl; own = λ e a b. refl }
placed Mepc = record { behind = omega arith; small = omega arith; row = λ m. refl; own = λ e a b. refl }
placed Mcause = record { behind = omega arith; small = omega arith; row = λ m. refl; own = λ e a b. refl }
placed Mtval = record { behind = omega arith; small = omega arith; row = λ m. refl; own = λ e a b. refl }
placed Mseccfg = record { behind = omega arith; small = omega arith; row = λ m. refl; own = λ e a b. refl }

-- the word that a write leaves is one that the CSR can hold
written_fits : (n : Csr) (v : ℕ) (w : List ℕ) → Lawful w → fits (csr_slot_of n) (written_of n v w) ≡ true
unfolding written_of
written_fits n v w l =
    let sse : Bool = sse_of (MENVCFG of w) in
    let old : ℕ = csr_slot_of n of w in
    let new : ℕ = row_write_of (row_of n sse) old v in
    sym ((placed n).row new) ∙ sym (alike n sse new)
    ∙ left (row_of n sse) old v (all_fit_lem n sse) (alike n sse old ∙ (placed n).row old ∙ l.fit (csr_slot_of n))

-- every CSR write, of any value
pub write_lawful : (n : Csr) (v : ℕ) (w : List ℕ) → Lawful w → Lawful (csr_write_of n v w)
write_lawful n v w l = put (csr_slot_of n) (written_of n v w) (written_fits n v w l) l

-- a trap
module _ (w : List ℕ) (cause tval : ℕ) (l : Lawful w) where
  to_m_lem : Lawful (trap_m w cause tval)
  unfolding trap_m
  to_m_lem =
      put PC _ (sym (low_row 2 62 (MTVEC of w)) ∙ l.fit MTVEC) (put MODE _ refl (put ELP _ refl
      (put MTVAL _ refl (put MCAUSE _ refl (put MEPC _ (low_row 2 62 (PC of w) ∙ l.fit PC)
      (put MSTATUS _ (enter_m_legal (MSTATUS of w) (mode_of (MODE of w)) (expected w)) l))))))

  to_s_lem : Lawful (trap_s w cause tval)
  unfolding trap_s
  to_s_lem =
      put PC _ (sym (low_row 2 62 (STVEC of w)) ∙ l.fit STVEC) (put MODE _ refl (put ELP _ refl
      (put STVAL _ refl (put SCAUSE _ refl (put SEPC _ (low_row 2 62 (PC of w) ∙ l.fit PC)
      (put MSTATUS _ (enter_s_legal (MSTATUS of w) (mode_of (MODE of w)) (expected w) (l.fit MSTATUS)) l))))))

  either : (b : Bool) → Lawful (pick b (trap_s w cause tval) (trap_m w cause tval))
  either true = to_s_lem
  either false = to_m_lem

  pub trap_lawful : Lawful (trap_of w cause tval)
  unfolding trap_of
  trap_lawful = either (to_s_of (mode_of (MODE of w)) (delegated_of (MEDELEG of w) cause))

-- the returns
number_mode : (m : Mode) → is_mode_of (number_of m) ≡ true
number_mode User = refl
number_mode Supervisor = refl
number_mode Machine = refl

pub flag_fits : (b : Bool) → fits ELP (flag_of b) ≡ true
flag_fits true = refl
flag_fits false = refl

back_lawful : (w : List ℕ) (new : Mode) (saved : Bool) (m to : ℕ) → row_legal_of mstatus m ≡ true → row_legal_of fours to ≡ true → Lawful w
    → Lawful (back_in w new saved m to)
unfolding back_in
back_lawful w new saved m to s t l =
    put PC _ (sym (low_row 2 62 to) ∙ t) (put MSTATUS _ s (put MODE _ (number_mode new)
    (put ELP _ (flag_fits (pad_of new (MENVCFG of w) (SENVCFG of w) (MSECCFG of w) && saved)) l)))

pub mret_lawful : (w : List ℕ) → Lawful w → Lawful (mret_of w)
unfolding mret_of
mret_lawful w l = back_lawful w _ _ _ _ (leave_m_legal (MSTATUS of w)) (l.fit MEPC) l

pub sret_lawful : (w : List ℕ) → Lawful w → Lawful (sret_of w)
unfolding sret_of
sret_lawful w l = back_lawful w _ _ _ _ (leave_s_legal (MSTATUS of w) (l.fit MSTATUS)) (l.fit SEPC) l

-- the same of `words_legal`, as code tests it
pub write_legal : (n : Csr) (v : ℕ) (w : List ℕ) → words_legal w ≡ true → words_legal (csr_write_of n v w) ≡ true
write_legal n v w e = legal_of (csr_write_of n v w) (write_lawful n v w (lawful w e))

pub trap_legal : (w : List ℕ) (cause tval : ℕ) → words_legal w ≡ true → words_legal (trap_of w cause tval) ≡ true
trap_legal w cause tval e = legal_of (trap_of w cause tval) (trap_lawful w cause tval (lawful w e))

pub mret_legal : (w : List ℕ) → words_legal w ≡ true → words_legal (mret_of w) ≡ true
mret_legal w e = legal_of (mret_of w) (mret_lawful w (lawful w e))

pub sret_legal : (w : List ℕ) → words_legal w ≡ true → words_legal (sret_of w) ≡ true
sret_legal w e = legal_of (sret_of w) (sret_lawful w (lawful w e))

-- where a write of CSR n reaches every field, a word m that it can hold is left by a write of m
pub left_by_write : (n : Csr) (w : List ℕ) (m : ℕ) → length w ≡ COUNT → all_seen_of (row_of n (sse_of (MENVCFG of w))) ≡ true
    → m < 2 ^ 64 → holds n m ≡ true → csr_slot_of n of csr_write_of n m w ≡ m
unfolding written_of
left_by_write n w m size e lt t =
    let sse : Bool = sse_of (MENVCFG of w) in
    get_or-set_same w (csr_slot_of n) (written_of n m w) 0 (rw size (placed n).small)
    ∙ kept (row_of n sse) (csr_slot_of n of w) m e (rw (sixty_four n sse) lt) (alike n sse m ∙ t)

-- words in M whose menvcfg.SSE is 1, so that senvcfg.SSE is written too
unfoldable ready : List ℕ
ready = replicate COUNT 0 but MODE ≔ 3 but MSTATUS ≔ 0xA00000000 but MENVCFG ≔ 8

ready_legal : words_legal ready ≡ true
unfolding ready words_legal
ready_legal = refl

ready_sse : sse_of (MENVCFG of ready) ≡ true
unfolding ready
ready_sse = refl

-- some words that refusal 1 lets pass, and a value, whose write to CSR n leaves m there
pub record Left (n : Csr) (m : ℕ) : Type 0 where
  pub before : List ℕ
  pub lets : words_legal before ≡ true
  pub value : ℕ
  pub small : value < 2 ^ 64
  pub after : csr_slot_of n of csr_write_of n value before ≡ m

-- refusal 1: the values that a CSR can hold are exactly those that a write could leave
pub can_hold : (n : Csr) (m : ℕ) → is_view n ≡ false → m < 2 ^ 64 → holds n m ≡ true → Left n m
can_hold n m e lt t = record {
  before = ready;
  lets = ready_legal;
  value = m;
  small = lt;
  after = left_by_write n ready m (lawful ready ready_legal).size (rw ready_sse (all_seen n e)) lt t;
}

pub no_other : (n : Csr) (m : ℕ) → Left n m → holds n m ≡ true
no_other n m l = (placed n).row m ∙ rw l.after at ((write_lawful n l.value l.before (lawful l.before l.lets)).fit (csr_slot_of n))
