-- Each CSR's row is well made, and all of it but a view is seen; and two rows of one CSR hold the same words. Each is a computed test.
-- Assumes nothing.
use mathlib.Core.Path.{◌≡◌, refl}
use mathlib.Core.Bool.{Bool, true, false}
use Prim.Native.Nat.{ℕ, ◌^◌, ◌<◌}
use lib.Dec.{eqb}
use borrow.Author.Tests.{eqb-true}
use Rattle.word.proofs.Bools.{both}
use Rattle.word.specs.Row.{row_write_of, row_legal_of}
use Rattle.word.proofs.Rows.{bits_of, all_fit, well_made, all_seen_of, passes}
use Rattle.csr_status.specs.Fields.{mstatus}
use Rattle.csr.specs.Row.{row_of}
use Rattle.csr.specs.declared.Csr.{Csr}
use Rattle.csr.specs.declared.Csr.TheVariants.{Ssp, Sstatus, Stvec, Senvcfg, Sscratch, Sepc, Scause, Stval, Satp, Mstatus, Medeleg, Mtvec}
use Rattle.csr.specs.declared.Csr.TheVariants.{Menvcfg, Mscratch, Mepc, Mcause, Mtval, Mseccfg}

-- sstatus is a view of mstatus; every other CSR has a word of its own
abbrev pub is_view : Csr → Bool
is_view Ssp = false
is_view Sstatus = true
is_view Stvec = false
is_view Senvcfg = false
is_view Sscratch = false
is_view Sepc = false
is_view Scause = false
is_view Stval = false
is_view Satp = false
is_view Mstatus = false
is_view Medeleg = false
is_view Mtvec = false
is_view Menvcfg = false
is_view Mscratch = false
is_view Mepc = false
is_view Mcause = false
is_view Mtval = false
is_view Mseccfg = false

pub well_made_lem : (n : Csr) (sse : Bool) → well_made (row_of n sse) ≡ true
well_made_lem Ssp sse = refl
well_made_lem Sstatus sse = refl
well_made_lem Stvec sse = refl
well_made_lem Senvcfg true = refl
well_made_lem Senvcfg false = refl
well_made_lem Sscratch sse = refl
well_made_lem Sepc sse = refl
well_made_lem Scause sse = refl
well_made_lem Stval sse = refl
well_made_lem Satp sse = refl
well_made_lem Mstatus sse = refl
well_made_lem Medeleg sse = refl
well_made_lem Mtvec sse = refl
well_made_lem Menvcfg sse = refl
well_made_lem Mscratch sse = refl
well_made_lem Mepc sse = refl
well_made_lem Mcause sse = refl
well_made_lem Mtval sse = refl
well_made_lem Mseccfg sse = refl

pub all_fit_lem : (n : Csr) (sse : Bool) → all_fit (row_of n sse) ≡ true
all_fit_lem n sse = (both (all_fit (row_of n sse)) (eqb (bits_of (row_of n sse)) 64) (well_made_lem n sse)).0

-- while menvcfg.SSE is 1, a write of any CSR but sstatus reaches every field of what it stores
pub all_seen : (n : Csr) → is_view n ≡ false → all_seen_of (row_of n true) ≡ true
all_seen Ssp e = refl
all_seen Sstatus e = cc
all_seen Stvec e = refl
all_seen Senvcfg e = refl
all_seen Sscratch e = refl
all_seen Sepc e = refl
all_seen Scause e = refl
all_seen Stval e = refl
all_seen Satp e = refl
all_seen Mstatus e = refl
all_seen Medeleg e = refl
all_seen Mtvec e = refl
all_seen Menvcfg e = refl
all_seen Mscratch e = refl
all_seen Mepc e = refl
all_seen Mcause e = refl
all_seen Mtval e = refl
all_seen Mseccfg e = refl

-- what a CSR can hold does not depend on menvcfg.SSE
pub alike : (n : Csr) (sse : Bool) (m : ℕ) → row_legal_of (row_of n sse) m ≡ row_legal_of (row_of n true) m
alike Ssp sse m = refl
alike Sstatus sse m = refl
alike Stvec sse m = refl
alike Senvcfg true m = refl
alike Senvcfg false m = refl
alike Sscratch sse m = refl
alike Sepc sse m = refl
alike Scause sse m = refl
alike Stval sse m = refl
alike Satp sse m = refl
alike Mstatus sse m = refl
alike Medeleg sse m = refl
alike Mtvec sse m = refl
alike Menvcfg sse m = refl
alike Mscratch sse m = refl
alike Mepc sse m = refl
alike Mcause sse m = refl
alike Mtval sse m = refl
alike Mseccfg sse m = refl

pub sixty_four : (n : Csr) (sse : Bool) → bits_of (row_of n sse) ≡ 64
sixty_four n sse = eqb-true (bits_of (row_of n sse)) 64 (both (all_fit (row_of n sse)) (eqb (bits_of (row_of n sse)) 64) (well_made_lem n sse)).1

-- 0 is a word that every CSR but mstatus can hold
pub zero_legal : (n : Csr) → (n ≡ Sstatus → ⊥) → (n ≡ Mstatus → ⊥) → row_legal_of (row_of n true) 0 ≡ true
zero_legal Ssp s m = refl
zero_legal Sstatus s m = absurd (s refl)
zero_legal Stvec s m = refl
zero_legal Senvcfg s m = refl
zero_legal Sscratch s m = refl
zero_legal Sepc s m = refl
zero_legal Scause s m = refl
zero_legal Stval s m = refl
zero_legal Satp s m = refl
zero_legal Mstatus s m = absurd (m refl)
zero_legal Medeleg s m = refl
zero_legal Mtvec s m = refl
zero_legal Menvcfg s m = refl
zero_legal Mscratch s m = refl
zero_legal Mepc s m = refl
zero_legal Mcause s m = refl
zero_legal Mtval s m = refl
zero_legal Mseccfg s m = refl

viewless : (n : Csr) → (n ≡ Sstatus → ⊥) → is_view n ≡ false
viewless Ssp s = refl
viewless Sstatus s = absurd (s refl)
viewless Stvec s = refl
viewless Senvcfg s = refl
viewless Sscratch s = refl
viewless Sepc s = refl
viewless Scause s = refl
viewless Stval s = refl
viewless Satp s = refl
viewless Mstatus s = refl
viewless Medeleg s = refl
viewless Mtvec s = refl
viewless Menvcfg s = refl
viewless Mscratch s = refl
viewless Mepc s = refl
viewless Mcause s = refl
viewless Mtval s = refl
viewless Mseccfg s = refl

-- so what it can hold is what a write over 0 leaves
pub tested : (n : Csr) (m w : ℕ) → (n ≡ Sstatus → ⊥) → (n ≡ Mstatus → ⊥) → m < 2 ^ 64 → w ≡ row_write_of (row_of n true) 0 m
    → eqb w m ≡ row_legal_of (row_of n true) m
tested n m w s t l e =
    passes (row_of n true) 0 m w (all_fit_lem n true) (all_seen n (viewless n s)) (zero_legal n s t) (rw (sixty_four n true) l) e

-- and what mstatus can hold is what a write over its word with nothing set leaves
pub tested_status : (m w : ℕ) → m < 2 ^ 64 → w ≡ row_write_of mstatus 0xA00000000 m → eqb w m ≡ row_legal_of mstatus m
tested_status m w l e = passes mstatus 0xA00000000 m w refl refl refl l e
