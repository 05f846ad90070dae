-- In U mode no CSR but ssp can be accessed: a computed test over the table of addresses.
-- Assumes nothing.
use mathlib.Core.Path.{◌≡◌, refl, sym, ap, ◌∙◌}
use mathlib.Core.Bool.{Bool, true, false, ◌||◌}
use Prim.Native.Nat.{ℕ}
use Rattle.word.specs.Choice.{pick, look}
use Rattle.word.proofs.Tables.{every, checked}
use Rattle.isa.specs.declared.Mode.TheVariants.{User}
use Rattle.csr_access.specs.Reach.{addresses, below, reach_of}
use Rattle.csr.specs.declared.Csr.{Csr}
use Rattle.csr.specs.declared.Csr.TheVariants.{Ssp, Sstatus, Stvec, Senvcfg, Sscratch, Sepc, Scause, Stval, Satp, Mstatus, Medeleg, Mtvec, Menvcfg}
use Rattle.csr.specs.declared.Csr.TheVariants.{Mscratch, Mepc, Mcause, Mtval, Mseccfg}
use Rattle.std.specs.Prelude.{Option, Some, None}

abbrev is_ssp : Csr → Bool
is_ssp Ssp = true
is_ssp Sstatus = false
is_ssp Stvec = false
is_ssp Senvcfg = false
is_ssp Sscratch = false
is_ssp Sepc = false
is_ssp Scause = false
is_ssp Stval = false
is_ssp Satp = false
is_ssp Mstatus = false
is_ssp Medeleg = false
is_ssp Mtvec = false
is_ssp Menvcfg = false
is_ssp Mscratch = false
is_ssp Mepc = false
is_ssp Mcause = false
is_ssp Mtval = false
is_ssp Mseccfg = false

abbrev harmless : Option Csr → Bool
harmless (Some n) = is_ssp n
harmless None = true

-- the test of a row: U is below its address, or it gives nothing but ssp
abbrev test : ℕ → Option Csr → Bool
test address r = below User address || harmless r

table : (permitted : Bool) → every test (addresses permitted) ≡ true
table true = refl
table false = refl

only : (n : Csr) → is_ssp n ≡ true → n ≡ Ssp
only Ssp e = refl
only Sstatus e = cc
only Stvec e = cc
only Senvcfg e = cc
only Sscratch e = cc
only Sepc e = cc
only Scause e = cc
only Stval e = cc
only Satp e = cc
only Mstatus e = cc
only Medeleg e = cc
only Mtvec e = cc
only Menvcfg e = cc
only Mscratch e = cc
only Mepc e = cc
only Mcause e = cc
only Mtval e = cc
only Mseccfg e = cc

or_true : (b : Bool) → b || true ≡ true
or_true true = refl
or_true false = refl

settled : (b : Bool) (r : Option Csr) (n : Csr) → b || harmless r ≡ true → pick b None r ≡ Some n → n ≡ Ssp
settled true r n h e = cc
settled false (Some k) n h e = only n (ap (λ (x : Option Csr). harmless x) (sym e) ∙ h)
settled false None n h e = cc

pub user_ssp : (permitted : Bool) (address : ℕ) (n : Csr) → reach_of User permitted address ≡ Some n → n ≡ Ssp
unfolding reach_of
user_ssp permitted address n e =
    settled (below User address) (look address (addresses permitted)) n
    (checked test address (addresses permitted) (table permitted) (or_true (below User address))) e
