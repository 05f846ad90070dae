-- Which CSR an address names, and whether a mode may touch it. Rules 5.1 to 5.4 of docs/HART.md.
use Rattle.std.specs.Prelude.{Bool, ℕ, ltb, Option, Some, None}
use Rattle.word.specs.Choice.{pick, Table, ◌⇒◌¦◌, otherwise, look}
use Rattle.word.specs.Field.{bits}
use Rattle.isa.specs.declared.Mode.{Mode}
use Rattle.isa.specs.Mode.{number_of}
use Rattle.csr.specs.declared.Csr.{Csr}
use Rattle.csr.specs.declared.Csr.TheVariants.{Ssp, Sstatus, Stvec, Senvcfg, Sscratch, Sepc, Scause, Stval, Satp, Mstatus, Medeleg, Mtvec, Menvcfg}
use Rattle.csr.specs.declared.Csr.TheVariants.{Mscratch, Mepc, Mcause, Mtval, Mseccfg}

-- the eighteen CSRs; others are none, which is illegal. permitted is what ssp needs
abbrev pub addresses : (permitted : Bool) → Table (Option Csr)
addresses permitted =
    0x011 ⇒ pick permitted (Some Ssp) None
    ¦ 0x100 ⇒ Some Sstatus
    ¦ 0x105 ⇒ Some Stvec
    ¦ 0x10A ⇒ Some Senvcfg
    ¦ 0x140 ⇒ Some Sscratch
    ¦ 0x141 ⇒ Some Sepc
    ¦ 0x142 ⇒ Some Scause
    ¦ 0x143 ⇒ Some Stval
    ¦ 0x180 ⇒ Some Satp
    ¦ 0x300 ⇒ Some Mstatus
    ¦ 0x302 ⇒ Some Medeleg
    ¦ 0x305 ⇒ Some Mtvec
    ¦ 0x30A ⇒ Some Menvcfg
    ¦ 0x340 ⇒ Some Mscratch
    ¦ 0x341 ⇒ Some Mepc
    ¦ 0x342 ⇒ Some Mcause
    ¦ 0x343 ⇒ Some Mtval
    ¦ 0x747 ⇒ Some Mseccfg
    ¦ otherwise None

-- a mode below address bits 9:8 is illegal
abbrev pub below : Mode → (address : ℕ) → Bool
below m address = ltb (number_of m) (bits address 9 8)

unfoldable pub reach_of : Mode → (permitted : Bool) → (address : ℕ) → Option Csr
reach_of m permitted address = pick (below m address) None (look address (addresses permitted))
