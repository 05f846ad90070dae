-- The eight registers of a trap handler: scratch, epc, cause and tval, of M and of S. Four addresses of a mode follow each other, and so do their
-- words among a hart's; so numbers say all, and an address is only named here.
use Rattle.std.specs.Prelude.{Bool, false, List, ◌≡◌, ℕ, ◌%◌, ◌<◌, eqb, Option, Some, None}
use Rattle.word.specs.Choice.{pick, Table, ◌⇒◌¦◌, otherwise, look}
use Rattle.word.specs.Row.{Field, row_read_of}
use Rattle.isa.specs.declared.Mode.{Mode}
use Rattle.csr.specs.Row.{row_of, fours, word}
use Rattle.csr.specs.declared.Csr.{Csr}
use Rattle.csr.specs.declared.Csr.TheVariants.{Sscratch, Sepc, Scause, Stval, Mscratch, Mepc, Mcause, Mtval}
use Rattle.csr_access.specs.Reach.{reach_of}
use Rattle.csr_words.specs.Setting.{switches}
use Rattle.csr_words.specs.Words.{COUNT, csr_slot_of}

-- what each of the eight addresses names: 0x343 is what is left, and any other is never asked for
abbrev pub handlers : Table Csr
handlers =
    0x140 ⇒ Sscratch
    ¦ 0x141 ⇒ Sepc
    ¦ 0x142 ⇒ Scause
    ¦ 0x143 ⇒ Stval
    ¦ 0x340 ⇒ Mscratch
    ¦ 0x341 ⇒ Mepc
    ¦ 0x342 ⇒ Mcause
    ¦ otherwise Mtval

unfoldable pub named_of : (address : ℕ) → Csr
named_of address = look address handlers

-- the row of each: epc is the second of its four
abbrev pub row_at : (address : ℕ) → List Field
row_at address = pick (eqb (address % 4) 1) fours word

-- what a read of the word v shows; a write of v leaves the same
unfoldable pub held_of : (address v : ℕ) → ℕ
held_of address v = row_read_of (row_at address) v

-- mode m reaches, by this address, the CSR that it names: its word is the one at k, its row the address' own, and no setting depends on it
abbrev pub CsrStands : (k address : ℕ) → Mode → Type 0
CsrStands k address m =
    (k < COUNT)
    × (k ≡ csr_slot_of (named_of address))
    × ((permitted : Bool) → reach_of m permitted address ≡ Some (named_of address))
    × ((sse : Bool) → row_of (named_of address) sse ≡ row_at address)
    × (switches (csr_slot_of (named_of address)) ≡ false)

-- an address that was found is one of the eight; one that was not takes the slow path
abbrev pub Finds : Option ℕ → (address : ℕ) → Mode → Type 0
Finds (Some k) address m = CsrStands k address m
Finds None address m = Unit {0}
