-- The eighteen CSRs of docs/HART.md, 5.1, a row of fields each (5.5 to 5.21). Unnamed bits read zero.
use Rattle.std.specs.Prelude.{Bool, ◌||◌, not, List, [], ◌∷◌, ℕ, eqb}
use Rattle.word.specs.Choice.{pick}
use Rattle.word.specs.Row.{Field, Any, Only, Place, At, row}
use Rattle.csr_status.specs.Fields.{bit, hidden, mstatus, sstatus}
use Rattle.csr.specs.declared.Csr.{Csr}
use Rattle.csr.specs.declared.Csr.TheVariants.{Ssp, Sstatus, Stvec, Senvcfg, Sscratch, Sepc, Scause, Stval, Satp, Mstatus, Medeleg, Mtvec}
use Rattle.csr.specs.declared.Csr.TheVariants.{Menvcfg, Mscratch, Mepc, Mcause, Mtval, Mseccfg}

-- writable mask 0x4B3FF
abbrev pub medeleg : List Field
medeleg = row (At 0 (Any 10) ∷ At 12 (Any 2) ∷ bit 15 ∷ bit 18 ∷ [])

-- tvec and epc: bits 1:0 read zero
abbrev pub fours : List Field
fours = row (At 2 (Any 62) ∷ [])

-- ssp: bits 2:0 read zero
abbrev pub eights : List Field
eights = row (At 3 (Any 61) ∷ [])

-- scratch, cause and tval hold any 64 bits
abbrev pub word : List Field
word = row (At 0 (Any 64) ∷ [])

-- MODE 0 or 8, all else in it zero; a write with another MODE changes nothing
abbrev pub is_scheme : ℕ → Bool
is_scheme d = eqb d 0 || eqb d 8

abbrev pub satp : List Field
satp = row (At 60 (Only 4 is_scheme) ∷ [])

-- PMM 33:32: writing 1 keeps the old PMM
abbrev pub is_pmm : ℕ → Bool
is_pmm d = not (eqb d 1)

abbrev pub pmm : Place
pmm = At 32 (Only 2 is_pmm)

-- LPE 2, SSE 3, PMM
abbrev pub envcfg : List Field
envcfg = row (bit 2 ∷ bit 3 ∷ pmm ∷ [])

-- senvcfg while menvcfg.SSE is 0: SSE reads as 0; the stored bit stays and is not written
abbrev pub envcfg_held : List Field
envcfg_held = row (bit 2 ∷ hidden 3 ∷ pmm ∷ [])

-- MLPE 10, PMM
abbrev pub mseccfg : List Field
mseccfg = row (bit 10 ∷ pmm ∷ [])

-- each CSR's row; sse is menvcfg.SSE
abbrev pub row_of : Csr → (sse : Bool) → List Field
row_of Ssp sse = eights
row_of Sstatus sse = sstatus
row_of Stvec sse = fours
row_of Senvcfg sse = pick sse envcfg envcfg_held
row_of Sscratch sse = word
row_of Sepc sse = fours
row_of Scause sse = word
row_of Stval sse = word
row_of Satp sse = satp
row_of Mstatus sse = mstatus
row_of Medeleg sse = medeleg
row_of Mtvec sse = fours
row_of Menvcfg sse = envcfg
row_of Mscratch sse = word
row_of Mepc sse = fours
row_of Mcause sse = word
row_of Mtval sse = word
row_of Mseccfg sse = mseccfg
