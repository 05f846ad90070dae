-- Refusal 1, of the words. Rules 2.3 and 2.4 of docs/HART.md.
use Rattle.std.specs.Prelude.{Bool, true, ◌&&◌, List, ℕ, ◌%◌, eqb, ltb, length}
use Rattle.word.specs.Row.{row_legal_of}
use Rattle.csr_setting.specs.Legal.{is_mode_of}
use Rattle.csr.specs.Row.{row_of}
use Rattle.csr.specs.declared.Csr.{Csr}
use Rattle.csr.specs.declared.Csr.TheVariants.{Stvec, Senvcfg, Sepc, Satp, Mstatus, Medeleg, Mtvec, Menvcfg, Mepc, Mseccfg}
use Rattle.csr_words.specs.Words.{◌of◌, csr_slot_of, COUNT, PC, MODE, ELP, SSP}

-- CSR n can hold the word m: some write leaves it (while menvcfg.SSE is 1, which writes every field)
abbrev pub holds : Csr → ℕ → Bool
holds n m = row_legal_of (row_of n true) m

-- its word in w is one
abbrev pub held : (w : List ℕ) → Csr → Bool
held w n = holds n (csr_slot_of n of w)

-- scratch, cause and tval hold any
abbrev pub csrs_legal : (w : List ℕ) → Bool
csrs_legal w =
    held w Stvec && (held w Senvcfg && (held w Sepc && (held w Satp
    && (held w Mstatus && (held w Medeleg && (held w Mtvec && (held w Menvcfg && (held w Mepc && held w Mseccfg))))))))

-- pc is a multiple of 4; the mode is 0, 1 or 3; elp is 0 or 1; ssp is a multiple of 8; and each CSR holds a value that a write could leave
unfoldable pub words_legal : (w : List ℕ) → Bool
words_legal w =
    eqb (length w) COUNT && (eqb (PC of w % 4) 0 && (is_mode_of (MODE of w) && (ltb (ELP of w) 2 && (eqb (SSP of w % 8) 0 && csrs_legal w))))
