-- What a read of a CSR shows and what a write leaves. Rule 4.27 and chapter 5 of docs/HART.md.
use Rattle.std.specs.Prelude.{List, ℕ}
use Rattle.csr.specs.declared.Csr.{Csr}
use Rattle.word.specs.Row.{row_write_of, row_read_of}
use Rattle.csr.specs.Row.{row_of}
use Rattle.csr_access.specs.Enable.{sse_of}
use Rattle.csr_words.specs.Words.{◌of◌, ◌but◌≔◌, csr_slot_of, MENVCFG}

-- what a read of CSR n shows
unfoldable pub shown_of : Csr → (w : List ℕ) → ℕ
shown_of n w = row_read_of (row_of n (sse_of (MENVCFG of w))) (csr_slot_of n of w)

-- the word that a write of v to CSR n leaves
unfoldable pub written_of : Csr → (v : ℕ) → (w : List ℕ) → ℕ
written_of n v w = row_write_of (row_of n (sse_of (MENVCFG of w))) (csr_slot_of n of w) v

-- the words after it
abbrev pub csr_write_of : Csr → (v : ℕ) → (w : List ℕ) → List ℕ
csr_write_of n v w = w but csr_slot_of n ≔ written_of n v w
