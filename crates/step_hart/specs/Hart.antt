-- A hart: the thirty-two registers, and its other words by name (crate `csr_words`). Rules 1.3, 2.2 and 2.3 of docs/HART.md.
use Rattle.std.specs.Prelude.{Bool, ◌&&◌, List, ℕ, eqb, get_or, replicate}
use Rattle.csr_words.specs.Words.{◌but◌≔◌, COUNT, MODE, MSTATUS}
use Rattle.csr_words.specs.Legal.{words_legal}
use Rattle.step_hart.specs.declared.Hart.{Hart}

abbrev pub hart : (x w : List ℕ) → Hart
hart x w = record { x = x; words = w }

-- refusal 1: register 0 is 0, and each other word is one that a hart can hold
unfoldable pub legal : Hart → Bool
legal h = eqb (get_or h.x 0 0) 0 && words_legal h.words

-- a hart to start from: in M at address 0, and nothing set; UXL and SXL are 2
abbrev pub start_of : Hart
start_of = hart (replicate 32 0) (replicate COUNT 0 but MODE ≔ 3 but MSTATUS ≔ 0xA00000000)
