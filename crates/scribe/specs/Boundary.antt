-- The calls for C: what a read leaves, and what a write promises, in terms of a read alone. Rules 12.5 and 12.6 of docs/HART.md.
use Rattle.std.specs.Prelude.{List, ◌⊎◌, ◌≡◌, ℕ, ◌^◌, ◌<◌}
use Rattle.word.specs.Choice.{Table, ◌⇒◌¦◌, otherwise, look}
use Rattle.decode.specs.Decode.{decode_of}
use Rattle.decode_numbers.specs.Numbers.{list_of, numbers_of}

-- a read leaves the numbers of what the word names: eight zeros where that is no legal instruction
abbrev pub read_left : ℕ → List ℕ
read_left w = list_of (numbers_of (decode_of w))

-- and answers 0, or 5 where it is none: family 0
abbrev pub read_results : Table ℕ
read_results = 0 ⇒ 5 ¦ otherwise 0

abbrev pub read_result : ℕ → ℕ
read_result w = look (numbers_of (decode_of w)).family read_results

-- a read of the word w answers 0 and leaves these numbers
abbrev pub Gives : ℕ → List ℕ → Type 0
Gives w l = (w < 2 ^ 32) × (read_result w ≡ 0) × (read_left w ≡ l)

-- a write of these numbers: 0 and a word whose read gives them; or 5, the word as it was, and no word's read gives them
abbrev pub Wrote : (l : List ℕ) (before after result : ℕ) → Type 0
Wrote l before after r =
    ((r ≡ 0) × Gives after l) ⊎ ((r ≡ 5) × (after ≡ before) × ((w : ℕ) → Gives w l → ⊥))
