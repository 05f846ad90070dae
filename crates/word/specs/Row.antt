-- A control register as a row of fields, from bit 0 upward to bit 63: what a write leaves, what a read shows, and which words it
-- can hold. Rules 5.5 to 5.21 of docs/HART.md.
use Rattle.std.specs.Prelude.{ℕ, zero, suc, ◌+◌, ◌-◌, ◌*◌, ◌/◌, ◌%◌, ◌^◌, Bool, true, ◌&&◌, List, [], ◌∷◌, ◌==◌}
use Rattle.word.specs.Choice.{pick}

-- n bits each
pub data Field : Type 0 where
  -- reads this value, whatever is written: unnamed bits 0, UXL and SXL 2
  Fixed : (n value : ℕ) → Field
  -- stored as this value, and not seen through this register: reads 0
  Covered : (n value : ℕ) → Field
  -- holds what was written
  Any : (n : ℕ) → Field
  -- holds these values alone; writing another keeps the old one
  Only : (n : ℕ) → (ℕ → Bool) → Field
  -- stored, and not seen through this register: reads 0 and is not written; these are the values that it can hold
  Hidden : (n : ℕ) → (ℕ → Bool) → Field

abbrev pub field_width_of : Field → ℕ
field_width_of (Fixed n k) = n
field_width_of (Covered n k) = n
field_width_of (Any n) = n
field_width_of (Only n ok) = n
field_width_of (Hidden n ok) = n

-- what a write of v over old leaves in a field, each as the field's own number
abbrev pub takes_of : Field → (old v : ℕ) → ℕ
takes_of (Fixed n k) old v = k
takes_of (Covered n k) old v = k
takes_of (Any n) old v = v
takes_of (Only n ok) old v = pick (ok v) v old
takes_of (Hidden n ok) old v = old

-- what a field that holds d shows
abbrev pub shows_of : Field → ℕ → ℕ
shows_of (Fixed n k) d = k
shows_of (Covered n k) d = 0
shows_of (Any n) d = d
shows_of (Only n ok) d = d
shows_of (Hidden n ok) d = 0

-- whether a field can hold d
abbrev pub holds_of : Field → ℕ → Bool
holds_of (Fixed n k) d = d == k
holds_of (Covered n k) d = d == k
holds_of (Any n) d = true
holds_of (Only n ok) d = ok d
holds_of (Hidden n ok) d = ok d

-- bit k of a word is set
abbrev pub bit_of : (w k : ℕ) → Bool
bit_of w k = w / 2 ^ k % 2 == 1

-- n bits of a word from bit k upward, as a number
abbrev pub digit : (k n w : ℕ) → ℕ
digit k n w = w / 2 ^ k % 2 ^ n

abbrev pub write_from : ℕ → List Field → (old v : ℕ) → ℕ
write_from k [] old v = 0
write_from k (f ∷ fs) old v =
    takes_of f (digit k (field_width_of f) old) (digit k (field_width_of f) v) * 2 ^ k + write_from (k + field_width_of f) fs old v

abbrev pub read_from : ℕ → List Field → ℕ → ℕ
read_from k [] m = 0
read_from k (f ∷ fs) m = shows_of f (digit k (field_width_of f) m) * 2 ^ k + read_from (k + field_width_of f) fs m

abbrev pub legal_from : ℕ → List Field → ℕ → Bool
legal_from k [] m = true
legal_from k (f ∷ fs) m = holds_of f (digit k (field_width_of f) m) && legal_from (k + field_width_of f) fs m

-- the word that a write of v over old leaves
abbrev pub row_write_of : List Field → (old v : ℕ) → ℕ
row_write_of = write_from 0

-- what a read of the word m shows
abbrev pub row_read_of : List Field → ℕ → ℕ
row_read_of = read_from 0

-- the register can hold the word m: each field holds one of its values
abbrev pub row_legal_of : List Field → ℕ → Bool
row_legal_of = legal_from 0

-- a field and the bit that it starts at
pub data Place : Type 0 where
  At : ℕ → Field → Place

-- n unnamed bits, which read zero
abbrev pub unnamed : ℕ → List Field → List Field
unnamed zero fs = fs
unnamed (suc n) fs = Fixed (suc n) 0 ∷ fs

-- a row from its named fields
abbrev pub row_from : ℕ → List Place → List Field
row_from k [] = unnamed (64 - k) []
row_from k (At lo f ∷ ps) = unnamed (lo - k) (f ∷ row_from (lo + field_width_of f) ps)

abbrev pub row : List Place → List Field
row = row_from 0
