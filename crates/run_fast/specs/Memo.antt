-- The memo: what is known of the words at 4,096 addresses at most, under one setting. An address has the entry of its number of a word, modulo 4,096.
-- Rules 10.9 and 10.10 of docs/HART.md.
--
-- Below, es are the entries, frames a flag for each of the 256 frames of memory; s is what the hart's mode and CSRs say, m memory. An empty entry has
-- the address `none`.
use Rattle.std.specs.Prelude.{Bool, true, false, Option, Some, None, List, ◌⊎◌, ◌≡◌, ℕ, ◌+◌, ◌/◌, ◌%◌, ◌<◌, length, get_or, Ok}
use Rattle.isa.specs.declared.Kind.TheVariants.{Fetch}
use Rattle.isa.specs.declared.Width.TheVariants.{Word}
use Rattle.decode.specs.Decode.{decode_of}
use Rattle.memory.specs.Bytes.{load_of}
use Rattle.address_place.specs.Place.{base, place_of}
use Rattle.csr_setting.specs.declared.Setting.{Setting}
use Rattle.run_form.specs.Form.{Means}
use Rattle.run_form.specs.declared.Form.{Form}
use Rattle.run_form.specs.declared.Op.TheVariants.{Add}
use Rattle.run_fast.specs.declared.Entry.{Entry}

-- what an empty entry has for an address: no multiple of 4. Its bytes are alike, so that the compiler fills with them at once
abbrev pub none : ℕ
none = 0x0101010101010101

-- the entry of an address
abbrev pub slot_of : (pc : ℕ) → ℕ
slot_of pc = pc / 4 % 4096

abbrev pub entry_at : (es : List Entry) → (k : ℕ) → Entry
entry_at es k = get_or es k (record { pc = 0; value = 0; at = 0; op = Add; rd = 0; rs1 = 0; rs2 = 0 })

-- the form whose parts an entry has
abbrev pub form_of : Entry → Form
form_of e = record { op = e.op; rd = e.rd; rs1 = e.rs1; rs2 = e.rs2; value = e.value }

-- whether a word was taken from the frame that index i of memory is in
abbrev pub flag_at : (frames : List Bool) → (i : ℕ) → Bool
flag_at frames i = get_or frames (i / 4096) false

-- what was read at an entry's address: the word stands at this index, and the form does what its instruction does
pub record Read (e : Entry) (s : Setting) (m map : List ℕ) : Type 0 where
  pub place : place_of s.control Fetch Word e.pc map (length m) ≡ Ok (record { 0 = base + e.at })
  pub means : Means (form_of e) (decode_of (load_of m e.at 4)) (load_of m e.at 4) e.pc s
  pub small : (e.rd < 32) × (e.rs1 < 32) × (e.rs2 < 32)

-- an entry is that of its address, was read there, and its frame is known to have one
pub record Stands (e : Entry) (frames : List Bool) (k : ℕ) (s : Setting) (m map : List ℕ) : Type 0 where
  pub slot : slot_of e.pc ≡ k
  pub read : Read e s m map
  pub flag : flag_at frames e.at ≡ true

-- each entry that is not empty stands
abbrev pub Holds : (es : List Entry) → (frames : List Bool) → Setting → (m map : List ℕ) → Type 0
Holds es frames s m map = (k : ℕ) → k < 4096 → ((entry_at es k).pc ≡ none → ⊥) → Stands (entry_at es k) frames k s m map

-- the entries are as they were, but for some that were emptied
abbrev pub Fewer : (es es' : List Entry) → Type 0
Fewer es es' = (length es' ≡ length es) × ((k : ℕ) → k < 4096 → ((entry_at es' k).pc ≡ none) ⊎ (entry_at es' k ≡ entry_at es k))

-- entry k is empty, if its word is among the eight bytes of this number
abbrev pub Clear : (es : List Entry) → (k eight : ℕ) → Type 0
Clear es k eight = (entry_at es k).at / 8 ≡ eight → (entry_at es k).pc ≡ none

-- the same of each entry whose offset in a page is that of the eight bytes
abbrev pub AllClear : (es : List Entry) → (below eight : ℕ) → Type 0
AllClear es below eight = (k : ℕ) → k < below → k % 1024 / 2 ≡ eight % 512 → Clear es k eight

-- after a store: no entry is left whose word it may have changed, if its frame's flag is set
abbrev pub Emptied : (es : List Entry) → (frames : List Bool) → (stored : Option ℕ) → (es' : List Entry) → Type 0
Emptied es frames None es' = Fewer es es'
Emptied es frames (Some at) es' =
    Fewer es es'
    × ((k : ℕ) → k < 4096 → flag_at frames (entry_at es k).at ≡ true → k % 1024 / 2 ≡ at / 8 % 512 → Clear es' k (at / 8))
