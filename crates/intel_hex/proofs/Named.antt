-- The bytes that records name, and what a byte of memory is after all of them: what the laws speak of. Rule 11.18 of docs/HART.md.
--
-- Below, l is a line, ls are lines, upper is the upper address, and j an index of memory: the byte at the address 0x80000000 + j.
use mathlib.Core.Bool.{Bool, false, ◌&&◌, ◌||◌}
use mathlib.Core.List.{List, [], ◌∷◌}
use Prim.Native.Nat.{ℕ, ◌+◌, ◌-◌}
use lib.Dec.{eqb, leb, ltb}
use lib.ListN.{get_or}
use Rattle.word.specs.Choice.{pick}
use Rattle.intel_hex.specs.Line.{record_type_of, record_count_of, record_address_of, data_of}
use Rattle.intel_hex.specs.Load.{upper_after_of}

-- a data record names as many bytes as it has, from its address on
unfoldable pub names : (upper : ℕ) → (l : List ℕ) → (j : ℕ) → Bool
names upper l j =
    eqb (record_type_of l) 0 && (leb (record_address_of upper l) (0x8000_0000 + j) && ltb (0x8000_0000 + j) (record_address_of upper l + record_count_of l))

unfoldable pub some_names : (upper : ℕ) → (ls : List (List ℕ)) → (j : ℕ) → Bool
some_names upper [] j = false
some_names upper (l ∷ ls) j = names upper l j || some_names (upper_after_of upper l) ls j

-- the upper address after lines
unfoldable pub upper_at : (upper : ℕ) → (ls : List (List ℕ)) → ℕ
upper_at upper [] = upper
upper_at upper (l ∷ ls) = upper_at (upper_after_of upper l) ls

-- what a record has for a byte that it names
unfoldable pub data_at : (upper : ℕ) → (l : List ℕ) → (j : ℕ) → ℕ
data_at upper l j = get_or (data_of l) (0x8000_0000 + j - record_address_of upper l) 0

-- a byte after the records in order, where it was old
unfoldable pub byte_after : (upper : ℕ) → (ls : List (List ℕ)) → (j old : ℕ) → ℕ
byte_after upper [] j old = old
byte_after upper (l ∷ ls) j old = byte_after (upper_after_of upper l) ls j (pick (names upper l j) (data_at upper l j) old)
