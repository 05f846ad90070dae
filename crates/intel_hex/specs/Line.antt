-- One line: what it says, whether it is well-formed, and whether it is good, which is all that refusal 6 asks of a line by itself.
-- Rules 11.4 to 11.13 of docs/HART.md.
--
-- Below, l is a line, upper the upper address, len memory's length.
use Rattle.std.specs.Prelude.{Bool, true, false, ◌&&◌, ◌||◌, not, List, ℕ, ◌+◌, ◌*◌, ◌%◌, eqb, leb, length, get_or, take, drop}
use Rattle.word.specs.Choice.{look, Table, ◌⇒◌¦◌, otherwise}
use Rattle.intel_hex.specs.Digits.{hex_pairs, pairs_of, total}

-- the bytes of a line: count, offset (two), type, data, checksum
abbrev pub line_bytes_of : (l : List ℕ) → List ℕ
line_bytes_of l = pairs_of (drop 1 l)

unfoldable pub byte_of : (l : List ℕ) → ℕ → ℕ
byte_of l k = get_or (line_bytes_of l) k 0

-- the number in two bytes, the upper one first
abbrev pub half_of : (l : List ℕ) → ℕ → ℕ
half_of l k = byte_of l k * 256 + byte_of l (k + 1)

abbrev pub record_count_of : (l : List ℕ) → ℕ
record_count_of l = byte_of l 0

abbrev pub offset_of : (l : List ℕ) → ℕ
offset_of l = half_of l 1

abbrev pub record_type_of : (l : List ℕ) → ℕ
record_type_of l = byte_of l 3

unfoldable pub data_of : (l : List ℕ) → List ℕ
data_of l = take (record_count_of l) (drop 4 (line_bytes_of l))

-- a colon, 58, is first
unfoldable pub colon : (l : List ℕ) → Bool
colon l = eqb (get_or l 0 0) 58

-- as many data bytes as the line says: five bytes are not data
unfoldable pub counted : (l : List ℕ) → Bool
counted l = eqb (length (line_bytes_of l)) (record_count_of l + 5)

-- no data bytes in 01, two in 04, four in 05, and offset 0000 in those three
abbrev pub shapes : (count offset : ℕ) → Table Bool
shapes count offset =
    1 ⇒ eqb count 0 && eqb offset 0 ¦
    4 ⇒ eqb count 2 && eqb offset 0 ¦
    5 ⇒ eqb count 4 && eqb offset 0 ¦
    otherwise true

unfoldable pub shaped : (kind count offset : ℕ) → Bool
shaped kind count offset = look kind (shapes count offset)

unfoldable pub well_formed : (l : List ℕ) → Bool
well_formed l = colon l && (hex_pairs (drop 1 l) && (counted l && shaped (record_type_of l) (record_count_of l) (offset_of l)))

-- all bytes of the line, the checksum too, add up to 0 modulo 256
unfoldable pub checked : (l : List ℕ) → Bool
checked l = eqb (total (line_bytes_of l) % 256) 0

-- types 00, 01, 04 and 05 are read
abbrev pub record_types : Table Bool
record_types = 0 ⇒ true ¦ 1 ⇒ true ¦ 4 ⇒ true ¦ 5 ⇒ true ¦ otherwise false

unfoldable pub is_read : (kind : ℕ) → Bool
is_read kind = look kind record_types

-- where the data go: offsets add on to the upper address without wrapping
unfoldable pub record_address_of : (upper : ℕ) → (l : List ℕ) → ℕ
record_address_of upper l = upper * 65536 + offset_of l

-- no byte of a record's data is outside memory, whose first byte is 0x80000000; where there is none, none is
unfoldable pub inside : (len kind count address : ℕ) → Bool
inside len kind count address =
    not (eqb kind 0) || (eqb count 0 || (leb 0x8000_0000 address && leb (address + count) (0x8000_0000 + len)))

unfoldable pub good : (len upper : ℕ) → (l : List ℕ) → Bool
good len upper l =
    well_formed l && (checked l && (is_read (record_type_of l) && inside len (record_type_of l) (record_count_of l) (record_address_of upper l)))
