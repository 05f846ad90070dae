-- What the contracts of the inner functions speak of. Nothing of the promise (specs/Load.antt) rests on it.
--
-- Below, l is a line, ls are lines.
use Rattle.std.specs.Prelude.{Bool, true, ◌&&◌, List, [], ◌∷◌, ◌≡◌, ℕ, ◌+◌, ◌*◌, ◌<◌, ◌≤◌, length, get_or, drop, Option, Some, None, Result, Ok, Err}
use Rattle.word.specs.Choice.{pick, look, Table, ◌⇒◌¦◌, otherwise}
use Rattle.intel_hex.specs.Digits.{digit_of, is_digit, hex_pairs}
use Rattle.intel_hex.specs.Lines.{lines_of}
use Rattle.intel_hex.specs.Line.{record_count_of, colon, checked, good}
use Rattle.intel_hex.specs.Load.{upper_after_of}
use Rattle.intel_hex.specs.declared.line.RecordType.{RecordType}
use Rattle.intel_hex.specs.declared.line.RecordType.TheVariants.{Data, End, UpperAddress, StartAddress}
use Rattle.intel_hex.specs.declared.Refusal.{Refusal}
use Rattle.intel_hex.specs.declared.Refusal.TheVariants.{Line}

-- what the code makes of a byte: the value of a digit, and for any other byte more than all pairs of a line add up to (260 times 255)
unfoldable pub weight_of : (b : ℕ) → ℕ
weight_of b = pick (is_digit b) (digit_of b) 0x10_0000

-- the code's table, as far as byte k: what each byte is as the lower digit of a pair, and what it is as the upper one
pub record Filled (low high : List ℕ) (k : ℕ) : Type 0 where
  pub low_size : length low ≡ 256
  pub high_size : length high ≡ 256
  pub lower : (b : ℕ) → b < k → get_or low b 0 ≡ weight_of b
  pub upper : (b : ℕ) → b < k → get_or high b 0 ≡ weight_of b * 16

-- the first of some lines, empty where there is none, and those behind it
unfoldable pub first_of : List (List ℕ) → List ℕ
first_of [] = []
first_of (l ∷ ls) = l

unfoldable pub others_of : List (List ℕ) → List (List ℕ)
others_of [] = []
others_of (l ∷ ls) = ls

-- a colon and hex pairs, as many as the count says, with the right checksum
pub record Framed (l : List ℕ) : Type 0 where
  pub starts : colon l ≡ true
  pub digits : hex_pairs (drop 1 l) ≡ true
  pub long : length l ≡ 2 * record_count_of l + 11
  pub sum : checked l ≡ true

-- a line ends where the text begins, and this follows
pub record Ends (text rest : List ℕ) : Type 0 where
  pub here : first_of (lines_of text) ≡ []
  pub behind : others_of (lines_of text) ≡ lines_of rest
  pub shorter : length rest ≤ length text

-- a text begins with a line, and this follows
pub record Begins (text line rest : List ℕ) : Type 0 where
  pub lines : lines_of text ≡ line ∷ lines_of rest
  pub shorter : length rest < length text

-- the types of records, by their numbers
abbrev pub record_kinds : Table (Option RecordType)
record_kinds = 0 ⇒ Some Data ¦ 1 ⇒ Some End ¦ 4 ⇒ Some UpperAddress ¦ 5 ⇒ Some StartAddress ¦ otherwise None

unfoldable pub record_type_at : (number : ℕ) → Option RecordType
record_type_at number = look number record_kinds

abbrev pub type_number : RecordType → ℕ
type_number Data = 0
type_number End = 1
type_number UpperAddress = 4
type_number StartAddress = 5

-- the verdict on lines, by the first bad one and the start address
abbrev pub verdict_of : (bad start : Option ℕ) → Result (Option ℕ) Refusal
verdict_of None start = Ok start
verdict_of (Some bad) start = Err (Line bad)

-- every line is good by itself
unfoldable pub all_good : (len upper : ℕ) → (ls : List (List ℕ)) → Bool
all_good len upper [] = true
all_good len upper (l ∷ ls) = good len upper l && all_good len (upper_after_of upper l) ls
