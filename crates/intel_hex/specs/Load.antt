-- A whole text: the first bad line, the start address, and memory after all records. Rules 11.2 and 11.11 to 11.19 of docs/HART.md.
--
-- Below, l is a line, ls are lines, upper is the upper address, n the number of a line, len memory's length.
use Rattle.std.specs.Prelude.{List, [], ◌∷◌, ℕ, ◌+◌, ◌-◌, ◌*◌, eqb, length, Option, Some, None, Result, Ok, Err}
use Rattle.std.proofs.lemmas.List.Edits.{sets}
use Rattle.word.specs.Choice.{pick}
use Rattle.memory.specs.Refusal.{memory_refused_of}
use Rattle.intel_hex.specs.Lines.{lines_of}
use Rattle.intel_hex.specs.Line.{half_of, record_type_of, data_of, record_address_of, good}
use Rattle.intel_hex.specs.declared.Refusal.{Refusal}
use Rattle.intel_hex.specs.declared.Refusal.TheVariants.{Memory, Line}

-- the upper address is 0 until a type 04, which sets it
unfoldable pub upper_after_of : (upper : ℕ) → (l : List ℕ) → ℕ
upper_after_of upper l = pick (eqb (record_type_of l) 4) (half_of l 4) upper

-- text follows the end record: the line after it is bad, whatever it is
unfoldable pub text_after : (n : ℕ) → (ls : List (List ℕ)) → Option ℕ
text_after n [] = None
text_after n (l ∷ ls) = Some n

-- the number of the first bad line, if one is; where nothing ends the file it is the number after the last line
unfoldable pub first_bad_of : (len upper n : ℕ) → (ls : List (List ℕ)) → Option ℕ
first_bad_of len upper n [] = Some n
first_bad_of len upper n (l ∷ ls) =
    pick (good len upper l) (pick (eqb (record_type_of l) 1) (text_after (n + 1) ls) (first_bad_of len (upper_after_of upper l) (n + 1) ls)) (Some n)

-- the start address that a type 05 gives; it sets nothing else
unfoldable pub start_after_of : (s : Option ℕ) → (l : List ℕ) → Option ℕ
start_after_of s l = pick (eqb (record_type_of l) 5) (Some (half_of l 4 * 65536 + half_of l 6)) s

-- the last one, or s
unfoldable pub last_start : (s : Option ℕ) → (ls : List (List ℕ)) → Option ℕ
last_start s [] = s
last_start s (l ∷ ls) = last_start (start_after_of s l) ls

-- a data record puts its bytes into memory, from its address on
unfoldable pub placed : (upper : ℕ) → (l : List ℕ) → (mem : List ℕ) → List ℕ
placed upper l mem = pick (eqb (record_type_of l) 0) (sets mem (record_address_of upper l - 0x8000_0000) (data_of l)) mem

-- memory after the records in order, the later over the earlier
unfoldable pub stored : (upper : ℕ) → (mem : List ℕ) → (ls : List (List ℕ)) → List ℕ
stored upper mem [] = mem
stored upper mem (l ∷ ls) = stored (upper_after_of upper l) (placed upper l mem) ls

-- the number of a refusal, and the line that it names, 0 where it names none
abbrev pub load_refusal_number : Refusal → ℕ
load_refusal_number Memory = 2
load_refusal_number (Line n) = 6

abbrev pub line_of : Refusal → ℕ
line_of Memory = 0
line_of (Line n) = n

-- what a load leaves: its answer, which is the start address if one is given, or why it is refused, and memory
pub record HexCalled : Type 0 where
  pub answer : Result (Option ℕ) Refusal
  pub memory : List ℕ

abbrev pub load_refused : (e : Refusal) → (mem : List ℕ) → HexCalled
load_refused e mem = record { answer = Err e; memory = mem }

-- the lines of a text, by the first bad one: all of it is judged before a byte is stored
abbrev pub judged : (bad : Option ℕ) → (mem : List ℕ) → (ls : List (List ℕ)) → HexCalled
judged None mem ls = record { answer = Ok (last_start None ls); memory = stored 0 mem ls }
judged (Some bad) mem ls = load_refused (Line bad) mem

-- refusal 2 comes first
unfoldable pub load_hex_of : (text mem : List ℕ) → HexCalled
load_hex_of text mem =
    pick (memory_refused_of (length mem)) (load_refused Memory mem) (judged (first_bad_of (length mem) 0 1 (lines_of text)) mem (lines_of text))
