-- A step's effect, in the order of docs/HART.md, 10.1: fetch faults, then the landing pad check, then decoding, then the instruction.
use Rattle.std.specs.Prelude.{Bool, ◌&&◌, ◌||◌, List, ℕ, ◌/◌, ◌%◌, ◌^◌, eqb, length, Result, Ok, Err}
use Rattle.word.specs.Choice.{pick}
use Rattle.word.specs.Field.{bits}
use Rattle.decode.specs.Decode.{decode_of}
use Rattle.isa.specs.declared.Exception.{Exception}
use Rattle.isa.specs.declared.Width.TheVariants as width
use Rattle.isa.specs.declared.Kind.TheVariants as kind
use Rattle.address_place.specs.Place.{place_of, PlaceOrFault}
use Rattle.address.specs.declared.control.Control.{Control}
use Rattle.step_transfer.specs.Access.{read_of}
use Rattle.step_meaning.specs.Instruction.{next_of, execute_of}
use Rattle.step_effect.specs.Register.{reg_of}
use Rattle.csr_setting.specs.declared.Setting.{Setting}
use Rattle.step_meaning.specs.declared.Source.{Source}
use Rattle.step_meaning.specs.declared.Source.TheVariants as source
use Rattle.step_effect.specs.declared.Effect.{Effect}
use Rattle.step_effect.specs.declared.Effect.TheVariants.{Pad, Trap}

-- a word, or why there is none
abbrev pub Fetched : Type 0
Fetched = Result ℕ Exception

-- the four bytes at a place, or the fetch fault
abbrev pub word_at : PlaceOrFault → (m : List ℕ) → Fetched
word_at (Ok q) m = Ok (read_of m q width.Word)
word_at (Err fault) m = Err fault

-- one call fetches at pc, one takes a given word as if it had been fetched there (no fetch fault)
unfoldable pub fetched_of : Source → Control → (pc : ℕ) → (m map : List ℕ) → Fetched
fetched_of source.Fetch c pc m map = word_at (place_of c kind.Fetch width.Word pc map (length m)) m
fetched_of (source.Given w) c pc m map = Ok w

-- AUIPC with rd x0 whose upper 20 bits are 0 or equal bits 31:12 of x7
abbrev pub is_pad_of : (w x7 : ℕ) → Bool
is_pad_of w x7 = eqb (w % 2 ^ 12) 0b00000_0010111 && (eqb (w / 2 ^ 12) 0 || eqb (w / 2 ^ 12) (bits x7 31 12))

-- with ELP and the enable set, the word must be a landing pad, and then ELP becomes 0; else cause 18, tval 2. While the enable
-- is off, the check is skipped
unfoldable pub landed_of : (w : ℕ) → (x : List ℕ) → (pc : ℕ) → (elp : Bool) → (ssp : ℕ) → Setting → (m map : List ℕ) → Effect
landed_of w x pc elp ssp s m map =
    pick (elp && s.pad)
    (pick (is_pad_of w (reg_of x 7)) (Pad (next_of pc)) (Trap 18 2))
    (execute_of (decode_of w) w x pc ssp s m map)

unfoldable pub arrived_of : Fetched → (x : List ℕ) → (pc : ℕ) → (elp : Bool) → (ssp : ℕ) → Setting → (m map : List ℕ) → Effect
arrived_of (Ok w) x pc elp ssp s m map = landed_of w x pc elp ssp s m map
arrived_of (Err fault) x pc elp ssp s m map = Trap fault.cause fault.tval

unfoldable pub effect_of : Source → (x : List ℕ) → (pc : ℕ) → (elp : Bool) → (ssp : ℕ) → Setting → (m map : List ℕ) → Effect
effect_of source x pc elp ssp s m map = arrived_of (fetched_of source s.control pc m map) x pc elp ssp s m map
