-- The load for C: what it leaves, in every word and byte, through the definition of crate `intel_hex`. Rule 11.20 of docs/HART.md.
use Rattle.std.specs.Prelude.{List, [], ◌∷◌, ℕ, Option, Some, None, Result, Ok, Err}
use Rattle.intel_hex.specs.Load.{load_refusal_number, line_of, load_hex_of}
use Rattle.intel_hex.specs.declared.Refusal.{Refusal}

-- what a load leaves: its result, the three words of its answer (line, 1 if a start address was given, the start address), and memory
pub record LoadLeft : Type 0 where
  pub result : ℕ
  pub answer : List ℕ
  pub memory : List ℕ

-- an answer of crate `intel_hex`, as words
abbrev pub load_left_by : Result (Option ℕ) Refusal → (mem : List ℕ) → LoadLeft
load_left_by (Ok None) mem = record { result = 0; answer = 0 ∷ 0 ∷ 0 ∷ []; memory = mem }
load_left_by (Ok (Some start)) mem = record { result = 0; answer = 0 ∷ 1 ∷ start ∷ []; memory = mem }
load_left_by (Err e) mem = record { result = load_refusal_number e; answer = line_of e ∷ 0 ∷ 0 ∷ []; memory = mem }

abbrev pub load_left : (text mem : List ℕ) → LoadLeft
load_left text mem = load_left_by (load_hex_of text mem).answer (load_hex_of text mem).memory
