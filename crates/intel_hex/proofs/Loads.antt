-- What a load leaves, case by case.
-- Assumes nothing.
use mathlib.Core.Bool.{true, false}
use mathlib.Core.List.{List}
use mathlib.Core.Path.{◌≡◌, refl, ap, ◌∙◌}
use Prim.Native.Nat.{ℕ}
use lib.ListN.{length}
use Rattle.std.specs.Prelude.{Option, Some, None, Result, Ok, Err}
use Rattle.memory.specs.Refusal.{memory_refused_of}
use Rattle.intel_hex.specs.Lines.{lines_of}
use Rattle.intel_hex.specs.Load.{HexCalled, last_start, first_bad_of, stored, load_refused, judged, load_hex_of}
use Rattle.intel_hex.specs.Inner.{verdict_of}
use Rattle.intel_hex.specs.declared.Refusal.{Refusal}
use Rattle.intel_hex.specs.declared.Refusal.TheVariants.{Memory, Line}

-- the parts of what a load leaves, and the answer with a start address
abbrev pub answer_of : HexCalled → Result (Option ℕ) Refusal
answer_of c = c.answer

abbrev pub memory_of : HexCalled → List ℕ
memory_of c = c.memory

abbrev pub start_answer : Option ℕ → Result (Option ℕ) Refusal
start_answer s = Ok s

abbrev pub accepted_with : (mem : List ℕ) → (ls : List (List ℕ)) → HexCalled
accepted_with mem ls = record { answer = Ok (last_start None ls); memory = stored 0 mem ls }

-- what a verdict says of the first bad line, and of a load
pub told_good : (bad s t : Option ℕ) → verdict_of bad s ≡ Ok t → (bad ≡ None) × (s ≡ t)
told_good None s t e = (refl, cc)
told_good (Some n) s t e = cc

told_bad : (bad : Option ℕ) (mem : List ℕ) (ls : List (List ℕ)) (s : Option ℕ) (e : Refusal) → verdict_of bad s ≡ Err e → judged bad mem ls ≡ load_refused e mem
told_bad None mem ls s e h = cc
told_bad (Some n) mem ls s e h = let q : Line n ≡ e = cc in ap (λ (r : Refusal). load_refused r mem) q

module _ (text mem : List ℕ) where
  pub refused_2 : memory_refused_of (length mem) ≡ true → load_hex_of text mem ≡ load_refused Memory mem
  unfolding load_hex_of
  refused_2 e = rw e refl

  module _ (ok : memory_refused_of (length mem) ≡ false) where
    pub by_bad : load_hex_of text mem ≡ judged (first_bad_of (length mem) 0 1 (lines_of text)) mem (lines_of text)
    unfolding load_hex_of
    by_bad = rw ok refl

    pub refused_6 : (s : Option ℕ) (e : Refusal) → verdict_of (first_bad_of (length mem) 0 1 (lines_of text)) s ≡ Err e
        → load_hex_of text mem ≡ load_refused e mem
    refused_6 s e h = by_bad ∙ told_bad (first_bad_of (length mem) 0 1 (lines_of text)) mem (lines_of text) s e h

    pub taken : first_bad_of (length mem) 0 1 (lines_of text) ≡ None → load_hex_of text mem ≡ accepted_with mem (lines_of text)
    taken e = by_bad ∙ ap (λ (bad : Option ℕ). judged bad mem (lines_of text)) e
