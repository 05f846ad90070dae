-- The laws of a load: a refused text changes nothing; an accepted one leaves in each byte what the last record that names it has, and keeps
-- every byte that none names.
-- Assumes nothing.
use mathlib.Core.Bool.{Bool, true, false}
use mathlib.Core.List.{List, [], ◌∷◌, ◌++◌}
use mathlib.Core.Path.{◌≡◌, refl, sym, ap, ◌∙◌}
use Prim.Native.Nat.{ℕ, ◌-◌}
use lib.ListN.{length, get_or, take}
use Rattle.std.specs.Prelude.{Option, Some, None, Result, Ok, Err, IsOk, IsErr, is_ok, is_err}
use Rattle.word.specs.Choice.{pick}
use Rattle.word.proofs.Bools.{both, neither}
use Rattle.memory.specs.Refusal.{memory_refused_of}
use Rattle.intel_hex.specs.Lines.{lines_of}
use Rattle.intel_hex.specs.Line.{good}
use Rattle.intel_hex.specs.Load.{upper_after_of, first_bad_of, placed, stored, load_refused, judged, load_hex_of}
use Rattle.intel_hex.proofs.Named.{names, some_names, upper_at, data_at, byte_after}
use Rattle.intel_hex.specs.Inner.{all_good}
use Rattle.intel_hex.specs.declared.Refusal.{Refusal}
use Rattle.intel_hex.specs.declared.Refusal.TheVariants.{Memory, Line}
use Rattle.intel_hex.proofs.Bytes.{placed_byte, length_placed}
use Rattle.intel_hex.proofs.Digits.{by_test}
use Rattle.intel_hex.proofs.Loads.{answer_of, memory_of, accepted_with, refused_2, by_bad, taken}
use Rattle.intel_hex.proofs.Turns.{none_bad, good_before}

-- a first bad line, or none
by_line : {A : Type 0} (bad : Option ℕ) → ((n : ℕ) → bad ≡ Some n → A) → (bad ≡ None → A) → A
by_line None f g = g refl
by_line (Some n) f g = f n refl

-- an answer is a start address or a refusal, and a refusal names one line
module _ {A : Type 0} where
  absurd_answer : {a : Result (Option ℕ) Refusal} {s : Option ℕ} → a ≡ Ok s → IsErr a → A
  absurd_answer e h = let z : false ≡ true = sym (ap is_err e) ∙ h in cc

  refused_answer : {a : Result (Option ℕ) Refusal} {r : Refusal} → a ≡ Err r → IsOk a → A
  refused_answer e h = let z : false ≡ true = sym (ap is_ok e) ∙ h in cc

  other_refusal : {n : ℕ} → ◌≡◌ {A = Result (Option ℕ) Refusal} (Err Memory) (Err (Line n)) → A
  other_refusal e = cc

  no_refusal : {s : Option ℕ} {r : Refusal} → ◌≡◌ {A = Result (Option ℕ) Refusal} (Ok s) (Err r) → A
  no_refusal e = cc

same_line : {m n : ℕ} → ◌≡◌ {A = Result (Option ℕ) Refusal} (Err (Line m)) (Err (Line n)) → Some m ≡ Some n
same_line e = cc

module _ (text mem : List ℕ) where
  abbrev pub Bad : Option ℕ
  Bad = first_bad_of (length mem) 0 1 (lines_of text)

  -- memory is refused, or the text has a bad line, or it has none
  verdict : {A : Type 0}
      → (load_hex_of text mem ≡ load_refused Memory mem → A)
      → ((n : ℕ) → Bad ≡ Some n → load_hex_of text mem ≡ load_refused (Line n) mem → A)
      → (memory_refused_of (length mem) ≡ false → Bad ≡ None → load_hex_of text mem ≡ accepted_with mem (lines_of text) → A) → A
  verdict f g h =
      by_test (memory_refused_of (length mem)) (λ e. f (refused_2 text mem e)) (λ e. by_line Bad
      (λ n z. g n z (by_bad text mem e ∙ ap (λ (bad : Option ℕ). judged bad mem (lines_of text)) z))
      (λ z. h e z (taken text mem e z)))

  -- a refused text has no start address, by its type
  pub refused_changes_nothing : IsErr (load_hex_of text mem).answer → (load_hex_of text mem).memory ≡ mem
  refused_changes_nothing h =
      verdict (λ q. ap memory_of q) (λ _ _ q. ap memory_of q) (λ _ _ q. absurd_answer (ap answer_of q) h)

  -- of a text with a bad line every line before the one that is named is good
  pub named_first : (n : ℕ) → (load_hex_of text mem).answer ≡ Err (Line n) → all_good (length mem) 0 (take (n - 1) (lines_of text)) ≡ true
  named_first n h =
      verdict
      (λ q. other_refusal (sym (ap answer_of q) ∙ h))
      (λ m z q. good_before (length mem) 0 1 n (lines_of text) (z ∙ same_line (sym (ap answer_of q) ∙ h)))
      (λ _ _ q. no_refusal (sym (ap answer_of q) ∙ h))

  -- an accepted text has no bad line
  module _ (h : IsOk (load_hex_of text mem).answer) where
    pub accepted : (memory_refused_of (length mem) ≡ false) × (Bad ≡ None)
    accepted = verdict (λ q. refused_answer (ap answer_of q) h) (λ _ _ q. refused_answer (ap answer_of q) h) (λ e z _. (e, z))

    pub all_good_lem : all_good (length mem) 0 (lines_of text) ≡ true
    all_good_lem = none_bad (length mem) 0 1 (lines_of text) accepted.1

-- every byte, after good lines
pub length_stored : (upper : ℕ) (mem : List ℕ) (ls : List (List ℕ)) → length (stored upper mem ls) ≡ length mem
unfolding stored
length_stored upper mem [] = refl
length_stored upper mem (l ∷ ls) = length_stored (upper_after_of upper l) (placed upper l mem) ls ∙ length_placed upper l mem

stored_byte : (upper : ℕ) (mem : List ℕ) (ls : List (List ℕ)) → all_good (length mem) upper ls ≡ true
    → (j : ℕ) → get_or (stored upper mem ls) j 0 ≡ byte_after upper ls j (get_or mem j 0)
unfolding stored all_good byte_after
stored_byte upper mem [] h j = refl
stored_byte upper mem (l ∷ ls) h j =
    let (g, r) = both (good (length mem) upper l) (all_good (length mem) (upper_after_of upper l) ls) h in
    let e = length_placed upper l mem in
    stored_byte (upper_after_of upper l) (placed upper l mem) ls (rw e r) j ∙ ap (byte_after (upper_after_of upper l) ls j) (placed_byte upper l mem g j)

-- a byte that no record names is what it was
unnamed : (upper : ℕ) (ls : List (List ℕ)) (j old : ℕ) → some_names upper ls j ≡ false → byte_after upper ls j old ≡ old
unfolding byte_after some_names
unnamed upper [] j old h = refl
unnamed upper (l ∷ ls) j old h =
    let (p, q) = neither (names upper l j) (some_names (upper_after_of upper l) ls j) h in
    rw p (unnamed (upper_after_of upper l) ls j old q)

-- a byte that a record names, and no later one, is what that record has
last_wins : (upper : ℕ) (front : List (List ℕ)) (l : List ℕ) (back : List (List ℕ)) (j old : ℕ)
    → names (upper_at upper front) l j ≡ true → some_names (upper_after_of (upper_at upper front) l) back j ≡ false
    → byte_after upper (front ++ l ∷ back) j old ≡ data_at (upper_at upper front) l j
unfolding byte_after upper_at
last_wins upper [] l back j old n m =
    ap (λ (t : Bool). byte_after (upper_after_of upper l) back j (pick t (data_at upper l j) old)) n
    ∙ unnamed (upper_after_of upper l) back j (data_at upper l j) m
last_wins upper (f ∷ front) l back j old n m = last_wins (upper_after_of upper f) front l back j _ n m

module _ (text mem : List ℕ) (h : IsOk (load_hex_of text mem).answer) where
  pub accepted_memory : (load_hex_of text mem).memory ≡ stored 0 mem (lines_of text)
  accepted_memory = let (e, z) = accepted text mem h in ap memory_of (taken text mem e z)

  pub accepted_byte : (j : ℕ) → get_or (load_hex_of text mem).memory j 0 ≡ byte_after 0 (lines_of text) j (get_or mem j 0)
  accepted_byte j = rw accepted_memory (stored_byte 0 mem (lines_of text) (all_good_lem text mem h) j)

  pub unnamed_kept : (j : ℕ) → some_names 0 (lines_of text) j ≡ false → get_or (load_hex_of text mem).memory j 0 ≡ get_or mem j 0
  unnamed_kept j n = accepted_byte j ∙ unnamed 0 (lines_of text) j (get_or mem j 0) n

  pub last_named : (front : List (List ℕ)) (l : List ℕ) (back : List (List ℕ)) → lines_of text ≡ front ++ l ∷ back
      → (j : ℕ) → names (upper_at 0 front) l j ≡ true → some_names (upper_after_of (upper_at 0 front) l) back j ≡ false
      → get_or (load_hex_of text mem).memory j 0 ≡ data_at (upper_at 0 front) l j
  last_named front l back e j n m = accepted_byte j ∙ rw e (last_wins 0 front l back j (get_or mem j 0) n m)
