-- Two data records that name no common byte may change places.
-- Assumes nothing.
use mathlib.Core.Bool.{Bool, true, false, ◌&&◌}
use mathlib.Core.List.{List, [], ◌∷◌, ◌++◌}
use mathlib.Core.Path.{◌≡◌, refl, sym, ap, ◌∙◌}
use Prim.Native.Nat.{ℕ, ◌+◌}
use lib.ListN.{length, get_or}
use lib.Seq.{ext_get_or}
use Rattle.std.specs.Prelude.{Option, None, IsOk, is_ok}
use Rattle.word.specs.Choice.{pick}
use Rattle.word.proofs.Bools.{both}
use Rattle.intel_hex.specs.Lines.{lines_of}
use Rattle.intel_hex.specs.Line.{record_type_of, good}
use Rattle.intel_hex.specs.Load.{upper_after_of, text_after, first_bad_of, start_after_of, last_start, load_hex_of}
use Rattle.intel_hex.proofs.Named.{names, upper_at, data_at, byte_after}
use Rattle.intel_hex.specs.Inner.{all_good}
use Rattle.intel_hex.proofs.Kept.{Bad, accepted, all_good_lem, length_stored, accepted_memory, accepted_byte}
use Rattle.intel_hex.proofs.Loads.{answer_of, start_answer, taken}

crossed : (a b : Bool) (x y old : ℕ) → a && b ≡ false → pick b y (pick a x old) ≡ pick a x (pick b y old)
crossed true true x y old h = cc
crossed true false x y old h = refl
crossed false b x y old h = refl

all_behind : (len upper : ℕ) (front ls : List (List ℕ)) → all_good len upper (front ++ ls) ≡ true → all_good len (upper_at upper front) ls ≡ true
unfolding all_good upper_at
all_behind len upper [] ls h = h
all_behind len upper (f ∷ front) ls h =
    all_behind len (upper_after_of upper f) front ls (both (good len upper f) (all_good len (upper_after_of upper f) (front ++ ls)) h).1

-- a data record sets no address
data_upper : (upper : ℕ) (l : List ℕ) → record_type_of l ≡ 0 → upper_after_of upper l ≡ upper
unfolding upper_after_of
data_upper upper l e = rw e

data_start : (s : Option ℕ) (l : List ℕ) → record_type_of l ≡ 0 → start_after_of s l ≡ s
unfolding start_after_of
data_start s l e = rw e

module _ (k l : List ℕ) (back : List (List ℕ)) (p : record_type_of k ≡ 0) (q : record_type_of l ≡ 0) where
  goods : (len upper : ℕ) → all_good len upper (k ∷ l ∷ back) ≡ true → (good len upper k ≡ true) × (good len upper l ≡ true)
  unfolding all_good
  goods len upper h =
      let (g, r) = both (good len upper k) (all_good len (upper_after_of upper k) (l ∷ back)) h in
      (g, (both (good len upper l) (all_good len (upper_after_of upper l) back) (rw (data_upper upper k p) at r)).0)

  text_turned : (n : ℕ) (front : List (List ℕ)) → text_after n (front ++ k ∷ l ∷ back) ≡ text_after n (front ++ l ∷ k ∷ back)
  unfolding text_after
  text_turned n [] = refl
  text_turned n (f ∷ front) = refl

  bad_turned : (len upper n : ℕ) (front : List (List ℕ)) → good len (upper_at upper front) k ≡ true → good len (upper_at upper front) l ≡ true
      → first_bad_of len upper n (front ++ k ∷ l ∷ back) ≡ first_bad_of len upper n (front ++ l ∷ k ∷ back)
  unfolding first_bad_of upper_at upper_after_of
  bad_turned len upper n [] g h = rw (g, h, p, q, g, h)
  bad_turned len upper n (f ∷ front) g h = rw (text_turned (n + 1) front, bad_turned len (upper_after_of upper f) (n + 1) front g h)

  start_turned : (s : Option ℕ) (front : List (List ℕ)) → last_start s (front ++ k ∷ l ∷ back) ≡ last_start s (front ++ l ∷ k ∷ back)
  unfolding last_start
  start_turned s [] =
      ap (λ (t : Option ℕ). last_start t back) (data_start (start_after_of s k) l q ∙ data_start s k p
      ∙ sym (data_start (start_after_of s l) k p ∙ data_start s l q))
  start_turned s (f ∷ front) = start_turned (start_after_of s f) front

  byte_crossed : (upper j old : ℕ) → names upper k j && names upper l j ≡ false → byte_after upper (k ∷ l ∷ back) j old
      ≡ byte_after upper (l ∷ k ∷ back) j old
  unfolding byte_after
  byte_crossed upper j old d =
      rw (data_upper upper k p, data_upper upper l q, data_upper upper k p)
      (ap (byte_after upper back j) (crossed (names upper k j) (names upper l j) (data_at upper k j) (data_at upper l j) old d))

  byte_turned : (upper : ℕ) (front : List (List ℕ)) (j old : ℕ) → names (upper_at upper front) k j && names (upper_at upper front) l j ≡ false
      → byte_after upper (front ++ k ∷ l ∷ back) j old ≡ byte_after upper (front ++ l ∷ k ∷ back) j old
  unfolding byte_after upper_at
  byte_turned upper [] j old d = byte_crossed upper j old d
  byte_turned upper (f ∷ front) j old d = byte_turned (upper_after_of upper f) front j _ d

  -- a text that has the two the other way round does the same
  pub order : (text text' mem : List ℕ) (front : List (List ℕ)) → lines_of text ≡ front ++ k ∷ l ∷ back → lines_of text' ≡ front ++ l ∷ k ∷ back
      → ((j : ℕ) → names (upper_at 0 front) k j && names (upper_at 0 front) l j ≡ false)
      → IsOk (load_hex_of text mem).answer
      → ((load_hex_of text' mem).answer ≡ (load_hex_of text mem).answer) × ((load_hex_of text' mem).memory ≡ (load_hex_of text mem).memory)
  order text text' mem front e f d h =
      let (ok, z) = accepted text mem h in
      let (gk, gl) = goods (length mem) (upper_at 0 front) (all_behind (length mem) 0 front (k ∷ l ∷ back) (rw e at (all_good_lem text mem h))) in
      let z' : Bad text' mem ≡ None = rw f (sym (bad_turned (length mem) 0 1 front gk gl) ∙ rw e at z) in
      let s : last_start None (lines_of text') ≡ last_start None (lines_of text) = rw (e, f) (sym (start_turned None front)) in
      let a = ap answer_of (taken text' mem ok z') in
      let b = ap answer_of (taken text mem ok z) in
      let h' : IsOk (load_hex_of text' mem).answer = ap is_ok a in
      let m = accepted_memory text mem h in
      let m' = accepted_memory text' mem h' in (
        a ∙ ap start_answer s ∙ sym b,
        ext_get_or 0 _ _ (ap length m' ∙ length_stored 0 mem (lines_of text') ∙ sym (ap length m ∙ length_stored 0 mem (lines_of text)))
            (λ j _. accepted_byte text' mem h' j ∙ rw (e, f) (sym (byte_turned 0 front j (get_or mem j 0) (d j))) ∙ sym (accepted_byte text mem h j)),
      )
