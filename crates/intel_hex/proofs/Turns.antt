-- A line taken off the lines, as each pass does it.
-- Assumes nothing.
use mathlib.Core.Bool.{Bool, true, false, ◌&&◌}
use mathlib.Core.List.{List, [], ◌∷◌}
use mathlib.Core.Path.{◌≡◌, refl, sym, ◌∙◌}
use Prim.Native.Nat.{ℕ, suc, ◌+◌, ◌-◌}
use native.Mathlib.Omega.{arith}
use borrow.Author.Tests.{eq-eqb, ne_eqb, eqb-true, eqb-false}
use lib.Dec.{eqb}
use lib.ListN.{take}
use lib.Seq.{take-nil}
use Rattle.std.specs.Prelude.{Option, Some, None, Ok, Err}
use Rattle.word.specs.Choice.{pick}
use Rattle.word.proofs.Bools.{both}
use Rattle.word.proofs.Either.{either}
use Rattle.intel_hex.specs.Line.{record_type_of, good}
use Rattle.intel_hex.specs.Load.{upper_after_of, start_after_of, last_start, text_after, first_bad_of, placed, stored}
use Rattle.intel_hex.specs.Inner.{verdict_of, all_good}
use Rattle.intel_hex.specs.declared.Refusal.TheVariants.{Line}
use Rattle.intel_hex.proofs.Digits.{by_test}

-- nothing follows where no line after the end record is bad
pub no_text : (n : ℕ) (ls : List (List ℕ)) → text_after n ls ≡ None → ls ≡ []
unfolding text_after
no_text n [] e = refl
no_text n (l ∷ ls) e = cc

-- the verdict on no lines, and by what is known of the first bad one
pub no_end : (len upper n : ℕ) {ls : List (List ℕ)} → ls ≡ [] → first_bad_of len upper n ls ≡ Some n
unfolding first_bad_of
no_end len upper n e = rw e

pub no_more : (s : Option ℕ) {ls : List (List ℕ)} → ls ≡ [] → last_start s ls ≡ s
unfolding last_start
no_more s e = rw e

pub bad_verdict : (bad s : Option ℕ) (n : ℕ) → bad ≡ Some n → Err (Line n) ≡ verdict_of bad s
bad_verdict bad s n e = rw e

pub good_verdict : (bad s t : Option ℕ) → bad ≡ None → t ≡ s → Ok s ≡ verdict_of bad t
good_verdict bad s t e f = rw (e, f)

-- the lines are l and what follows it
module _ (len upper : ℕ) {ls : List (List ℕ)} {l : List ℕ} {more : List (List ℕ)} (e : ls ≡ l ∷ more) where
  pub bad_line : (n : ℕ) → good len upper l ≡ false → first_bad_of len upper n ls ≡ Some n
  unfolding first_bad_of
  bad_line n g = rw (e, g)

  pub good_line : (n : ℕ) → good len upper l ≡ true → (record_type_of l ≡ 1 → ⊥) → first_bad_of len upper n ls ≡ first_bad_of len (upper_after_of upper l) (n + 1) more
  unfolding first_bad_of
  good_line n g k = rw (e, g, ne_eqb (record_type_of l) 1 k)

  pub end_line : (n : ℕ) → good len upper l ≡ true → record_type_of l ≡ 1 → first_bad_of len upper n ls ≡ text_after (n + 1) more
  unfolding first_bad_of
  end_line n g k = rw (e, g, eq-eqb (record_type_of l) 1 k)

  pub start_line : (s : Option ℕ) → last_start s ls ≡ last_start (start_after_of s l) more
  unfolding last_start
  start_line s = rw e

  pub stored_line : (mem : List ℕ) → stored upper mem ls ≡ stored (upper_after_of upper l) (placed upper l mem) more
  unfolding stored
  stored_line mem = rw e

  pub all_line : all_good len upper ls ≡ true → (good len upper l ≡ true) × (all_good len (upper_after_of upper l) more ≡ true)
  unfolding all_good
  all_line h = both (good len upper l) (all_good len (upper_after_of upper l) more) (rw e at h)

-- where no line is bad, every line is good
step : (g k rest : Bool) (a b : Option ℕ) (n : ℕ) → pick g (pick k a b) (Some n) ≡ None → (a ≡ None → rest ≡ true) → (b ≡ None → rest ≡ true) → g && rest ≡ true
step true true rest a b n e f i = f e
step true false rest a b n e f i = i e
step false k rest a b n e f i = cc

pub none_bad : (len upper n : ℕ) (ls : List (List ℕ)) → first_bad_of len upper n ls ≡ None → all_good len upper ls ≡ true
unfolding first_bad_of all_good
none_bad len upper n [] e = refl
none_bad len upper n (l ∷ ls) e =
    step (good len upper l) (eqb (record_type_of l) 1) (all_good len (upper_after_of upper l) ls) (text_after (n + 1) ls)
    (first_bad_of len (upper_after_of upper l) (n + 1) ls) n e
    (λ t. rw (no_text (n + 1) ls t))
    (λ t. none_bad len (upper_after_of upper l) (n + 1) ls t)

-- every line before the first bad one is good
front : (len upper m n : ℕ) (l : List ℕ) (ls : List (List ℕ)) → good len upper l ≡ true → all_good len (upper_after_of upper l) (take (m - (n + 1)) ls)
    ≡ true
    → all_good len upper (take (m - n) (l ∷ ls)) ≡ true
unfolding all_good
front len upper m n l ls g h =
    either n m
    (λ k. let e : m - n ≡ suc (m - (n + 1)) = omega arith in rw (e, g) h)
    (λ k. let e : m - n ≡ 0 = omega arith in rw e)

text_next : (n m : ℕ) (ls : List (List ℕ)) → text_after n ls ≡ Some m → n ≡ m
unfolding text_after
text_next n m [] e = cc
text_next n m (l ∷ ls) e = cc

pub good_before : (len upper n m : ℕ) (ls : List (List ℕ)) → first_bad_of len upper n ls ≡ Some m → all_good len upper (take (m - n) ls) ≡ true
unfolding all_good
good_before len upper n m [] e = rw take-nil
good_before len upper n m (l ∷ ls) e =
    by_test (good len upper l)
    (λ g. by_test (eqb (record_type_of l) 1)
    (λ k.
    let t = text_next (n + 1) m ls (sym (end_line len upper {more = ls} refl n g (eqb-true (record_type_of l) 1 k)) ∙ e) in
    let z : m - (n + 1) ≡ 0 = omega arith in
    front len upper m n l ls g (rw z))
    (λ k.
    front len upper m n l ls g (good_before len (upper_after_of upper l) (n + 1) m ls
    (sym (good_line len upper {more = ls} refl n g (eqb-false (record_type_of l) 1 k)) ∙ e))))
    (λ g.
    let q : ◌≡◌ {A = Option ℕ} (Some n) (Some m) = sym (bad_line len upper {more = ls} refl n g) ∙ e in
    let z : n ≡ m = cc in
    let y : m - n ≡ 0 = omega arith in
    rw y)
