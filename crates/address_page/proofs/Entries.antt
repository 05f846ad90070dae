-- The page map, entry by entry: a turn of each loop, and what an accepted map is.
-- Assumes nothing.
use mathlib.Core.Path.{◌≡◌, refl, sym, ◌∙◌}
use mathlib.Core.Bool.{Bool, true, false, ◌&&◌, ◌||◌, not}
use mathlib.Core.Logic.{◌⊎◌, inl, inr}
use mathlib.Core.List.{List, [], ◌∷◌}
use Prim.Native.Nat.{ℕ, zero, suc, ◌+◌, ◌*◌, ◌/◌, ◌%◌, ◌^◌, ◌<◌, ◌≤◌}
use native.Mathlib.Numerals.{add-one}
use native.Mathlib.Omega.{arith}
use lib.Dec.{eqb, leb, ltb}
use lib.ListN.{length, get_or, drop, length-drop}
use lib.Seq.{drop-cons, get_or-take, get_or-drop}
use borrow.Author.Tests.{eq-eqb, ne_eqb, le-leb, lt-leb, lt-ltb, le-ltb, eqb-true, eqb-false, ltb-false, leb-false}
use Rattle.word.proofs.Bools.{neither}
use Rattle.word.proofs.Either.{either}
use Rattle.std.specs.Simd.{first_chunks}
use Rattle.word.specs.Choice.{pick}
use Rattle.address_page.specs.Map.{lookup_of, pages_of, any_large, rise_from, strictly_rise, map_refused_of}
use Rattle.std.specs.Prelude.{Some, None}

-- the next two words
two : (l : List ℕ) (i : ℕ) → i + 2 ≤ length l → drop i l ≡ get_or l i 0 ∷ get_or l (i + 1) 0 ∷ drop (i + 2) l
two l i h =
    let e : i + 2 ≡ suc (suc i) = omega arith in
    rw (e, add-one, drop-cons l i 0 (omega arith), drop-cons l (suc i) 0 (omega arith))

short_lookup : (l : List ℕ) (p : ℕ) → length l < 2 → lookup_of l p ≡ None
unfolding lookup_of
short_lookup [] p h = refl
short_lookup (k ∷ []) p h = refl
short_lookup (k ∷ e ∷ l) p h = absurd (omega arith)

-- lookup, at word i of the map
module _ (map : List ℕ) (i p : ℕ) where
  pub lookup_end : length map < i + 2 → lookup_of (drop i map) p ≡ None
  lookup_end h = short_lookup (drop i map) p (simp length-drop (omega arith))

  pub lookup_hit : i + 2 ≤ length map → get_or map i 0 ≡ p → lookup_of (drop i map) p ≡ Some (get_or map (i + 1) 0)
  unfolding lookup_of
  lookup_hit h e = rw (two map i h, eq-eqb (get_or map i 0) p e)

  pub lookup_miss : i + 2 ≤ length map → (get_or map i 0 ≡ p → ⊥) → lookup_of (drop i map) p ≡ lookup_of (drop (i + 2) map) p
  unfolding lookup_of
  lookup_miss h e = rw (two map i h, ne_eqb (get_or map i 0) p e)

-- lookup, behind the loop: what is left answers for the map
pub lookup_rest : (map rest : List ℕ) (i p : ℕ) → rest ≡ drop (length map / 4 * 4) map → 4 * i ≡ length map / 4 * 4
    → lookup_of map p ≡ lookup_of (drop (4 * i) map) p
    → lookup_of map p ≡ lookup_of rest p
lookup_rest map rest i p r n e = rw (r, sym n) e

-- two words an entry
double : (i : ℕ) → 2 * suc i ≡ suc (suc (2 * i))
double i = omega arith

-- an entry of the map: where it stands
pub record Stands (map : List ℕ) (page leaf : ℕ) : Type 0 where
  pub place : ℕ
  pub inside : 2 * place + 2 ≤ length map
  pub number : get_or map (2 * place) 0 ≡ page
  pub word : get_or map (suc (2 * place)) 0 ≡ leaf

-- the first entry, or one of the rest
either_entry : {k l page leaf : ℕ} {rest : List ℕ} (b : Bool) → eqb k page ≡ b → pick b (Some l) (lookup_of rest page) ≡ Some leaf
    → (lookup_of rest page ≡ Some leaf → Stands rest page leaf) → Stands (k ∷ l ∷ rest) page leaf
either_entry {k} {l} {page} {leaf} {rest} true h f more =
    record { place = 0; inside = omega arith; number = eqb-true k page h; word = cc }
either_entry {k} {l} {page} {leaf} {rest} false h f more =
    let s = more f in
    record { place = suc s.place; inside = omega (arith, s.inside); number = rw double s.number; word = rw double s.word }

-- what lookup finds is an entry
pub lookup_stands : (map : List ℕ) (page leaf : ℕ) → lookup_of map page ≡ Some leaf → Stands map page leaf
unfolding lookup_of
lookup_stands [] page leaf e = cc
lookup_stands (k ∷ []) page leaf e = cc
lookup_stands (k ∷ l ∷ rest) page leaf e = either_entry (eqb k page) refl e (lookup_stands rest page leaf)

-- what the loop of refusal 3 has still to ask: a number too low or too large from here on
unfoldable pub wrong : ℕ → List ℕ → Bool
wrong low [] = false
wrong low (k ∷ rest) = ltb k low || (leb (2 ^ 27) k || wrong (k + 1) rest)

fallen : (a b c d : Bool) → (b || c) || not (a && d) ≡ not a || (b || (c || not d))
fallen true true c d = refl
fallen true false c d = refl
fallen false true c d = refl
fallen false false true d = refl
fallen false false false d = refl

apart : (a b c : Bool) → (a || b) || c ≡ a || (b || c)
apart true b c = refl
apart false b c = refl

low_or_not : (k l : ℕ) → not (ltb k l) ≡ ltb l (k + 1)
low_or_not k l =
    either k l (λ h. rw (lt-ltb k l h, le-ltb l (k + 1) (omega arith)))
    (λ h. rw (le-ltb k l h, lt-ltb l (k + 1) (omega arith)))

wrong_from : (last : ℕ) (pages : List ℕ) → any_large pages || not (rise_from last pages) ≡ wrong (last + 1) pages
unfolding any_large rise_from wrong
wrong_from last [] = refl
wrong_from last (k ∷ rest) =
    rw (fallen (ltb last k) (leb (2 ^ 27) k) (any_large rest) (rise_from k rest), low_or_not last k, wrong_from k rest)

wrong_all : (pages : List ℕ) → any_large pages || not (strictly_rise pages) ≡ wrong 0 pages
unfolding any_large strictly_rise wrong
wrong_all [] = refl
wrong_all (k ∷ rest) =
    rw (apart (leb (2 ^ 27) k) (any_large rest) (not (rise_from k rest)), wrong_from k rest, le-ltb k 0 (omega arith))

-- the loop of refusal 3, from word i on, where the next number may be `low`
unfoldable pub wrong_at : ℕ → List ℕ → Bool
wrong_at low words = wrong low (pages_of words)

refused_odd : (map : List ℕ) → (length map % 2 ≡ 0 → ⊥) → map_refused_of map ≡ true
unfolding map_refused_of
refused_odd map h = rw (eq-eqb (length map % 2) 1 (omega arith))

refused_long : (map : List ℕ) → length map % 2 ≡ 0 → 128 < length map → map_refused_of map ≡ true
unfolding map_refused_of
refused_long map h l = rw (ne_eqb (length map % 2) 1 (λ e. omega arith), lt-ltb 128 (length map) l)

pub refused_length : (map : List ℕ) → (length map % 2 ≡ 0 → ⊥) ⊎ (length map % 2 ≡ 0 × 128 < length map) → true ≡ map_refused_of map
refused_length map (inl odd) = sym (refused_odd map odd)
refused_length map (inr (even, long)) = sym (refused_long map even long)

pub refused_start : (map : List ℕ) → length map % 2 ≡ 0 → length map ≤ 128 → map_refused_of map ≡ wrong_at 0 map
unfolding map_refused_of wrong_at
refused_start map h l =
    rw (ne_eqb (length map % 2) 1 (λ e. omega arith), le-ltb 128 (length map) l, wrong_all (pages_of map))

short_wrong : (low : ℕ) (l : List ℕ) → length l ≡ 0 → wrong_at low l ≡ false
unfolding wrong_at wrong pages_of
short_wrong low [] h = refl
short_wrong low (k ∷ l) h = absurd (omega arith)

module _ (map : List ℕ) (i low : ℕ) where
  pub wrong_end : length map ≤ i → wrong_at low (drop i map) ≡ false
  wrong_end h = short_wrong low (drop i map) (simp length-drop (omega arith))

  pub wrong_low : i + 2 ≤ length map → get_or map i 0 < low → wrong_at low (drop i map) ≡ true
  unfolding wrong_at wrong pages_of
  wrong_low h e = rw (two map i h, lt-ltb (get_or map i 0) low e)

  pub wrong_large : i + 2 ≤ length map → low ≤ get_or map i 0 → 2 ^ 27 ≤ get_or map i 0 → wrong_at low (drop i map) ≡ true
  unfolding wrong_at wrong pages_of
  wrong_large h e g = rw (two map i h, le-ltb (get_or map i 0) low e, le-leb (2 ^ 27) (get_or map i 0) g)

  pub wrong_next : i + 2 ≤ length map → low ≤ get_or map i 0 → get_or map i 0 < 2 ^ 27
      → wrong_at low (drop i map) ≡ wrong_at (get_or map i 0 + 1) (drop (i + 2) map)
  unfolding wrong_at wrong pages_of
  wrong_next h e g = rw (two map i h, le-ltb (get_or map i 0) low e, lt-leb (2 ^ 27) (get_or map i 0) g)

-- an entry's two words, where the map is taken entry by entry
pub record EntryAt (map : List ℕ) (entries : List (List ℕ)) (i : ℕ) : Type 0 where
  pub inside : 2 * i + 2 ≤ length map
  pub number : get_or (get_or entries i []) 0 0 ≡ get_or map (2 * i) 0
  pub word : get_or (get_or entries i []) 1 0 ≡ get_or map (2 * i + 1) 0

-- word j of chunk i is word w of the map, where it is taken n words by n words
word_from : (n k i j w : ℕ) (map : List ℕ) → i < k → j < n → w ≡ n * i + j → get_or (get_or (first_chunks n k map) i []) j 0 ≡ get_or map w 0
word_from n zero i j w map h l e = absurd (omega arith)
word_from n (suc k) zero j w map h l e =
    let o : w ≡ j = omega arith in
    rw o (get_or-take n map j 0 l)
word_from n (suc k) (suc i) j w map h l e =
    let o : w ≡ n + (n * i + j) = omega arith in
    rw o (word_from n k i j (n * i + j) (drop n map) (omega arith) l refl ∙ get_or-drop n map (n * i + j) 0)

words_from : (n i : ℕ) (map : List ℕ) → i < n → 2 * n ≤ length map
    → (get_or (get_or (first_chunks 2 n map) i []) 0 0 ≡ get_or map (2 * i) 0) × (get_or (get_or (first_chunks 2 n map) i []) 1 0 ≡ get_or map (2 * i + 1) 0)
words_from n i map h p = (word_from 2 n i 0 (2 * i) map h (omega arith) (omega arith), word_from 2 n i 1 (2 * i + 1) map h (omega arith) refl)

pub entry_at : (map : List ℕ) (entries : List (List ℕ)) → entries ≡ first_chunks 2 (length map / 2) map → length entries ≡ length map / 2
    → (i : ℕ) → i < length entries
    → EntryAt map entries i
entry_at map entries e l i h =
    let (a, b) = words_from (length map / 2) i map (omega arith) (omega arith) in
    record { inside = omega arith; number = rw e a; word = rw e b }

-- two entries' four words, where the map is taken two entries by two entries
pub record PairAt (map : List ℕ) (pairs : List (List ℕ)) (i : ℕ) : Type 0 where
  pub inside : 4 * i + 4 ≤ length map
  pub first : get_or (get_or pairs i []) 0 0 ≡ get_or map (4 * i) 0
  pub first_leaf : get_or (get_or pairs i []) 1 0 ≡ get_or map (4 * i + 1) 0
  pub second : get_or (get_or pairs i []) 2 0 ≡ get_or map (4 * i + 2) 0
  pub second_leaf : get_or (get_or pairs i []) 3 0 ≡ get_or map (4 * i + 2 + 1) 0

pub pair_at : (map : List ℕ) (pairs : List (List ℕ)) → pairs ≡ first_chunks 4 (length map / 4) map → length pairs ≡ length map / 4
    → (i : ℕ) → i < length pairs
    → PairAt map pairs i
pair_at map pairs e l i h =
    let word : (j w : ℕ) → j < 4 → w ≡ 4 * i + j → get_or (get_or pairs i []) j 0 ≡ get_or map w 0 =
    λ j w b o. rw e (word_from 4 (length map / 4) i j w map (omega arith) b o) in
    record {
      inside = omega arith;
      first = word 0 (4 * i) (omega arith) (omega arith);
      first_leaf = word 1 (4 * i + 1) (omega arith) refl;
      second = word 2 (4 * i + 2) (omega arith) refl;
      second_leaf = word 3 (4 * i + 2 + 1) (omega arith) (omega arith);
    }

-- a map of no entry is accepted
pub empty_accepted : map_refused_of [] ≡ false
unfolding map_refused_of any_large strictly_rise pages_of
empty_accepted = refl

-- an accepted map

unpack : (low k e : ℕ) (rest : List ℕ) → wrong_at low (k ∷ e ∷ rest) ≡ false
    → (low ≤ k) × (k < 2 ^ 27) × (wrong_at (k + 1) rest ≡ false)
unfolding wrong_at wrong pages_of
unpack low k e rest h =
    let q = neither (ltb k low) (leb (2 ^ 27) k || wrong (k + 1) (pages_of rest)) h in
    let r = neither (leb (2 ^ 27) k) (wrong (k + 1) (pages_of rest)) q.1 in
    (ltb-false k low q.0, leb-false (2 ^ 27) k r.0, r.1)

bounded : (low : ℕ) (map : List ℕ) → wrong_at low map ≡ false
    → (i : ℕ) → 2 * i + 2 ≤ length map → (low ≤ get_or map (2 * i) 0) × (get_or map (2 * i) 0 < 2 ^ 27)
bounded low [] h i p = absurd (omega arith)
bounded low (k ∷ []) h i p = absurd (omega arith)
bounded low (k ∷ e ∷ rest) h zero p =
    let q = unpack low k e rest h in
    (q.0, q.1)
bounded low (k ∷ e ∷ rest) h (suc i) p =
    let q = unpack low k e rest h in
    let s = bounded (k + 1) rest q.2 i (omega arith) in
    rw double (omega arith, s.1)

rises : (low : ℕ) (map : List ℕ) → wrong_at low map ≡ false
    → (i j : ℕ) → i < j → 2 * j + 2 ≤ length map → get_or map (2 * i) 0 < get_or map (2 * j) 0
rises low [] h i j l p = absurd (omega arith)
rises low (k ∷ []) h i j l p = absurd (omega arith)
rises low (k ∷ e ∷ rest) h i zero l p = absurd (omega arith)
rises low (k ∷ e ∷ rest) h zero (suc j) l p =
    rw (double j) (omega (arith, (bounded (k + 1) rest (unpack low k e rest h).2 j (omega arith)).0))
rises low (k ∷ e ∷ rest) h (suc i) (suc j) l p =
    rw (double i, double j) (rises (k + 1) rest (unpack low k e rest h).2 i j (omega arith) (omega arith))

finds : (low : ℕ) (map : List ℕ) → wrong_at low map ≡ false
    → (i : ℕ) → 2 * i + 2 ≤ length map → lookup_of map (get_or map (2 * i) 0) ≡ Some (get_or map (suc (2 * i)) 0)
unfolding lookup_of
finds low [] h i p = absurd (omega arith)
finds low (k ∷ []) h i p = absurd (omega arith)
finds low (k ∷ e ∷ rest) h zero p = rw (eq-eqb k k refl)
finds low (k ∷ e ∷ rest) h (suc i) p =
    let q = unpack low k e rest h in
    let b = bounded (k + 1) rest q.2 i (omega arith) in
    rw (double i, ne_eqb k (get_or rest (2 * i) 0) (λ s. omega arith)) (finds (k + 1) rest q.2 i (omega arith))

module _ (map : List ℕ) (ok : map_refused_of map ≡ false) where
  -- it has a leaf for each page number, and at most 64 entries
  pub map_even : length map % 2 ≡ 0
  unfolding map_refused_of
  map_even = omega (arith, eqb-false (length map % 2) 1 (neither (eqb (length map % 2) 1) _ ok).0)

  pub map_short : length map ≤ 128
  unfolding map_refused_of
  map_short = ltb-false 128 (length map) (neither (ltb 128 (length map)) _ (neither (eqb (length map % 2) 1) _ ok).1).0

  right : wrong_at 0 map ≡ false
  unfolding map_refused_of wrong_at
  right =
      let q = neither (eqb (length map % 2) 1) _ ok in
      let r = neither (ltb 128 (length map)) _ q.1 in
      sym (wrong_all (pages_of map)) ∙ r.1

  -- its page numbers are below 2 ^ 27
  pub page_below : (i : ℕ) → 2 * i + 2 ≤ length map → get_or map (2 * i) 0 < 2 ^ 27
  page_below i p = (bounded 0 map right i p).1

  -- each page number stands once
  pub page_once : (i j : ℕ) → 2 * i + 2 ≤ length map → 2 * j + 2 ≤ length map
      → get_or map (2 * i) 0 ≡ get_or map (2 * j) 0 → i ≡ j
  page_once i j p q e =
      either i j (λ l. absurd (omega (arith, rises 0 map right i j l q)))
      (λ l. either j i (λ m. absurd (omega (arith, rises 0 map right j i m p))) (λ m. omega arith))

  -- so lookup finds each entry
  pub entry_found : (i : ℕ) → 2 * i + 2 ≤ length map → lookup_of map (get_or map (2 * i) 0) ≡ Some (get_or map (suc (2 * i)) 0)
  entry_found i p = finds 0 map right i p
