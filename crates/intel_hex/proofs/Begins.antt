-- The line that a text begins with, as the code reads it and as it is.
-- Assumes nothing.
use mathlib.Core.Bool.{true, false, ◌&&◌}
use mathlib.Core.List.{List, [], ◌∷◌, ◌++◌, append-nil}
use mathlib.Core.Path.{◌≡◌, refl, sym, ap, ◌∙◌}
use Prim.Native.Nat.{ℕ, zero, suc, ◌+◌, ◌-◌, ◌*◌, ◌%◌, ◌<◌, ◌≤◌}
use native.Mathlib.Omega.{arith}
use borrow.Author.Tests.{eq-eqb, eqb-true}
use lib.Dec.{eqb}
use lib.ListN.{length, get_or, take, drop, length-drop, length-take, take-append-drop}
use lib.Seq.{get_or-take, take_all, length-take-le}
use denote.Bor.{Bor}
use Rattle.std.specs.Prelude.{Option, Some, None, MatchOption, IsSome}
use Rattle.intel_hex.specs.Digits.{hex_pairs, pairs_of, total}
use Rattle.intel_hex.specs.Lines.{lines_of}
use Rattle.intel_hex.specs.Line.{record_count_of, colon, checked, good}
use Rattle.intel_hex.specs.Inner.{weight_of, first_of, others_of, Framed, Ends, Begins}
use Rattle.intel_hex.proofs.Digits.{by_test, weight_is, no_end}
use Rattle.intel_hex.proofs.Good.{framed}
use Rattle.intel_hex.proofs.Lines.{some, split, goes_on}
use Rattle.intel_hex.proofs.Pairs.{first_two, even, byte_at}

-- what a text says of a count, as the code reads it
abbrev pub told_count : List ℕ → ℕ
told_count u = weight_of (get_or u 1 0) * 16 + weight_of (get_or u 2 0)

nothing : (m : ℕ) → ◌≡◌ {A = List ℕ} (take m []) []
nothing zero = refl
nothing (suc m) = refl

pub tail_is : (u : List ℕ) (stop : ℕ) → take (length u - stop) (drop stop u) ≡ drop stop u
tail_is u stop = take_all (length u - stop) (drop stop u) (simp length-drop (omega arith))

take_drop : (u : List ℕ) (stop : ℕ) → take (stop - 1) (drop 1 u) ≡ drop 1 (take stop u)
take_drop [] zero = refl
take_drop [] (suc m) = let z : suc m - 1 ≡ m = omega arith in rw z (nothing m)
take_drop (c ∷ t) zero = refl
take_drop (c ∷ t) (suc m) = let z : suc m - 1 ≡ m = omega arith in rw z

-- a text whose line has its frame
module _ (u : List ℕ) (f : Framed (first_of (lines_of u))) where
  abbrev L : List ℕ
  L = first_of (lines_of u)

  from_text : (i : ℕ) → i < length L → get_or L i 0 ≡ get_or u i 0
  from_text i h = ap (λ (l : List ℕ). get_or l i 0) (sym (split u).0) ∙ get_or-take (length L) u i 0 h

  pub within : length L ≤ length u
  within = let n = ap length (split u).0 in let m = length-take (length L) u in omega arith

  pub count_is : told_count u ≡ record_count_of L
  count_is =
      let n = f.long in
      let (e, p, q) = byte_at L 0 f.digits (omega arith) in
      let x = ap weight_of (from_text 1 (omega arith)) in
      let y = ap weight_of (from_text 2 (omega arith)) in
      rw (← x, ← y, weight_is _ p, weight_is _ q) (sym e)

  pub stop_is : 11 + 2 * told_count u ≡ length L
  stop_is = omega (arith, count_is, f.long)

  pub count_most : told_count u ≤ 255
  count_most = let (e, p, q) = byte_at L 0 f.digits (omega (arith, f.long)) in omega (arith, count_is)

  pub colon_is : get_or u 0 0 ≡ 58
  unfolding colon
  colon_is = sym (from_text 0 (omega (arith, f.long))) ∙ eqb-true (get_or L 0 0) 58 f.starts

  module _ (stop : ℕ) (e : stop ≡ 11 + 2 * told_count u) where
    long_is : stop ≡ length L
    long_is = omega (arith, stop_is)

    pub fits : stop ≤ length u
    fits = omega (arith, long_is, within)

    pub line_is : take stop u ≡ L
    line_is = rw long_is (split u).0

    pub over : first_of (lines_of (drop stop u)) ≡ []
    over = rw long_is (split u).1

    pub ends : (r : Option (Bor (List ℕ))) → MatchOption r (0 < length (first_of (lines_of (drop stop u)))) (λ rest. Ends (drop stop u) rest.now) → IsSome r
    ends None m = let n = ap length over in absurd (omega arith)
    ends (Some rest) m = refl

    pub pairs_good : hex_pairs (take (stop - 1) (drop 1 u)) && eqb (total (pairs_of (take (stop - 1) (drop 1 u))) % 256) 0 ≡ true
    unfolding checked
    pairs_good = rw (take_drop u stop, line_is, f.digits, f.sum)

    pub begins_with : (rest : List ℕ) → Ends (drop stop u) rest → Begins u (take stop u) rest
    begins_with rest x =
        let n = x.shorter in
        let m = length-drop stop u in
        let o = within in
        record {
          lines = some u (omega (arith, f.long)) ∙ rw (line_is, ← x.behind, long_is, (split u).2);
          shorter = omega (arith, f.long);
        }

-- a text whose first line is not good
pub not_good : (u : List ℕ) → (Framed (first_of (lines_of u)) → ⊥) → (len upper : ℕ) → good len upper (first_of (lines_of u)) ≡ false
not_good u n len upper = by_test (good len upper (first_of (lines_of u))) (λ g. absurd (n (framed len upper (first_of (lines_of u)) g))) (λ g. g)

-- a text of bytes that end no line
through : (ds u : List ℕ) → hex_pairs ds ≡ true
    → (first_of (lines_of (ds ++ u)) ≡ ds ++ first_of (lines_of u)) × (others_of (lines_of (ds ++ u)) ≡ others_of (lines_of u))
through [] u h = (refl, refl)
through (x ∷ []) u h = let n = even (x ∷ []) h in absurd (omega arith)
through (x ∷ y ∷ rest) u h =
    let (p, q, r) = first_two x y rest h in
    let (x', x'') = no_end x p in
    let (y', y'') = no_end y q in
    let (a, b) = goes_on x (y ∷ (rest ++ u)) x' x'' in
    let (c, d) = goes_on y (rest ++ u) y' y'' in
    let (e, f) = through rest u r in
    (a ∙ ap (λ (l : List ℕ). x ∷ l) (c ∙ ap (λ (l : List ℕ). y ∷ l) e), b ∙ d ∙ f)

-- pairs behind a colon, up to the line's end
joined : (ds u rest : List ℕ) → hex_pairs ds ≡ true → Ends u rest → lines_of (58 ∷ (ds ++ u)) ≡ (58 ∷ ds) ∷ lines_of rest
joined ds u rest h x =
    let (a, b) = goes_on 58 (ds ++ u) (λ z. omega arith) (λ z. omega arith) in
    let (p, q) = through ds u h in
    some (58 ∷ (ds ++ u)) (omega arith) ∙ rw (a, p, x.here, append-nil, b, q, x.behind)

split_off : (u : List ℕ) (stop : ℕ) → 0 < stop → 0 < length u → get_or u 0 0 ≡ 58
    → (u ≡ 58 ∷ (take (stop - 1) (drop 1 u) ++ drop stop u)) × (take stop u ≡ 58 ∷ take (stop - 1) (drop 1 u))
split_off [] stop p q e = absurd (omega arith)
split_off (c ∷ t) zero p q e = absurd (omega arith)
split_off (c ∷ t) (suc m) p q e = let z : suc m - 1 ≡ m = omega arith in rw (z, e, take-append-drop m t) (refl, refl)

-- what the code has tested is a line, and its frame
module _ (u : List ℕ) (stop : ℕ) (e : stop ≡ 11 + 2 * told_count u) (room : stop ≤ length u) (start : get_or u 0 0 ≡ 58)
    (h : hex_pairs (take (stop - 1) (drop 1 u)) ≡ true) where
  pub tested : (rest : List ℕ) → Ends (drop stop u) rest → Begins u (take stop u) rest
  tested rest x =
      let (a, b) = split_off u stop (omega arith) (omega arith) start in
      let n = x.shorter in
      let m = length-drop stop u in
      record {
        lines = ap lines_of a ∙ joined (take (stop - 1) (drop 1 u)) (drop stop u) rest h x ∙ rw b;
        shorter = omega arith;
      }

  pub has_frame : total (pairs_of (take (stop - 1) (drop 1 u))) % 256 ≡ 0 → Framed (take stop u)
  unfolding colon checked
  has_frame z =
      let d = take_drop u stop in
      let n = length-take-le stop u room in
      let g : hex_pairs (drop 1 (take stop u)) ≡ true = rw d at h in
      let (b, p, q) = byte_at (take stop u) 0 g (omega arith) in
      let x = get_or-take stop u 1 0 (omega arith) in
      let y = get_or-take stop u 2 0 (omega arith) in
      let k : told_count u ≡ record_count_of (take stop u) = rw (← x, ← y, weight_is _ p, weight_is _ q) (sym b) in
      record {
        starts = rw (get_or-take stop u 0 0 (omega arith), start);
        digits = g;
        long = omega arith;
        sum = eq-eqb _ 0 (rw d at z);
      }
