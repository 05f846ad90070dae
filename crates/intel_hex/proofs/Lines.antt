-- The lines of a text, told from its first bytes.
-- Assumes nothing.
use mathlib.Core.Bool.{true, false, ◌&&◌}
use mathlib.Core.List.{List, [], ◌∷◌}
use mathlib.Core.Path.{◌≡◌, refl, sym, ap, ◌∙◌}
use Prim.Native.Nat.{ℕ, ◌-◌, ◌<◌, ◌≤◌}
use native.Mathlib.Omega.{arith}
use borrow.Author.Tests.{eq-eqb, ne_eqb, eqb-true, eqb-false}
use lib.Dec.{eqb}
use lib.ListN.{length, get_or, take, drop}
use lib.Seq.{take_all}
use Rattle.std.specs.Prelude.{Option, Some, None, MatchOption, ◌≢◌}
use denote.Bor.{Bor}
use Rattle.word.proofs.Bools.{both}
use Rattle.word.proofs.Choices.{first, second}
use Rattle.intel_hex.specs.Lines.{begins, lines_of}
use Rattle.intel_hex.specs.Load.{text_after}
use Rattle.intel_hex.specs.Inner.{first_of, others_of, Ends}
use Rattle.intel_hex.proofs.Digits.{by_test}

pub none : lines_of [] ≡ []
unfolding lines_of
none = refl

-- a line and the lines behind it
pub parts : {ls : List (List ℕ)} {l : List ℕ} {more : List (List ℕ)} → ls ≡ l ∷ more → (first_of ls ≡ l) × (others_of ls ≡ more)
unfolding first_of others_of
parts e = rw e (refl, refl)

begun : (b : ℕ) (ls : List (List ℕ)) → begins b ls ≡ (b ∷ first_of ls) ∷ others_of ls
unfolding begins first_of others_of
begun b [] = refl
begun b (l ∷ ls) = refl

-- what the first byte of a text does: LF ends a line, CR LF ends one, and every other byte belongs to one
fed : (u : List ℕ) → get_or u 0 0 ≡ 10 → lines_of u ≡ [] ∷ lines_of (drop 1 u)
unfolding lines_of
fed [] h = absurd (omega arith)
fed (b ∷ rest) h = rw h

module _ (b : ℕ) (rest : List ℕ) where
  crlf : eqb b 10 ≡ false → eqb b 13 && eqb (get_or rest 0 0) 10 ≡ true → lines_of (b ∷ rest) ≡ [] ∷ lines_of (drop 1 rest)
  unfolding lines_of
  crlf e f = second _ _ _ e ∙ first _ _ _ f ∙ fed rest (eqb-true (get_or rest 0 0) 10 (both (eqb b 13) (eqb (get_or rest 0 0) 10) f).1)

  on : eqb b 10 ≡ false → eqb b 13 && eqb (get_or rest 0 0) 10 ≡ false → lines_of (b ∷ rest) ≡ (b ∷ first_of (lines_of rest)) ∷ others_of (lines_of rest)
  unfolding lines_of
  on e f = second _ _ _ e ∙ second _ _ _ f ∙ begun b (lines_of rest)

  pub by_first : {A : Type 0} → ((more : List (List ℕ)) → lines_of (b ∷ rest) ≡ [] ∷ more → A)
      → (lines_of (b ∷ rest) ≡ (b ∷ first_of (lines_of rest)) ∷ others_of (lines_of rest) → A) → A
  by_first f g =
      by_test (eqb b 10) (λ e. f (lines_of rest) (fed (b ∷ rest) (eqb-true b 10 e))) (λ e.
      by_test (eqb b 13 && eqb (get_or rest 0 0) 10) (λ h. f (lines_of (drop 1 rest)) (crlf e h)) (λ h. g (on e h)))

-- a line is what the text begins with, and then it ends
abbrev Split : (u l : List ℕ) → (ls : List (List ℕ)) → Type 0
Split u l ls = (take (length l) u ≡ l) × (first_of (lines_of (drop (length l) u)) ≡ []) × (others_of (lines_of (drop (length l) u)) ≡ ls)

split_none : Split [] (first_of (lines_of [])) (others_of (lines_of []))
unfolding lines_of first_of others_of
split_none = (refl, refl, refl)

pub split : (u : List ℕ) → Split u (first_of (lines_of u)) (others_of (lines_of u))
split [] = split_none
split (b ∷ rest) =
    by_first b rest
    (λ more e. let (p, q) = parts e in rw p (refl, p, refl))
    (λ e. let (p, q) = parts e in let (f, g, h) = split rest in rw (p, q) (ap (λ (l : List ℕ). b ∷ l) f, g, h))

pub some : (u : List ℕ) → 0 < length u → lines_of u ≡ first_of (lines_of u) ∷ others_of (lines_of u)
some [] h = absurd (omega arith)
some (b ∷ rest) h = by_first b rest (λ more e. let (p, q) = parts e in rw (p, q) e) (λ e. let (p, q) = parts e in rw (p, q) e)

-- a byte that is neither LF nor CR belongs to the line
pub goes_on : (b : ℕ) (u : List ℕ) → (b ≡ 10 → ⊥) → (b ≡ 13 → ⊥)
    → (first_of (lines_of (b ∷ u)) ≡ b ∷ first_of (lines_of u)) × (others_of (lines_of (b ∷ u)) ≡ others_of (lines_of u))
goes_on b u n m = parts (on b u (ne_eqb b 10 n) (rw (ne_eqb b 13 m)))

-- a line ends where a text begins
ended : {text rest : List ℕ} → lines_of text ≡ [] ∷ lines_of rest → length rest ≤ length text → Ends text rest
ended e h = record { here = (parts e).0; behind = (parts e).1; shorter = h }

pub ends_text : (text : List ℕ) → length text ≡ 0 → Ends text text
unfolding lines_of first_of others_of
ends_text [] h = record { here = refl; behind = refl; shorter = omega arith }
ends_text (b ∷ rest) h = absurd (omega arith)

rest_is : (b : ℕ) (rest : List ℕ) → take (length (b ∷ rest) - 1) rest ≡ rest
rest_is b rest = take_all (length (b ∷ rest) - 1) rest (omega arith)

pub ends_lf : (text : List ℕ) → 0 < length text → get_or text 0 0 ≡ 10 → Ends text (take (length text - 1) (drop 1 text))
ends_lf [] h e = absurd (omega arith)
ends_lf (b ∷ rest) h e = rw (rest_is b rest) (ended (fed (b ∷ rest) e) (omega arith))

pub ends_crlf : (text rest : List ℕ) → 0 < length text → get_or text 0 0 ≡ 13 → take (length text - 1) (drop 1 text) ≡ 10 ∷ rest → Ends text rest
ends_crlf [] rest h e f = absurd (omega arith)
ends_crlf (a ∷ more) rest h e f =
    let g : more ≡ 10 ∷ rest = sym (rest_is a more) ∙ f in
    rw g (ended (crlf a (10 ∷ rest) (ne_eqb a 10 (λ z. omega arith)) (rw (eq-eqb a 13 e))) (omega arith))

pub on_end : (text : List ℕ) → 0 < length text → (get_or text 0 0 ≡ 10 → ⊥) → (get_or text 0 0 ≡ 13 → get_or text 1 0 ≡ 10 → ⊥) → 0 < length (first_of (lines_of text))
on_end [] h n m = absurd (omega arith)
on_end (b ∷ rest) h n m =
    let f : eqb b 13 && eqb (get_or rest 0 0) 10 ≡ false =
    by_test (eqb b 13) (λ x. rw (x, ne_eqb (get_or rest 0 0) 10 (m (eqb-true b 13 x)))) (λ x. rw x) in
    rw (parts (on b rest (ne_eqb b 10 n) f)).0 (omega arith)

-- a CR, with or without its LF
pub on_cr : (text : List ℕ) → 0 < length text → get_or text 0 0 ≡ 13 → ((rest : List ℕ) → take (length text - 1) (drop 1 text) ≡ 10 ∷ rest → ⊥)
    → 0 < length (first_of (lines_of text))
on_cr [] h e f = absurd (omega arith)
on_cr (a ∷ []) h e f = on_end (a ∷ []) h (λ z. omega arith) (λ _ z. omega arith)
on_cr (a ∷ b ∷ rest) h e f =
    on_end (a ∷ b ∷ rest) h (λ z. omega arith) (λ _ z. f rest (rest_is a (b ∷ rest) ∙ ap (λ (x : ℕ). x ∷ rest) z))

pub after_cr : (text : List ℕ) → 0 < length text → get_or text 0 0 ≡ 13 → (r : Option (Bor (List ℕ)))
    → MatchOption r ((rest : List ℕ) → take (length text - 1) (drop 1 text) ≢ 10 ∷ rest) (λ x. take (length text - 1) (drop 1 text) ≡ 10 ∷ x.now)
    → MatchOption r (0 < length (first_of (lines_of text))) (λ x. Ends text x.now)
after_cr text h e None m = on_cr text h e m
after_cr text h e (Some x) m = ends_crlf text x.now h e m

no_lines : (u : List ℕ) → length u ≡ 0 → lines_of u ≡ []
no_lines [] h = none
no_lines (b ∷ rest) h = absurd (omega arith)

-- what a test for an empty text tells
pub some_left : (u : List ℕ) → false ≡ eqb (length u) 0 → 0 < length u
some_left u e = let d = eqb-false (length u) 0 (sym e) in omega arith

pub none_left : (u : List ℕ) → true ≡ eqb (length u) 0 → lines_of u ≡ []
none_left u e = no_lines u (eqb-true (length u) 0 (sym e))

-- text follows exactly if there is a byte
pub follows : (u : List ℕ) (m : ℕ) → false ≡ eqb (length u) 0 → text_after m (lines_of u) ≡ Some m
unfolding text_after
follows u m h = rw (some u (some_left u h))

pub nothing_follows : (u : List ℕ) (m : ℕ) → true ≡ eqb (length u) 0 → text_after m (lines_of u) ≡ None
unfolding text_after
nothing_follows u m h = rw (none_left u h)
