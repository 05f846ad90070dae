-- Eight words in a list are eight numbers, and what a read says is what the writer promises of.
-- Assumes nothing.
use mathlib.Core.List.{List, [], ◌∷◌}
use mathlib.Core.Logic.{inl}
use mathlib.Core.Path.{◌≡◌, refl, sym, ◌∙◌, ap}
use Prim.Native.Nat.{ℕ, zero, suc, ◌+◌}
use native.Mathlib.Omega.{arith}
use borrow.Author.Tests.{ne_eqb}
use lib.ListN.{length, get_or, drop, drop_of_length-le}
use lib.Seq.{drop-cons}
use Rattle.word.specs.Choice.{look}
use Rattle.decode.specs.Decode.{decode_of}
use Rattle.isa.specs.declared.Instruction.TheVariants.{Illegal}
use Rattle.std.specs.Prelude.{Option, Some}
use Rattle.decode_numbers.specs.declared.Eight.{Eight}
use Rattle.decode_numbers.specs.Numbers.{eight_at, list_of, numbers_of}
use Rattle.decode_writer.specs.Promise.{ReadsNumbers, AnswersNumbers}
use Rattle.decode_numbers.proofs.Again.{no_family}
use Rattle.scribe.specs.Boundary.{read_result, read_results, Gives, Wrote}

-- n words of a list, from the one at i on
abbrev words_from : (n i : ℕ) → List ℕ → List ℕ
words_from zero i w = []
words_from (suc n) i w = get_or w i 0 ∷ words_from n (suc i) w

all_words : (n i : ℕ) (w : List ℕ) → length w ≡ i + n → words_from n i w ≡ drop i w
all_words zero i w e = sym (drop_of_length-le w {i = i} (omega (arith, e)))
all_words (suc n) i w e =
    ap (λ (t : List ℕ). get_or w i 0 ∷ t) (all_words n (suc i) w (omega (arith, e))) ∙ sym (drop-cons w i 0 (omega (arith, e)))

pub list_again : (l : List ℕ) → length l ≡ 8 → list_of (eight_at l) ≡ l
list_again l e = all_words 8 0 l e

-- a result of 0 is a legal instruction
pub legal : (w : ℕ) → read_result w ≡ 0 → decode_of w ≡ Illegal → ⊥
legal w r z = let e : ◌≡◌ {A = ℕ} 5 0 = ap (λ i. look (numbers_of i).family read_results) (sym z) ∙ r in absurd (omega arith)

pub legal_0 : (w : ℕ) → (decode_of w ≡ Illegal → ⊥) → read_result w ≡ 0
legal_0 w n = rw (ne_eqb (numbers_of (decode_of w)).family 0 (λ e. n (no_family (decode_of w) e)))

-- the two ways to say that a word reads as eight numbers
pub gives : (l : List ℕ) (w : ℕ) → length l ≡ 8 → ReadsNumbers w (eight_at l) → Gives w l
gives l w e (h, d, n) = (h, legal_0 w n, ap list_of d ∙ list_again l e)

pub given : (l : List ℕ) (w : ℕ) → Gives w l → ReadsNumbers w (eight_at l)
given l w (h, r, d) = (h, ap eight_at d, legal w r)

-- what a write answers, by what the writer did
pub wrote_word :
    (l : List ℕ) (n : Eight) (r : Option ℕ) {before : ℕ} → length l ≡ 8 → n ≡ eight_at l → AnswersNumbers n r → (w : ℕ) → r ≡ Some w
    → Wrote l before w 0
wrote_word l n r e m a w d =
    let b : AnswersNumbers (eight_at l) r = rw m at a in
    let g : ReadsNumbers w (eight_at l) = rw d at b in
    inl (refl, gives l w e g)
