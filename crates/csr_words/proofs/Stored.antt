-- What a store of one word leaves: a setting that does not depend on it, and every other word.
-- Assumes nothing.
use mathlib.Core.Bool.{Bool, true, false, true≢false, ◌||◌}
use mathlib.Core.List.{List, [], ◌∷◌}
use mathlib.Core.Path.{◌≡◌, refl, sym, ap, ◌∙◌}
use Prim.Native.Nat.{ℕ}
use lib.Dec.{eqb}
use lib.Seq.{get_or-set_other}
use borrow.Author.Tests.{eqb-false}
use Rattle.word.proofs.Bools.{neither}
use Rattle.csr_words.specs.Words.{◌of◌, ◌but◌≔◌, MODE, MSTATUS, SATP, MENVCFG, SENVCFG, MSECCFG}
use Rattle.csr_words.specs.Setting.{setting_of, switches}

-- a setting depends on no word but those that `switches` names
pub setting_kept : (k v : ℕ) (w : List ℕ) → switches k ≡ false → setting_of (w but k ≔ v) ≡ setting_of w
unfolding setting_of
setting_kept k v w off = rw (other MODE, other MSTATUS, other SATP, other MENVCFG, other SENVCFG, other MSECCFG)
  where
    other : (j : ℕ) → switches j ≡ true → j of (w but k ≔ v) ≡ j of w
    other j on = get_or-set_other w k j v 0 (λ e. true≢false (sym on ∙ ap switches e ∙ off))

-- j is one of these
abbrev pub among : (j : ℕ) → List ℕ → Bool
among j [] = false
among j (k ∷ ks) = eqb j k || among j ks

-- v differs from w in no other words than these
pub record Only (ks w v : List ℕ) : Type 0 where
  pub kept : (j : ℕ) → among j ks ≡ false → j of v ≡ j of w

pub none : (w : List ℕ) → Only [] w w
none w = record { kept = λ j n. refl }

pub also : (k a : ℕ) {ks w v : List ℕ} → Only ks w v → Only (k ∷ ks) w (v but k ≔ a)
also k a {ks} {w} {v} o = record { kept = kept }
  where
    kept : (j : ℕ) → among j (k ∷ ks) ≡ false → j of (v but k ≔ a) ≡ j of w
    kept j n = let (d, e) = neither (eqb j k) (among j ks) n in get_or-set_other v k j a 0 (eqb-false j k d) ∙ o.kept j e
