-- What the test by reading means: the word that came out reads as the numbers, or no word does.
-- Assumes nothing.
use mathlib.Core.Path.{◌≡◌, sym, ◌∙◌, ap}
use Prim.Native.Nat.{ℕ, ◌^◌, ◌<◌}
use Rattle.decode.specs.Decode.{decode_of}
use Rattle.decode_numbers.specs.declared.Eight.{Eight}
use Rattle.decode_numbers.specs.Numbers.{numbers_of}
use Rattle.decode_writer.specs.Pack.{pack_of}
use Rattle.decode_writer.specs.Promise.{ReadsNumbers}
use Rattle.decode_numbers.proofs.Again.{no_family}
use Rattle.decode_writer.proofs.Decoded.{decoded_back}

pub answered :
    (n : Eight) (w : ℕ) → w < 2 ^ 32 → (n.family ≡ 0 → ⊥) → numbers_of (decode_of w) ≡ n → ReadsNumbers w n
answered n w h f e = (h, e, λ z. f (ap (λ (m : Eight). m.family) (sym e) ∙ ap (λ i. (numbers_of i).family) z))

pub no_word : (n : Eight) → n.family ≡ 0 → (w : ℕ) → ReadsNumbers w n → ⊥
no_word n e w r = r.2 (no_family (decode_of w) (ap (λ (m : Eight). m.family) r.1 ∙ e))

-- a word that reads as the numbers is the one that they pack to
pub packed : (n : Eight) (w : ℕ) → ReadsNumbers w n → pack_of n ≡ w
packed n w r = ap pack_of (sym r.1) ∙ decoded_back w r.0 r.2

pub refused :
    (n : Eight) (v : ℕ) → v ≡ pack_of n → (numbers_of (decode_of v) ≡ n → ⊥) → (w : ℕ) → ReadsNumbers w n → ⊥
refused n v p s w r = s (ap (λ x. numbers_of (decode_of x)) (p ∙ packed n w r) ∙ r.1)
