-- The round trip at the boundary, both ways: they are what the promises of the two calls say.
-- Assumes nothing.
use mathlib.Core.List.{List}
use mathlib.Core.Logic.{inl, inr}
use mathlib.Core.Path.{◌≡◌, refl, sym, ◌∙◌}
use Prim.Native.Nat.{ℕ, ◌^◌, ◌<◌}
use native.Mathlib.Omega.{arith}
use Rattle.decode_writer.proofs.Answer.{packed}
use Rattle.decode_numbers.specs.Numbers.{eight_at}
use Rattle.scribe.specs.Boundary.{read_left, read_result, Gives, Wrote}
use Rattle.scribe.proofs.Lists.{given}

-- two words that read as the same numbers are one
pub one_word : (l : List ℕ) (v w : ℕ) → Gives v l → Gives w l → v ≡ w
one_word l v w a b = sym (packed (eight_at l) v (given l v a)) ∙ packed (eight_at l) w (given l w b)

-- read a word, and write the numbers: the result is 0 and the word is the one that was read
pub read_write :
    (w before after r : ℕ) → w < 2 ^ 32 → read_result w ≡ 0 → Wrote (read_left w) before after r → (r ≡ 0) × (after ≡ w)
read_write w before after r h l (inl (e, g)) = (e, one_word (read_left w) after w g (h, l, refl))
read_write w before after r h l (inr (e, k, n)) = absurd (n w (h, l, refl))

-- write eight numbers, and read the word: the result is 0 and the numbers are those that were written
pub write_read :
    (l : List ℕ) (before after r : ℕ) → Wrote l before after r → r ≡ 0 → (read_result after ≡ 0) × (read_left after ≡ l)
write_read l before after r (inl (e, (h, z, d))) q = (z, d)
write_read l before after r (inr (e, k, n)) q = let z : ◌≡◌ {A = ℕ} 5 0 = sym e ∙ q in absurd (omega arith)

-- two outcomes of one write are equal: what is promised leaves no freedom
pub one_outcome :
    (l : List ℕ) (before v r w s : ℕ) → Wrote l before v r → Wrote l before w s → (r ≡ s) × (v ≡ w)
one_outcome l before v r w s (inl (d, g)) (inl (e, h)) = (d ∙ sym e, one_word l v w g h)
one_outcome l before v r w s (inl (d, g)) (inr (e, k, n)) = absurd (n v g)
one_outcome l before v r w s (inr (d, k, n)) (inl (e, h)) = absurd (n w h)
one_outcome l before v r w s (inr (d, k, n)) (inr (e, j, m)) = (d ∙ sym e, k ∙ sym j)
