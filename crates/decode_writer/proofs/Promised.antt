-- The promise, for an instruction: it determines the answer, and the answer to what a word reads as is that word.
-- Assumes nothing.
use mathlib.Core.Path.{◌≡◌, refl, sym, ◌∙◌, ap}
use Prim.Native.Nat.{ℕ, ◌^◌, ◌<◌}
use Rattle.decode.specs.Decode.{decode_of}
use Rattle.isa.specs.declared.Instruction.{Instruction}
use Rattle.isa.specs.declared.Instruction.TheVariants.{Illegal}
use Rattle.std.specs.Prelude.{Option, Some, None}
use Rattle.decode_numbers.specs.declared.Eight.{Eight}
use Rattle.decode_numbers.specs.Numbers.{numbers_of}
use Rattle.decode_writer.specs.Pack.{pack_of}
use Rattle.decode_writer.specs.Promise.{Reads, Answers, AnswersNumbers}
use Rattle.decode_numbers.proofs.Again.{told}
use Rattle.decode_writer.proofs.Answer.{packed}
use Rattle.decode_writer.proofs.Decoded.{decoded_back}

-- what answers the numbers of an instruction answers the instruction
pub promised : (i : Instruction) (n : Eight) (r : Option ℕ) → n ≡ numbers_of i → AnswersNumbers n r → Answers i r
promised i n (Some w) e (h, d, l) =
    let same : decode_of w ≡ i = told (decode_of w) i (d ∙ e) in
    (h, same, λ z. l (same ∙ z))
promised i n None e a = λ w (h, d, l). a w (h, ap numbers_of d ∙ sym e, λ z. l (sym d ∙ z))

-- two words that read as one legal instruction are one
pub one_word : (i : Instruction) (v w : ℕ) → Reads v i → Reads w i → v ≡ w
one_word i v w (hv, dv, l) (hw, dw, _) =
    sym (decoded_back v hv (λ z. l (sym dv ∙ z))) ∙ ap (λ j. pack_of (numbers_of j)) (dv ∙ sym dw)
    ∙ decoded_back w hw (λ z. l (sym dw ∙ z))

-- the promise leaves no freedom
pub one_answer : (i : Instruction) (r s : Option ℕ) → Answers i r → Answers i s → r ≡ s
one_answer i (Some v) (Some w) a b = ap Some (one_word i v w a b)
one_answer i (Some v) None a b = absurd (b v a)
one_answer i None (Some w) a b = absurd (a w b)
one_answer i None None a b = refl

-- every word that reads as a legal instruction is what writing that instruction gives
pub read_written : (w : ℕ) → w < 2 ^ 32 → (decode_of w ≡ Illegal → ⊥) → (r : Option ℕ) → Answers (decode_of w) r → r ≡ Some w
read_written w h l r a = one_answer (decode_of w) r (Some w) a (h, refl, l)

-- the same of eight numbers
pub one_answer_numbers : (n : Eight) (r s : Option ℕ) → AnswersNumbers n r → AnswersNumbers n s → r ≡ s
one_answer_numbers n (Some v) (Some w) a b = ap Some (sym (packed n v a) ∙ packed n w b)
one_answer_numbers n (Some v) None a b = absurd (b v a)
one_answer_numbers n None (Some w) a b = absurd (a w b)
one_answer_numbers n None None a b = refl
