-- What the writer promises, in the reader's terms: nothing here names a format, a table or a reach. Rules 12.6 and 12.7 of docs/HART.md.
use Rattle.std.specs.Prelude.{◌≡◌, ℕ, ◌^◌, ◌<◌, Option, Some, None}
use Rattle.decode.specs.Decode.{decode_of}
use Rattle.isa.specs.declared.Instruction.{Instruction}
use Rattle.isa.specs.declared.Instruction.TheVariants.{Illegal}
use Rattle.decode_numbers.specs.declared.Eight.{Eight}
use Rattle.decode_numbers.specs.Numbers.{numbers_of}

-- w is a word that reads as the legal instruction i
abbrev pub Reads : ℕ → Instruction → Type 0
Reads w i = (w < 2 ^ 32) × (decode_of w ≡ i) × (i ≡ Illegal → ⊥)

-- the answer is a word that reads as i, or there is none
abbrev pub Answers : Instruction → Option ℕ → Type 0
Answers i (Some w) = Reads w i
Answers i None = (w : ℕ) → Reads w i → ⊥

-- w is a word that reads as a legal instruction, whose numbers are n
abbrev pub ReadsNumbers : ℕ → Eight → Type 0
ReadsNumbers w n = (w < 2 ^ 32) × (numbers_of (decode_of w) ≡ n) × (decode_of w ≡ Illegal → ⊥)

abbrev pub AnswersNumbers : Eight → Option ℕ → Type 0
AnswersNumbers n (Some w) = ReadsNumbers w n
AnswersNumbers n None = (w : ℕ) → ReadsNumbers w n → ⊥
