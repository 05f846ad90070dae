-- Sums and differences that wrap. Rules 1.5, 4.3 and 4.7 of docs/HART.md.
use Rattle.std.specs.Prelude.{ℕ, ◌+◌, ◌-◌, ◌%◌, ◌^◌}
use Rattle.word.specs.Sign.{sign_extend_of}

abbrev pub sum_of : ℕ → ℕ → ℕ
sum_of a b = (a + b) % 2 ^ 64

-- 2 ^ 64 − b is −b in two's complement
abbrev pub difference_of : ℕ → ℕ → ℕ
difference_of a b = (a + (2 ^ 64 - b)) % 2 ^ 64

-- the word forms: the low 32 bits of the result, sign-extended
abbrev pub sum_word_of : ℕ → ℕ → ℕ
sum_word_of a b = sign_extend_of 32 (sum_of a b)

abbrev pub difference_word_of : ℕ → ℕ → ℕ
difference_word_of a b = sign_extend_of 32 (difference_of a b)
