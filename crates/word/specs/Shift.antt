-- Shifts. The amount is the low six bits of its operand, in a word form the low five. Rules 4.6 and 4.7 of docs/HART.md.
use Rattle.std.specs.Prelude.{ℕ, ◌+◌, ◌-◌, ◌*◌, ◌/◌, ◌%◌, ◌^◌}
use Rattle.word.specs.Sign.{sign_extend_of}

abbrev pub left_of : ℕ → ℕ → ℕ
left_of a n = a * 2 ^ (n % 64) % 2 ^ 64

abbrev pub right_of : ℕ → ℕ → ℕ
right_of a n = a / 2 ^ (n % 64)

-- a of k bits, shifted right by n: the n bits that come in are copies of its bit k − 1
abbrev pub shifted_arithmetic : ℕ → ℕ → ℕ → ℕ
shifted_arithmetic k a n = a / 2 ^ n + a / 2 ^ (k - 1) * (2 ^ k - 2 ^ (k - n))

abbrev pub arithmetic_of : ℕ → ℕ → ℕ
arithmetic_of a n = shifted_arithmetic 64 a (n % 64)

-- the word forms: 32 bits shifted, and the 32 bits of the result sign-extended
abbrev pub left_word_of : ℕ → ℕ → ℕ
left_word_of a n = sign_extend_of 32 (a * 2 ^ (n % 32) % 2 ^ 64)

abbrev pub right_word_of : ℕ → ℕ → ℕ
right_word_of a n = sign_extend_of 32 (a % 2 ^ 32 / 2 ^ (n % 32))

abbrev pub arithmetic_word_of : ℕ → ℕ → ℕ
arithmetic_word_of a n = sign_extend_of 32 (shifted_arithmetic 32 (a % 2 ^ 32) (n % 32))
