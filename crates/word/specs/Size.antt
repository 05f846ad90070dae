-- How many bits an operation works on: all 64, or the low 32 in its word form (the manual's W).
use Rattle.std.specs.Prelude.{◌≡◌, ℕ, ◌==◌, ◌⊎◌}
use Rattle.word.specs.Choice.{pick}

abbrev pub IsSize : ℕ → Type 0
IsSize bits = (bits ≡ 64) ⊎ (bits ≡ 32)

-- what an operation gives at its size, where `full` is what it gives of all 64 bits and `word` what its word form gives
abbrev pub sized : (bits full word : ℕ) → ℕ
sized bits full word = pick (bits == 64) full word
