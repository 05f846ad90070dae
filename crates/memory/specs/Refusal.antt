-- Refusal 2. Rule 2.5 of docs/HART.md.
use Rattle.std.specs.Prelude.{Bool, ◌||◌, not, ℕ, ◌%◌, eqb, ltb}

-- memory is 0 bytes, not a multiple of 4,096, or over 1,048,576 bytes
unfoldable pub memory_refused_of : ℕ → Bool
memory_refused_of len = eqb len 0 || (not (eqb (len % 4096) 0) || ltb 1048576 len)
