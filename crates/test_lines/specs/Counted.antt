-- How a count goes on: one more, up to the largest number of 64 bits, where it stays.
-- Assumes nothing.
use Rattle.std.specs.Prelude.{ℕ, ◌+◌, min}

abbrev pub one_more_of : ℕ → ℕ
one_more_of n = min (n + 1) 18446744073709551615
