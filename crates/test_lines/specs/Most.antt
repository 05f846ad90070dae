-- How many numbers a line of a file of cases has at most, `MOST` in the code, and how many bytes a file, `LONGEST`.
-- Assumes nothing.
use Rattle.std.specs.Prelude.{ℕ}

abbrev pub most : ℕ
most = 192

abbrev pub longest : ℕ
longest = 2105344
