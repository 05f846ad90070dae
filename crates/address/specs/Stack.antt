-- Where a push goes. Rule 8.3 of docs/HART.md.
use Rattle.std.specs.Prelude.{ℕ}
use Rattle.word.specs.Sum.{difference_of}

-- push: store 8 bytes at ssp − 8, wrapping
abbrev pub push_of : ℕ → ℕ
push_of ssp = difference_of ssp 8
