-- Refusal 1, of the mode. Rule 2.3 c of docs/HART.md.
use Rattle.std.specs.Prelude.{Bool, ◌||◌, ℕ, eqb}

-- the mode is 0, 1 or 3
abbrev pub is_mode_of : ℕ → Bool
is_mode_of m = eqb m 0 || (eqb m 1 || eqb m 3)
