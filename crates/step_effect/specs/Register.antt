-- The registers by number. A number has five bits. Rule 1.4 of docs/HART.md.
use Rattle.std.specs.Prelude.{List, ℕ, ◌%◌, get_or, set}

abbrev pub reg_of : (x : List ℕ) → (r : ℕ) → ℕ
reg_of x r = get_or x (r % 32) 0

-- register rd becomes v, and register 0 is 0
abbrev pub put_of : (rd v : ℕ) → (x : List ℕ) → List ℕ
put_of rd v x = set (set x (rd % 32) v) 0 0
