-- Step 3: the address is a multiple of the access's size. Rule 7.3 of docs/HART.md.
use Rattle.std.specs.Prelude.{Bool, ℕ, ◌%◌, eqb}
use Rattle.isa.specs.Size.{size_of}
use Rattle.isa.specs.declared.Width.{Width}

unfoldable pub aligned_of : Width → ℕ → Bool
aligned_of w a = eqb (a % size_of w) 0
