-- Sign extension by width. Rule 4.21 of docs/HART.md.
use Rattle.std.specs.Prelude.{Bool, ℕ, ◌*◌}
use Rattle.word.specs.Choice.{pick}
use Rattle.word.specs.Sign.{sign_extend_of}
use Rattle.isa.specs.Size.{size_of}
use Rattle.isa.specs.declared.Width.{Width}

-- a number of a width's bits, with its sign copied to the bits above
abbrev pub sign_extended : Width → ℕ → ℕ
sign_extended w v = sign_extend_of (8 * size_of w) v

-- what a load puts into its register, with the sign extended or not; v is a loaded number, so it has no bit above the width
unfoldable pub extend_of : Width → Bool → ℕ → ℕ
extend_of w sign v = pick sign (sign_extended w v) v
