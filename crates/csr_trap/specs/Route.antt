-- Whether a trap goes to S or to M. Rule 6.1 of docs/HART.md.
use Rattle.std.specs.Prelude.{Bool, false, ℕ}
use Rattle.isa.specs.declared.Mode.{Mode}
use Rattle.isa.specs.declared.Mode.TheVariants.{User, Supervisor, Machine}
use Rattle.word.specs.Row.{bit_of}

-- the cause is delegated: its bit of medeleg is set
abbrev pub delegated_of : (medeleg cause : ℕ) → Bool
delegated_of medeleg cause = bit_of medeleg cause

-- to S if below M and delegated, else M
abbrev pub to_s_of : Mode → (delegated : Bool) → Bool
to_s_of User delegated = delegated
to_s_of Supervisor delegated = delegated
to_s_of Machine delegated = false
