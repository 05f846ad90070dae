-- Modes and their numbers. Rule 1.1 of docs/HART.md.
use Rattle.std.specs.Prelude.{ℕ}
use Rattle.word.specs.Choice.{Table, ◌⇒◌¦◌, otherwise, look}
use Rattle.isa.specs.declared.Mode.{Mode}
use Rattle.isa.specs.declared.Mode.TheVariants.{User, Supervisor, Machine}

abbrev pub number_of : Mode → ℕ
number_of User = 0
number_of Supervisor = 1
number_of Machine = 3

-- any other number stands for U, which may do least; refusal 1 and the rows of CSRs keep such numbers away
abbrev pub modes : Table Mode
modes = 3 ⇒ Machine ¦ 1 ⇒ Supervisor ¦ otherwise User

unfoldable pub mode_of : ℕ → Mode
mode_of n = look n modes
