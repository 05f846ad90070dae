-- What cause and tval hold of an exception that an instruction makes by itself. An access's are `Rattle.address.specs.Cause`.
-- Rules 4.24 to 4.26 of docs/HART.md.
use Rattle.std.specs.Prelude.{ℕ}
use Rattle.isa.specs.declared.Mode.{Mode}
use Rattle.isa.specs.declared.Mode.TheVariants.{User, Supervisor, Machine}
use Rattle.isa.specs.declared.Exception.{Exception}

-- illegal: tval the word; the manual's cause is 2
abbrev pub illegal_of : (word : ℕ) → Exception
illegal_of word = record { cause = 2; tval = word }

-- EBREAK: cause 3, tval pc
abbrev pub breakpoint_of : (pc : ℕ) → Exception
breakpoint_of pc = record { cause = 3; tval = pc }

-- ECALL: 8, 9, 11, tval 0
abbrev pub ecall_of : Mode → Exception
ecall_of User = record { cause = 8; tval = 0 }
ecall_of Supervisor = record { cause = 9; tval = 0 }
ecall_of Machine = record { cause = 11; tval = 0 }
