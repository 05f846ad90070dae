-- The fields of an instruction word, as the manual draws them. Rule 3.1 of docs/HART.md.
use Rattle.std.specs.Prelude.{ℕ, ◌+◌, ◌-◌, ◌/◌, ◌%◌, ◌^◌}
use Rattle.word.specs.declared.field.Fields.{Fields}

-- bits hi down to lo of a word, as a number
abbrev pub bits : ℕ → ℕ → ℕ → ℕ
bits w hi lo = w / 2 ^ lo % 2 ^ (hi + 1 - lo)

abbrev pub opcode : ℕ → ℕ
opcode w = w % 2 ^ 7

-- the R format: funct7, rs2, rs1, funct3, rd, opcode
abbrev pub fields_of : ℕ → Fields
fields_of w =
    record { rd = bits w 11 7; funct3 = bits w 14 12; rs1 = bits w 19 15; rs2 = bits w 24 20; funct7 = bits w 31 25 }
