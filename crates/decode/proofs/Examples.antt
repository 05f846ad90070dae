-- What the words of the worked cases of docs/HART.md are read as: 14.2 (row 5), 14.3 (6 and 7), 14.4 (8 and 9). Their effects are the step's.
-- Assumes nothing.
use mathlib.Core.Path.{◌≡◌, refl}
use Rattle.decode_base.specs.Base.{decode_jalr_of}
use Rattle.decode.specs.Cfi.{zimop_of}
use Rattle.decode.specs.System.{system_of, decode_csr_of}
use Rattle.decode.specs.Decode.{decode_of}
use Rattle.isa.specs.declared.Instruction.TheVariants.{Auipc, Jalr, ReadSsp}

pub row_5 : decode_of 0xCDC04573 ≡ ReadSsp 10
unfolding decode_of system_of decode_csr_of zimop_of
row_5 = refl

pub row_6 : decode_of 0x12345017 ≡ Auipc 0 0x12345000
unfolding decode_of
row_6 = refl

pub row_8 : decode_of 0x000500E7 ≡ Jalr 1 10 0
unfolding decode_of decode_jalr_of
row_8 = refl

pub row_9 : decode_of 0x00038067 ≡ Jalr 0 7 0
unfolding decode_of decode_jalr_of
row_9 = refl
