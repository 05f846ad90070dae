-- How many bytes an access moves (docs/HART.md, 3.21).
use Rattle.std.specs.Prelude.{ℕ}
use Rattle.isa.specs.declared.Access.{Access}
use Rattle.isa.specs.declared.Access.TheVariants.{Load, Store, Push, Pop, Swap}
use Rattle.isa.specs.declared.Width.{Width}
use Rattle.isa.specs.declared.Width.TheVariants.{Byte, Half, Word, Double}

-- a width in bytes
abbrev pub size_of : Width → ℕ
size_of Byte = 1
size_of Half = 2
size_of Word = 4
size_of Double = 8

-- shadow push and pop-check always move eight bytes
abbrev pub width_of : Access → Width
width_of (Load w signed) = w
width_of (Store w) = w
width_of Push = Double
width_of Pop = Double
width_of (Swap w aq rl) = w
