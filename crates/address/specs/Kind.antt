-- The kind of access that a memory instruction makes. A fetch is no instruction's. Rule 3.21 and chapter 7 of docs/HART.md.
use Rattle.isa.specs.declared.Access.{Access}
use Rattle.isa.specs.declared.Access.TheVariants as access
use Rattle.isa.specs.declared.Kind.{Kind}
use Rattle.isa.specs.declared.Kind.TheVariants as kind

abbrev pub kind_of : Access → Kind
kind_of (access.Load w signed) = kind.Load
kind_of (access.Store w) = kind.Store
kind_of access.Push = kind.Push
kind_of access.Pop = kind.Pop
kind_of (access.Swap w aq rl) = kind.Swap
