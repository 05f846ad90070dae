-- The kind of access that a number in a file of cases stands for.
use Rattle.std.specs.Prelude.{ℕ}
use Rattle.word.specs.Choice.{Table, ◌⇒◌¦◌, otherwise, look}
use Rattle.isa.specs.declared.Kind.{Kind}
use Rattle.isa.specs.declared.Kind.TheVariants.{Fetch, Load, Store, Push, Pop, Swap}

abbrev pub case_kinds : Table Kind
case_kinds = 0 ⇒ Fetch ¦ 1 ⇒ Load ¦ 2 ⇒ Store ¦ 3 ⇒ Push ¦ 4 ⇒ Pop ¦ otherwise Swap

unfoldable pub case_kind_of : ℕ → Kind
case_kind_of n = look n case_kinds
