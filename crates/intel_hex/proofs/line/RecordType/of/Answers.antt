-- `intel_hex::line::RecordType::of` meets its contract: a type an arm. Assumes nothing.
use Rattle.word.proofs.Tables.{missed}
use borrow.Author.Rules.{rules}
use Rattle.intel_hex.specs.Inner.{record_kinds, record_type_at}
use Rattle.intel_hex.proofs.line.RecordType.of.Goals as goal

pub returns-in-0 : goal.returns-in-0
unfolding record_type_at
returns-in-0 c = rw c.in-0.is

pub returns-in-1 : goal.returns-in-1
unfolding record_type_at
returns-in-1 c = rw c.in-1.is

pub returns-in-4 : goal.returns-in-4
unfolding record_type_at
returns-in-4 c = rw c.in-4.is

pub returns-in-5 : goal.returns-in-5
unfolding record_type_at
returns-in-5 c = rw c.in-5.is

pub returns-in_default : goal.returns-in_default
unfolding record_type_at
returns-in_default c = missed c.args.number record_kinds (search rules)
