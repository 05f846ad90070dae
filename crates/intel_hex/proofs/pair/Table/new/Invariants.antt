use Rattle.intel_hex.specs.Inner.{Filled}
use Rattle.intel_hex.proofs.pair.Table.new.Given as goal

abbrev pub invariant-loop-b : goal.invariant-loop-b
invariant-loop-b l = Filled l.low l.high l.b
