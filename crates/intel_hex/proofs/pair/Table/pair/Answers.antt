-- `intel_hex::pair::Table::pair` meets its contract: what the table has at the two bytes. Assumes nothing.
use native.Mathlib.Omega.{arith}
use Rattle.intel_hex.proofs.Lookup.{both_are, both_most}
use Rattle.intel_hex.proofs.pair.Table.pair.Goals as goal

pub overflow_add-result : goal.overflow_add-result
overflow_add-result c =
    let t = c.args.self.now in
    let m = both_most t.low t.high t.filled c.args.high c.args.low (omega arith) (omega arith) in
    omega arith

pub returns : goal.returns
returns c =
    let t = c.args.self.now in (
      both_are t.low t.high t.filled c.args.high c.args.low (omega arith) (omega arith),
      both_most t.low t.high t.filled c.args.high c.args.low (omega arith) (omega arith),
    )
