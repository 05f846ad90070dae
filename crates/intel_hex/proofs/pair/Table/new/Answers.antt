-- `intel_hex::pair::Table::new` meets its contract: each byte's places are filled. Assumes nothing.
use mathlib.Core.Path.{◌≡◌}
use native.Mathlib.Omega.{arith}
use Rattle.intel_hex.proofs.pair.Table.new.Goals as goal

pub invariant_of-result : goal.invariant_of-result
invariant_of-result c = let e : c.loop-b.b ≡ 256 = omega arith in record { filled = rw e at c.loop-b.invariant }
