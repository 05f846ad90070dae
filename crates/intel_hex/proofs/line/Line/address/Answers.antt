-- `intel_hex::line::Line::address` meets its contract. Assumes nothing.
use native.Mathlib.Omega.{arith}
use Rattle.intel_hex.specs.Line.{record_address_of}
use Rattle.intel_hex.proofs.line.Line.address.Goals as goal

pub returns : goal.returns
unfolding record_address_of
returns c = (rw c.half.ensures, omega arith)
