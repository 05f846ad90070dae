-- `intel_hex::line::Line::byte` meets its contract: byte k is the pair at 2 k + 1, whose bytes are digits. Assumes nothing.
use native.Mathlib.Omega.{arith}
use Prim.Native.Nat.{◌+◌, ◌*◌, ◌<◌}
use mathlib.Core.Path.{◌≡◌, sym, ◌∙◌}
use Rattle.intel_hex.specs.Line.{byte_of}
use Rattle.intel_hex.proofs.Digits.{weight_is}
use Rattle.intel_hex.proofs.Pairs.{byte_at}
use Rattle.intel_hex.proofs.line.Line.byte.Goals as goal
use Rattle.intel_hex.proofs.line.Line.byte.Goals.{After-at}

read : (c : After-at) → (c.at.result ≡ byte_of c.args.self.now.text.now c.args.k) × (c.at.result < 256)
read c =
    let l = c.args.self.now in
    let (e, p, q) = byte_at l.text.now c.args.k l.framed.digits c.requires in
    let f : 2 * c.args.k + 1 + 1 ≡ 2 * c.args.k + 2 = omega arith in
    let g = rw (f, weight_is _ p, weight_is _ q) at c.at.ensures.0 ∙ sym e in
    (g, omega arith)

pub overflow_cast-result : goal.overflow_cast-result
overflow_cast-result c = let (_, b) = read (goal.at.overflow_cast-result c).After-at in omega arith

pub returns : goal.returns
returns c = (read (goal.at.returns c).After-at).0
