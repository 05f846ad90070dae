-- `run_quick::opcodes::fetch` meets its contract: what the window shows. Assumes nothing.
use native.Mathlib.Omega.{arith}
use Rattle.run_quick.proofs.Seeing.{seen_word}
use Rattle.run_quick.proofs.opcodes.fetch.Goals as goal

pub returns-then-d-v : goal.returns-then-d-v
returns-then-d-v c =
    let a = c.args in
    λ k map shows. seen_word a.v a.pc _ _ c.difference-d.ensures c.if-d-v.true c.if-pc-eq0.true (omega arith) k map
    a.mem.now shows c.word.ensures
