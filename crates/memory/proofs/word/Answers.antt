-- `memory::word` meets its contract: the library's number of four bytes. Assumes nothing.
use Rattle.std.proofs.Common.{◌∙◌, sym}
use Rattle.memory.proofs.Sums.{four}
use Rattle.memory.proofs.word.Goals as goal

pub returns : goal.returns
returns c = c.from_le_bytes.ensures ∙ sym (four c.args.mem.now c.args.at c.requires)
