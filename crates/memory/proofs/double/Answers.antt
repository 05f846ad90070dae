-- `memory::double` meets its contract: the library's number of eight bytes. Assumes nothing.
use Rattle.std.proofs.Common.{◌∙◌, sym}
use Rattle.memory.proofs.Sums.{eight}
use Rattle.memory.proofs.double.Goals as goal

pub returns : goal.returns
returns c = c.from_le_bytes.ensures ∙ sym (eight c.args.mem.now c.args.at c.requires)
