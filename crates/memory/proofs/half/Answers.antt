-- `memory::half` meets its contract: the library's number of two bytes. Assumes nothing.
use Rattle.std.proofs.Common.{◌∙◌, sym}
use Rattle.memory.proofs.Sums.{two}
use Rattle.memory.proofs.half.Goals as goal

pub returns : goal.returns
returns c = c.from.ensures ∙ c.from_le_bytes.ensures ∙ sym (two c.args.mem.now c.args.at c.requires)
