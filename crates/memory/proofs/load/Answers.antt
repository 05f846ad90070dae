-- `memory::load` meets its contract: of one byte the number is the byte. Assumes nothing.
use Rattle.std.proofs.Common.{◌∙◌, sym}
use Rattle.memory.proofs.Halves.{load_one}
use Rattle.memory.proofs.load.Goals as goal

pub returns-in-Byte : goal.returns-in-Byte
returns-in-Byte c = rw c.in-Byte.is (c.from.ensures ∙ sym (load_one c.args.mem.now c.args.at (rw c.in-Byte.is at c.requires)))
