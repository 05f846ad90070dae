-- `scribe::sporhulma_write` meets its contract: what the writer answers of the eight numbers. Assumes nothing.
use Rattle.scribe.proofs.Lists.{wrote_word}
use Rattle.scribe.proofs.sporhulma_write.Goals as goal

pub returns : goal.returns
returns c = wrote_word _ _ _ c.told-instruction c.from.ensures c.write_numbers.ensures _ c.in-Some.is
