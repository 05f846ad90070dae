-- `sporhulma::sporhulma_step_word` meets its contract: it is a run whose first word comes from a source. Assumes nothing.
use Rattle.sporhulma.proofs.One.{step_word_one}
use Rattle.sporhulma.proofs.sporhulma_step_word.Goals as goal

pub returns : goal.returns
returns c =
    let a = c.args in
    rw (step_word_one a.x.now a.rest.now a.mem.now a.map.now a.word) c.call.ensures
