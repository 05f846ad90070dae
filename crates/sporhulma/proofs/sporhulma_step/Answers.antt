-- `sporhulma::sporhulma_step` meets its contract: it is a run whose first word comes from a source. Assumes nothing.
use Rattle.sporhulma.proofs.One.{step_one}
use Rattle.sporhulma.proofs.sporhulma_step.Goals as goal

pub returns : goal.returns
returns c =
    let a = c.args in
    rw (step_one a.x.now a.rest.now a.mem.now a.map.now) c.call.ensures
