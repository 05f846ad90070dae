-- `sporhulma::sporhulma_run` meets its contract: it is a run whose first word comes from a source. Assumes nothing.
use Rattle.sporhulma.proofs.One.{run_one}
use Rattle.sporhulma.proofs.sporhulma_run.Goals as goal

pub returns : goal.returns
returns c =
    let a = c.args in
    rw (run_one a.x.now a.rest.now a.mem.now a.map.now a.budget) c.call.ensures
