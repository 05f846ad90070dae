-- `step_transfer::access::at` meets its contract: a place, or its fault. Assumes nothing.
use Rattle.step_transfer.specs.Access.{at_of}
use Rattle.step_transfer.proofs.access.at.Goals as goal

pub returns-in-Ok : goal.returns-in-Ok
unfolding at_of
returns-in-Ok c = rw (c.done.ensures, c.in-Ok.is)

pub returns-in-Err : goal.returns-in-Err
unfolding at_of
returns-in-Err c = rw c.in-Err.is
