-- `step_transfer::access::done` meets its contract: an access an arm, its bytes in memory. Assumes nothing.
use Rattle.step_transfer.specs.Access.{done_of}
use Rattle.step_transfer.proofs.access.done.Goals as goal

pub returns-in-Load : goal.returns-in-Load
unfolding done_of
returns-in-Load c = rw (c.extend.ensures, c.load-v.ensures, c.index.ensures, c.in-Load.is)

pub returns-in-Store : goal.returns-in-Store
unfolding done_of
returns-in-Store c = rw c.in-Store.is

pub returns-in-Push : goal.returns-in-Push
unfolding done_of
returns-in-Push c = rw (c.difference.ensures, c.in-Push.is)

pub returns-in-Pop : goal.returns-in-Pop
unfolding done_of
returns-in-Pop c = rw (c.popped.ensures, c.load.ensures, c.index-in-Pop.ensures, c.in-Pop.is)

pub returns-in-Swap : goal.returns-in-Swap
unfolding done_of
returns-in-Swap c = rw (c.extend-in-Swap.ensures, c.load-v-in-Swap.ensures, c.index-in-Swap.ensures, c.in-Swap.is)
