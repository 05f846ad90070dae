-- `step_transfer::access::popped` meets its contract: one comparison. Assumes nothing.
use Rattle.step_transfer.specs.Access.{popped_of}
use borrow.Author.Tests.{eq-eqb, ne_eqb}
use Rattle.step_transfer.proofs.access.popped.Goals as goal

pub returns-then-top-v : goal.returns-then-top-v
unfolding popped_of
returns-then-top-v c = rw (c.sum-up.ensures, eq-eqb _ _ c.if-top-v.true)

pub returns : goal.returns
unfolding popped_of
returns c = rw (ne_eqb _ _ c.if-top-v.false)
