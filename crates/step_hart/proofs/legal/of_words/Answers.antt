-- `legal::of_words` meets its contract: register 0, and then the other words. Assumes nothing.
use borrow.Author.Tests.{eq-eqb, ne_eqb}
use Rattle.step_hart.specs.Hart.{legal}
use Rattle.step_hart.proofs.legal.of_words.Goals as goal

pub returns-then-x-eq0 : goal.returns-then-x-eq0
unfolding legal
returns-then-x-eq0 c = rw (eq-eqb _ _ c.if-x-eq0.true, c.legal.ensures)

pub returns-else-x-eq0 : goal.returns-else-x-eq0
unfolding legal
returns-else-x-eq0 c = rw (ne_eqb _ _ c.if-x-eq0.false)
