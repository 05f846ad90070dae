-- `run_value::extension_32` meets its contract: a row's value, as its operation says. Assumes nothing.
use Rattle.decode_base.specs.Base.{extension32_of}
use Rattle.step_meaning.specs.Instruction.{execute_of}
use Rattle.run_value.proofs.extension_32.Goals as goal

pub returns-in-8 : goal.returns-in-8
unfolding extension32_of execute_of
returns-in-8 c = λ _ _ _ _ _ _ _ p q. rw (c.in-8.is, p, q, c.product.ensures)

pub returns-in-12 : goal.returns-in-12
unfolding extension32_of execute_of
returns-in-12 c = λ _ _ _ _ _ _ _ p q. rw (c.in-12.is, p, q, c.quotient.ensures)

pub returns-in-13 : goal.returns-in-13
unfolding extension32_of execute_of
returns-in-13 c = λ _ _ _ _ _ _ _ p q. rw (c.in-13.is, p, q, c.quotient-in-13.ensures)

pub returns-in-14 : goal.returns-in-14
unfolding extension32_of execute_of
returns-in-14 c = λ _ _ _ _ _ _ _ p q. rw (c.in-14.is, p, q, c.remainder.ensures)

pub returns-in-15 : goal.returns-in-15
unfolding extension32_of execute_of
returns-in-15 c = λ _ _ _ _ _ _ _ p q. rw (c.in-15.is, p, q, c.remainder-in-15.ensures)
