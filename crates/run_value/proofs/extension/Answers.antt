-- `run_value::extension` meets its contract: a row's value, as its operation says. Assumes nothing.
use Rattle.decode_base.specs.Base.{extension_of}
use Rattle.step_meaning.specs.Instruction.{execute_of}
use Rattle.run_value.proofs.extension.Goals as goal

pub returns-in-8 : goal.returns-in-8
unfolding extension_of execute_of
returns-in-8 c = λ w pc ssp x s m map p q. rw (c.in-8.is, p, q, c.product.ensures)

pub returns-in-9 : goal.returns-in-9
unfolding extension_of execute_of
returns-in-9 c = λ w pc ssp x s m map p q. rw (c.in-9.is, p, q, c.upper.ensures)

pub returns-in-10 : goal.returns-in-10
unfolding extension_of execute_of
returns-in-10 c = λ w pc ssp x s m map p q. rw (c.in-10.is, p, q, c.upper-in-10.ensures)

pub returns-in-11 : goal.returns-in-11
unfolding extension_of execute_of
returns-in-11 c = λ w pc ssp x s m map p q. rw (c.in-11.is, p, q, c.upper-in-11.ensures)

pub returns-in-12 : goal.returns-in-12
unfolding extension_of execute_of
returns-in-12 c = λ _ _ _ _ _ _ _ p q. rw (c.in-12.is, p, q, c.quotient.ensures)

pub returns-in-13 : goal.returns-in-13
unfolding extension_of execute_of
returns-in-13 c = λ _ _ _ _ _ _ _ p q. rw (c.in-13.is, p, q, c.quotient-in-13.ensures)

pub returns-in-14 : goal.returns-in-14
unfolding extension_of execute_of
returns-in-14 c = λ _ _ _ _ _ _ _ p q. rw (c.in-14.is, p, q, c.remainder.ensures)

pub returns-in-15 : goal.returns-in-15
unfolding extension_of execute_of
returns-in-15 c = λ _ _ _ _ _ _ _ p q. rw (c.in-15.is, p, q, c.remainder-in-15.ensures)

pub returns-in-44 : goal.returns-in-44
unfolding extension_of execute_of
returns-in-44 c = λ _ _ _ _ _ _ _ p q. rw (c.in-44.is, p, q, c.smaller.ensures)

pub returns-in-45 : goal.returns-in-45
unfolding extension_of execute_of
returns-in-45 c = λ _ _ _ _ _ _ _ p q. rw (c.in-45.is, p, q, c.smaller-in-45.ensures)

pub returns-in-46 : goal.returns-in-46
unfolding extension_of execute_of
returns-in-46 c = λ _ _ _ _ _ _ _ p q. rw (c.in-46.is, p, q, c.larger.ensures)

pub returns-in-47 : goal.returns-in-47
unfolding extension_of execute_of
returns-in-47 c = λ _ _ _ _ _ _ _ p q. rw (c.in-47.is, p, q, c.larger-in-47.ensures)
