-- `run_value::counts` meets its contract: a row's value, as its operation says. Assumes nothing.
use Rattle.decode_base.specs.Base.{count_of}
use Rattle.step_meaning.specs.Instruction.{execute_of}
use Rattle.run_value.proofs.counts.Goals as goal

pub returns-in-12289 : goal.returns-in-12289
unfolding count_of execute_of
returns-in-12289 c b = λ w pc ssp x s m map p q. rw (c.in-12289.is, p, c.leading.ensures)

pub returns-in-12297 : goal.returns-in-12297
unfolding count_of execute_of
returns-in-12297 c b = λ _ _ _ _ _ _ _ p q. rw (c.in-12297.is, p, c.trailing.ensures)

pub returns-in-12305 : goal.returns-in-12305
unfolding count_of execute_of
returns-in-12305 c b = λ w pc ssp x s m map p q. rw (c.in-12305.is, p, c.set.ensures)
