-- `run_value::shifts` meets its contract: a row's value, as its operation says. Assumes nothing.
use Rattle.word.proofs.Tables.{missed}
use Rattle.decode_base.specs.Base.{shift_of, shifts, count_of}
use Rattle.step_meaning.specs.Instruction.{execute_of}
use Rattle.run_value.proofs.Rows.{next_told}
use Rattle.run_value.proofs.shifts.Goals as goal

pub returns-in-1 : goal.returns-in-1
unfolding shift_of execute_of
returns-in-1 c b = λ w pc ssp x s m map p q. rw (c.in-1.is, p, c.left.ensures)

pub returns-in-5 : goal.returns-in-5
unfolding shift_of execute_of
returns-in-5 c b = λ w pc ssp x s m map p q. rw (c.in-5.is, p, c.right.ensures)

pub returns-in-133 : goal.returns-in-133
unfolding shift_of execute_of
returns-in-133 c b = λ _ _ _ _ _ _ _ p q. rw (c.in-133.is, p, c.arithmetic.ensures)

pub returns-in_default : goal.returns-in_default
unfolding shift_of
returns-in_default c b =
    let a = c.args in
    next_told c.counts.result (shift_of a.f) (count_of a.f) a.f a.a b (missed _ (shifts a.f) c.in_default.in_default-own.rest)
    (c.counts.ensures b)
