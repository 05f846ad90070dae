-- `run_value::op_32` meets its contract: a row's value, as its operation says. Assumes nothing.
use Rattle.word.proofs.Tables.{missed}
use Rattle.decode_base.specs.Base.{op32_of, op32s, extension32_of}
use Rattle.step_meaning.specs.Instruction.{execute_of}
use Rattle.run_value.proofs.Rows.{next_told}
use Rattle.run_value.proofs.op_32.Goals as goal

pub returns-in-0 : goal.returns-in-0
unfolding op32_of execute_of
returns-in-0 c = λ _ _ _ _ _ _ _ p q. rw (c.in-0.is, p, q, c.sum_word.ensures)

pub returns-in-256 : goal.returns-in-256
unfolding op32_of execute_of
returns-in-256 c = λ _ _ _ _ _ _ _ p q. rw (c.in-256.is, p, q, c.difference_word.ensures)

pub returns-in-1 : goal.returns-in-1
unfolding op32_of execute_of
returns-in-1 c = λ _ _ _ _ _ _ _ p q. rw (c.in-1.is, p, q, c.left.ensures)

pub returns-in-5 : goal.returns-in-5
unfolding op32_of execute_of
returns-in-5 c = λ _ _ _ _ _ _ _ p q. rw (c.in-5.is, p, q, c.right.ensures)

pub returns-in-261 : goal.returns-in-261
unfolding op32_of execute_of
returns-in-261 c = λ _ _ _ _ _ _ _ p q. rw (c.in-261.is, p, q, c.arithmetic.ensures)

pub returns-in_default : goal.returns-in_default
unfolding op32_of
returns-in_default c =
    let a = c.args in
    next_told c.extension_32.result (op32_of a.f) (extension32_of a.f) a.f a.a a.b
    (missed _ (op32s a.f) c.in_default.in_default-own.rest) c.extension_32.ensures
