-- `run_value::op` meets its contract: a row's value, as its operation says. Assumes nothing.
use Rattle.word.proofs.Tables.{missed}
use Rattle.decode_base.specs.Base.{op_of, ops, extension_of}
use Rattle.step_meaning.specs.Instruction.{execute_of}
use Rattle.run_value.proofs.Rows.{next_told}
use Rattle.run_value.proofs.op.Goals as goal

pub returns-in-0 : goal.returns-in-0
unfolding op_of execute_of
returns-in-0 c = λ w pc ssp x s m map p q. rw (c.in-0.is, p, q, c.sum.ensures)

pub returns-in-256 : goal.returns-in-256
unfolding op_of execute_of
returns-in-256 c = λ _ _ _ _ _ _ _ p q. rw (c.in-256.is, p, q, c.difference.ensures)

pub returns-in-1 : goal.returns-in-1
unfolding op_of execute_of
returns-in-1 c = λ w pc ssp x s m map p q. rw (c.in-1.is, p, q, c.left.ensures)

pub returns-in-2 : goal.returns-in-2
unfolding op_of execute_of
returns-in-2 c = λ _ _ _ _ _ _ _ p q. rw (c.in-2.is, p, q, c.one.ensures, c.signed_less.ensures)

pub returns-in-3 : goal.returns-in-3
unfolding op_of execute_of
returns-in-3 c = λ _ _ _ _ _ _ _ p q. rw (c.in-3.is, p, q, c.one-in-3.ensures, c.unsigned_less.ensures)

pub returns-in-4 : goal.returns-in-4
unfolding op_of execute_of
returns-in-4 c = λ w pc ssp x s m map p q. rw (c.in-4.is, p, q, c.xor.ensures)

pub returns-in-5 : goal.returns-in-5
unfolding op_of execute_of
returns-in-5 c = λ w pc ssp x s m map p q. rw (c.in-5.is, p, q, c.right.ensures)

pub returns-in-261 : goal.returns-in-261
unfolding op_of execute_of
returns-in-261 c = λ _ _ _ _ _ _ _ p q. rw (c.in-261.is, p, q, c.arithmetic.ensures)

pub returns-in-6 : goal.returns-in-6
unfolding op_of execute_of
returns-in-6 c = λ w pc ssp x s m map p q. rw (c.in-6.is, p, q, c.or.ensures)

pub returns-in-7 : goal.returns-in-7
unfolding op_of execute_of
returns-in-7 c = λ w pc ssp x s m map p q. rw (c.in-7.is, p, q, c.and.ensures)

pub returns-in_default : goal.returns-in_default
unfolding op_of
returns-in_default c =
    let a = c.args in
    next_told c.extension.result (op_of a.f) (extension_of a.f) a.f a.a a.b (missed _ (ops a.f) c.in_default.in_default-own.rest)
    c.extension.ensures
