-- `run_value::op_imm` meets its contract: a row's value, as its operation says. Assumes nothing.
use mathlib.Core.Path.{◌≡◌}
use mathlib.Core.Logic.{inl, inr}
use Rattle.word.proofs.Tables.{hit}
use Rattle.decode_base.specs.Base.{op_imm_of, op_imms, shift_of}
use Rattle.step_meaning.specs.Instruction.{execute_of}
use Rattle.run_value.proofs.Rows.{next_told}
use Rattle.run_value.proofs.op_imm.Goals as goal

pub returns-in-0 : goal.returns-in-0
unfolding op_imm_of execute_of
returns-in-0 c b = λ w pc ssp x s m map p q. rw (c.in-0.is, p, c.sum.ensures)

pub returns-in-2 : goal.returns-in-2
unfolding op_imm_of execute_of
returns-in-2 c b = λ _ _ _ _ _ _ _ p q. rw (c.in-2.is, p, c.one.ensures, c.signed_less.ensures)

pub returns-in-3 : goal.returns-in-3
unfolding op_imm_of execute_of
returns-in-3 c b = λ _ _ _ _ _ _ _ p q. rw (c.in-3.is, p, c.one-in-3.ensures, c.unsigned_less.ensures)

pub returns-in-4 : goal.returns-in-4
unfolding op_imm_of execute_of
returns-in-4 c b = λ w pc ssp x s m map p q. rw (c.in-4.is, p, c.xor.ensures)

pub returns-in-6 : goal.returns-in-6
unfolding op_imm_of execute_of
returns-in-6 c b = λ w pc ssp x s m map p q. rw (c.in-6.is, p, c.or.ensures)

pub returns-in-7 : goal.returns-in-7
unfolding op_imm_of execute_of
returns-in-7 c b = λ w pc ssp x s m map p q. rw (c.in-7.is, p, c.and.ensures)

pub returns-in-1 : goal.returns-in-1
unfolding op_imm_of
returns-in-1 c b =
    let a = c.args in
    let row : shift_of a.f ≡ op_imm_of a.f a.v = elim c.in-1.is [ inl e ↦ hit (op_imms a.f a.v) e | inr e ↦ hit (op_imms a.f a.v) e ] in
    next_told c.shifts.result (op_imm_of a.f a.v) (shift_of a.f) a.f a.a b row (c.shifts.ensures b)
