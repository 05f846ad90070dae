-- `run_value::op_imm_32` meets its contract: a row's value, as its operation says. Assumes nothing.
use Rattle.word.proofs.Tables.{missed}
use Rattle.decode_base.specs.Base.{op_imm32_of, op_imm32s, word_shift_of}
use Rattle.step_meaning.specs.Instruction.{execute_of}
use Rattle.run_value.proofs.Rows.{next_told}
use Rattle.run_value.proofs.op_imm_32.Goals as goal

pub returns-in-0 : goal.returns-in-0
unfolding op_imm32_of execute_of
returns-in-0 c b = λ _ _ _ _ _ _ _ p q. rw (c.in-0.is, p, c.sum_word.ensures)

pub returns-in_default : goal.returns-in_default
unfolding op_imm32_of
returns-in_default c b =
    let a = c.args in
    next_told c.word_shifts.result (op_imm32_of a.f a.v) (word_shift_of a.f) a.f a.a b
    (missed _ (op_imm32s a.f a.v) c.in_default.in_default-own.rest) (c.word_shifts.ensures b)
