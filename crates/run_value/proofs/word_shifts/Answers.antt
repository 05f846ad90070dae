-- `run_value::word_shifts` meets its contract: a row's value, as its operation says. Assumes nothing.
use Rattle.word.proofs.Tables.{missed}
use Rattle.decode_base.specs.Base.{word_shift_of, word_shifts_of, count_word_of}
use Rattle.step_meaning.specs.Instruction.{execute_of}
use Rattle.run_value.proofs.Rows.{next_told}
use Rattle.run_value.proofs.word_shifts.Goals as goal

pub returns-in-1 : goal.returns-in-1
unfolding word_shift_of execute_of
returns-in-1 c b = λ _ _ _ _ _ _ _ p q. rw (c.in-1.is, p, c.left.ensures)

pub returns-in-5 : goal.returns-in-5
unfolding word_shift_of execute_of
returns-in-5 c b = λ _ _ _ _ _ _ _ p q. rw (c.in-5.is, p, c.right.ensures)

pub returns-in-261 : goal.returns-in-261
unfolding word_shift_of execute_of
returns-in-261 c b = λ _ _ _ _ _ _ _ p q. rw (c.in-261.is, p, c.arithmetic.ensures)

pub returns-in_default : goal.returns-in_default
unfolding word_shift_of
returns-in_default c b =
    let a = c.args in
    next_told c.count_words.result (word_shift_of a.f) (count_word_of a.f) a.f a.a b
    (missed _ (word_shifts_of a.f) c.in_default.in_default-own.rest) (c.count_words.ensures b)
