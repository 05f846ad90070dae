-- `run_csrs::handle` meets its contract: three of the rows of `csrs`, and every other word is left. Assumes nothing.
use native.Mathlib.Omega.{arith}
use Rattle.step_meaning.specs.Instruction.{execute_of, next_of}
use Rattle.run_csrs.proofs.Decoding.{decoded}
use Rattle.run_csrs.proofs.handle.Goals as goal

pub returns-in-243 : goal.returns-in-243
unfolding execute_of
returns-in-243 c =
    λ pc ssp s m map e. rw (decoded _ 1 (omega arith) c.in-243.is, e) (c.csr_word.ensures (next_of pc) s.permitted)

pub returns-in-371 : goal.returns-in-371
unfolding execute_of
returns-in-371 c =
    λ pc ssp s m map e. rw (decoded _ 2 (omega arith) c.in-371.is, e) (c.csr_word-in-371.ensures (next_of pc) s.permitted)

pub returns-in-499 : goal.returns-in-499
unfolding execute_of
returns-in-499 c =
    λ pc ssp s m map e. rw (decoded _ 3 (omega arith) c.in-499.is, e) (c.csr_word-in-499.ensures (next_of pc) s.permitted)
