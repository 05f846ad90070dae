-- `run_quick::compute::lui` meets its contract: a register written. Assumes nothing.
use Rattle.step_meaning.specs.Instruction.{execute_of}
use Rattle.run_done.proofs.Ways.{wrote_does}
use Rattle.run_quick.proofs.compute.lui.Goals as goal

pub returns : goal.returns
unfolding execute_of
returns c =
    λ pad ssp s rest m map e. wrote_does _ _ _ _ _ _ c.wrote.ensures _ (rw (c.sum.ensures, c.imm_u.ensures, c.split.ensures)) rest m
