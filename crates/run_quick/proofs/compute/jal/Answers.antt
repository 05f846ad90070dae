-- `run_quick::compute::jal` meets its contract: a jump to its target. Assumes nothing.
use Rattle.run_done.proofs.Ways.{does_as}
use Rattle.step_meaning.specs.Instruction.{execute_of}
use Rattle.run_quick.proofs.compute.jal.Goals as goal

pub returns : goal.returns
unfolding execute_of
returns c =
    λ pad ssp s rest m map e. does_as c.jumped.result _ _ _ rest m _ rest m (rw (
      c.sum-2.ensures,
      c.imm_j.ensures,
      c.sum.ensures,
      c.split.ensures,
    )) (c.jumped.ensures rest m)
