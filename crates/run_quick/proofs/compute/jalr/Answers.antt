-- `run_quick::compute::jalr` meets its contract: the landing pad, then the jump. Assumes nothing.
use Rattle.decode_base.specs.Base.{decode_jalr_of}
use Rattle.step_effect.specs.Jump.{jalr_of as jumpOf}
use Rattle.step_meaning.specs.Instruction.{execute_of}
use Rattle.run_done.proofs.Ways.{read}
use Rattle.run_quick.proofs.Padless.{padless}
use Rattle.run_quick.proofs.compute.jalr.Goals as goal

pub returns : goal.returns
unfolding execute_of jumpOf
returns c =
    let told = read decode_jalr_of c.split.ensures c.imm_i.ensures c.jalr.ensures c.in-Jalr.is in
    λ ssp s rest m map e. padless c.jumped.result _ _ _ _ _ _ rest m _ c.if-expected.false (rw (
      told,
      e,
      c.even-target.ensures,
      c.sum.ensures,
      c.reg.ensures,
      c.sum-2.ensures,
      c.expected.ensures,
      c.needs_no_pad.ensures,
    )) (c.jumped.ensures rest m)
