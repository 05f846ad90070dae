-- `run_quick::compute::branch` meets its contract: by its condition. Assumes nothing.
use mathlib.Core.Path.{sym, ◌∙◌}
use Rattle.decode_base.specs.Base.{decode_branch_of}
use Rattle.step_effect.specs.Jump.{branch_of as taken_of}
use Rattle.step_meaning.specs.Instruction.{execute_of}
use Rattle.run_done.proofs.Ways.{read, does_as, wrote_does}
use Rattle.run_quick.proofs.compute.branch.Goals as goal

pub returns-then-condition : goal.returns-then-condition
unfolding execute_of taken_of
returns-then-condition c =
    let told = read decode_branch_of c.split.ensures c.imm_b.ensures c.branch-k.ensures c.in_Branch-k.is in
    let holds = sym (rw (c.reg.ensures, c.reg-2.ensures) at c.condition.ensures) ∙ c.if-condition.true in
    λ pad ssp s rest m map e. does_as c.jumped.result _ _ _ rest m _ rest m (rw (told, holds, c.sum.ensures))
    (c.jumped.ensures rest m)

pub returns : goal.returns
unfolding execute_of taken_of
returns c =
    let told = read decode_branch_of c.split.ensures c.imm_b.ensures c.branch-k.ensures c.in_Branch-k.is in
    let holds = sym (rw (c.reg.ensures, c.reg-2.ensures) at c.condition.ensures) ∙ c.if-condition.false in
    λ pad ssp s rest m map e. wrote_does _ 0 0 _ _ _ c.wrote.ensures _ (rw (told, holds, c.sum-2.ensures)) rest m
