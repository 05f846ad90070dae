-- `run_act::branch` meets its contract: taken or not, and by the target's alignment. Assumes nothing.
use mathlib.Core.Path.{◌∙◌}
use Rattle.word.proofs.Choices.{first}
use borrow.Author.Tests.{eq-eqb}
use Rattle.step_effect.specs.Jump.{jal_of, branch_of}
use Rattle.run_act.proofs.Ways.{stayed_does}
use Rattle.run_act.proofs.branch.Goals as goal

pub returns-then-target-eq0 : goal.returns-then-target-eq0
unfolding jal_of branch_of
returns-then-target-eq0 c =
    let e = first _ _ _ c.if-taken.true ∙ first _ _ _ (eq-eqb _ _ c.if-target-eq0.true) in
    λ x w m z. stayed_does _ _ c.went.ensures _ e x w m z

pub returns : goal.returns
unfolding branch_of
returns c = λ x w m z. stayed_does _ _ c.went-2.ensures _ (rw (c.if-taken.false, c.sum.ensures)) x w m z
