-- `run_act::jumped` meets its contract: by the target's alignment. Assumes nothing.
use Rattle.word.proofs.Choices.{first}
use borrow.Author.Tests.{eq-eqb}
use Rattle.step_effect.specs.Jump.{jal_of}
use Rattle.run_act.proofs.Ways.{wrote_does}
use Rattle.run_act.proofs.jumped.Goals as goal

pub returns-then-target-eq0 : goal.returns-then-target-eq0
unfolding jal_of
returns-then-target-eq0 c =
    let h = c.wrote.ensures in
    λ w m. wrote_does _ _ _ _ _ _ h _ (first _ _ _ (eq-eqb _ _ c.if-target-eq0.true)) w m
