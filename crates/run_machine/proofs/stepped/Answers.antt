-- `run_machine::stepped` meets its contract: where no refusal applies, the hart's step. Assumes nothing.
use mathlib.Core.Path.{refl, sym, ◌∙◌}
use Rattle.run_call.specs.Call.{step_from_call}
use Rattle.run_call.proofs.Accepted.{small}
use Rattle.run_machine.proofs.stepped.Goals as goal

pub returns-in-Some : goal.returns-in-Some
unfolding step_from_call
returns-in-Some c = rw (c.refused.ensures, sym c.step_refusal.ensures ∙ c.in-Some.is) record {
  answer = refl;
  memory = refl;
}

pub step-after-requires : goal.step-after-requires
step-after-requires c = small _ _ _ (sym c.step_refusal.ensures ∙ c.in_default.is)

pub returns : goal.returns
unfolding step_from_call
returns c =
    rw (sym c.step_refusal.ensures ∙ c.in_default.is, c.step-after.ensures.answer) record {
      answer = refl;
      memory = c.step-after.ensures.memory;
    }
