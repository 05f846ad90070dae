-- `step_execute::plan::plan` meets its contract: the fetch, and then the word. Assumes nothing.
use mathlib.Core.Path.{sym, ◌∙◌}
use Rattle.step_meaning.specs.Plan.{effect_of, arrived_of}
use Rattle.step_execute.proofs.plan.plan.Goals as goal

pub returns-in-Ok : goal.returns-in-Ok
unfolding effect_of arrived_of
returns-in-Ok c = rw (c.landed.ensures, sym c.fetch.ensures ∙ c.in-Ok.is)

pub returns-in-Err : goal.returns-in-Err
unfolding effect_of arrived_of
returns-in-Err c = rw (sym c.fetch.ensures ∙ c.in-Err.is)
