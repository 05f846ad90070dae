-- `run_machine::run` meets its contract: where no refusal applies, the hart's run. Assumes nothing.
use mathlib.Core.Path.{refl, sym, ◌∙◌}
use Rattle.run_call.specs.Call.{run_call_of}
use Rattle.run_call.proofs.Accepted.{small, run_no_refusal}
use Rattle.run_machine.proofs.run.Goals as goal

pub returns-in-Some : goal.returns-in-Some
unfolding run_call_of
returns-in-Some c = rw (c.refused.ensures, sym c.run_refusal.ensures ∙ c.in-Some.is) record {
  answer = refl;
  memory = refl;
}

pub of_hart-ran-requires : goal.of_hart-ran-requires
of_hart-ran-requires c = small _ _ _ (run_no_refusal _ _ _ _ (sym c.run_refusal.ensures ∙ c.in_default.is))

pub returns : goal.returns
unfolding run_call_of
returns c =
    rw (sym c.run_refusal.ensures ∙ c.in_default.is, c.of_hart-ran.ensures.answer) record {
      answer = refl;
      memory = c.of_hart-ran.ensures.memory;
    }
