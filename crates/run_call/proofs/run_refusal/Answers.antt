-- `run_call::run_refusal` meets its contract: refusal 4 where the others do not apply. Assumes nothing.
use borrow.Author.Tests.{lt-ltb, le-ltb}
use Rattle.run_call.specs.Call.{run_refusal_of}
use Rattle.run_call.proofs.run_refusal.Goals as goal

pub returns-in-Some : goal.returns-in-Some
unfolding run_refusal_of
returns-in-Some c = rw (← c.step_refusal.ensures, c.in-Some.is)

pub returns-then-budget-gt-LARGEST : goal.returns-then-budget-gt-LARGEST
unfolding run_refusal_of
returns-then-budget-gt-LARGEST c =
    rw (← c.step_refusal.ensures, c.in_default.is, lt-ltb 1000000 _ c.if-budget-gt-LARGEST.true)

pub returns : goal.returns
unfolding run_refusal_of
returns c = rw (← c.step_refusal.ensures, c.in_default.is, le-ltb 1000000 _ c.if-budget-gt-LARGEST.false)
