-- `run_act::pop` meets its contract: a place and what is found there, or none. Assumes nothing.
use mathlib.Core.Path.{sym, ◌∙◌}
use Rattle.run_done.proofs.Ways.{popped}
use Rattle.run_act.proofs.Around.{fits, read_there}
use Rattle.run_act.proofs.Ways.{went_does}
use Rattle.run_act.proofs.pop.Goals as goal

pub load-requires : goal.load-requires
load-requires c = fits _ _ _ _ _ _ _ c.in-Some.ensures.place

pub returns-then-load-v-clause-does : goal.returns-then-load-v-clause-does
returns-then-load-v-clause-does c =
    let value = read_there _ _ _ _ (sym c.load.ensures ∙ c.if-load-v.true) in
    λ x. went_does _ _ c.went.ensures _ _ _ _ _ _
    (popped _ _ _ _ _ _ _ _ _ _ c.in-Some.ensures.place value (c.sum-then-load-v.ensures, rw c.sum.ensures))
