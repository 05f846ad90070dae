-- `run_act::load` meets its contract: a place, or none. Assumes nothing.
use mathlib.Core.Path.{sym}
use Rattle.step_transfer.specs.Access.{at_of, done_of}
use Rattle.run_act.proofs.Around.{fits, read_there}
use Rattle.run_act.proofs.Ways.{wrote_does}
use Rattle.run_act.proofs.load.Goals as goal

pub load-requires : goal.load-requires
load-requires c = fits _ _ _ _ _ _ _ c.in-Some.ensures.place

pub returns-in-Some-clause-does : goal.returns-in-Some-clause-does
unfolding at_of done_of
returns-in-Some-clause-does c =
    let read = read_there _ _ _ _ (sym c.load.ensures) in
    λ w. wrote_does _ _ _ _ _ _ c.wrote.ensures _ (rw (
      rw c.sum.ensures at c.in-Some.ensures.place,
      c.extend-v.ensures,
      read,
      c.sum-in-Some.ensures,
    )) w _
