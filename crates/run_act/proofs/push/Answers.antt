-- `run_act::push` meets its contract: a place, or none. Assumes nothing.
use mathlib.Core.Path.{refl}
use Rattle.step_transfer.specs.Access.{done_of}
use Rattle.run_done.proofs.Ways.{placed}
use Rattle.run_act.proofs.Around.{fits, touched, stored_there}
use Rattle.run_act.proofs.push.Goals as goal

pub store-requires : goal.store-requires
store-requires c = fits _ _ _ _ _ _ _ c.in-Some.ensures.place

pub returns-in-Some-clause-does : goal.returns-in-Some-clause-does
unfolding done_of
returns-in-Some-clause-does c =
    let top = c.difference-top.ensures in
    let found = rw top at c.in-Some.ensures.place in
    λ x. (
      placed _ _ _ _ _ _ _ _ _ _ _ _ _ _ _ found (c.sum.ensures, refl, rw top, stored_there _ _ _ _ _ c.store.ensures),
      touched _ _ _ _ _ _ _ found _ _ _ refl c.store.ensures,
    )

pub returns-in-Some-clause-stored : goal.returns-in-Some-clause-stored
returns-in-Some-clause-stored c = touched _ _ _ _ _ _ _ (rw c.difference-top.ensures at c.in-Some.ensures.place) _ _ _ refl c.store.ensures
