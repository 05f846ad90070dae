-- `run_moves::data::pop` meets its contract: a place and what is found there, or its fault. Assumes nothing.
use mathlib.Core.Path.{sym, ◌∙◌}
use Rattle.address_place.proofs.Reach.{place_within, place_index}
use Rattle.run_done.proofs.Ways.{popped}
use Rattle.run_moves.proofs.data.pop.Goals as goal

pub index-requires : goal.index-requires
index-requires c = (place_within _ _ _ _ _ _ _ (sym c.translate.ensures ∙ c.in-Ok.is)).0

pub load-requires : goal.load-requires
load-requires c = rw c.index.ensures (place_index _ _ _ _ _ _ _
    (sym c.translate.ensures ∙ c.in-Ok.is))

pub returns-then-load-v : goal.returns-then-load-v
returns-then-load-v c =
    let found = sym (rw c.index.ensures at c.load.ensures) ∙ c.if-load-v.true in
    λ x. popped _ _ _ _ _ _ _ _ _ _ (sym c.translate.ensures ∙ c.in-Ok.is) found
    (c.sum-then-load-v.ensures, rw c.sum.ensures)
