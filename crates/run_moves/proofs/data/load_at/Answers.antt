-- `run_moves::data::load_at` meets its contract: a place, or its fault. Assumes nothing.
use mathlib.Core.Path.{sym, ◌∙◌}
use Rattle.address_place.proofs.Reach.{place_within, place_index}
use Rattle.step_transfer.specs.Access.{at_of, done_of}
use Rattle.run_done.proofs.Ways.{wrote_does}
use Rattle.run_moves.proofs.data.load_at.Goals as goal

pub index-requires : goal.index-requires
index-requires c = (place_within _ _ _ _ _ _ _ (sym c.translate.ensures ∙ c.in-Ok.is)).0

pub load-requires : goal.load-requires
load-requires c = rw c.index.ensures (place_index _ _ _ _ _ _ _
    (sym c.translate.ensures ∙ c.in-Ok.is))

pub returns : goal.returns
unfolding at_of done_of
returns c =
    λ rest. wrote_does _ _ _ _ _ _ c.wrote.ensures _ (rw (
      sym c.translate.ensures
          ∙ c.in-Ok.is,
      c.extend-v.ensures,
      c.load.ensures,
      c.index.ensures,
      c.sum.ensures,
    )) rest _
