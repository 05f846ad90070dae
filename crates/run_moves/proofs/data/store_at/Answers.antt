-- `run_moves::data::store_at` meets its contract: a place, or its fault. Assumes nothing.
use mathlib.Core.Path.{refl, sym, ◌∙◌}
use Rattle.address_place.proofs.Reach.{place_within, place_index}
use Rattle.step_transfer.specs.Access.{done_of}
use Rattle.run_done.proofs.Ways.{placed}
use Rattle.run_moves.proofs.data.store_at.Goals as goal

pub index-requires : goal.index-requires
index-requires c = (place_within _ _ _ _ _ _ _ (sym c.quick_data.ensures ∙ c.in-Ok.is)).0

pub store-requires : goal.store-requires
store-requires c = rw c.index.ensures (place_index _ _ _ _ _ _ _
    (sym c.quick_data.ensures ∙ c.in-Ok.is))

pub returns : goal.returns
unfolding done_of
returns c =
    λ x rest. placed _ _ _ _ _ _ _ _ _ _ _ _ _ _ _ (sym c.quick_data.ensures ∙ c.in-Ok.is)
    (c.sum.ensures, refl, refl, rw c.index.ensures at c.store.ensures)
