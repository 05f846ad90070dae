-- `run_moves::data::flat_load` meets its contract: a place, or its fault. Assumes nothing.
use mathlib.Core.Path.{sym, ◌∙◌}
use Rattle.address_place.proofs.Flat.{flat_within, flat_index}
use Rattle.run_moves.proofs.Loaded.{loads_at}
use Rattle.run_moves.proofs.data.flat_load.Goals as goal

pub index-requires : goal.index-requires
index-requires c = (flat_within _ _ _ _ _ (sym c.plainly.ensures ∙ c.in-Ok.is)).0

pub load-requires : goal.load-requires
load-requires c =
    rw c.index.ensures (flat_index _ _ _ _ _ (sym c.plainly.ensures ∙ c.in-Ok.is))

pub returns : goal.returns
returns c =
    let a = c.args in
    λ f off. loads_at f off a.n a.sign a.a a.mem.now c.in-Ok.q (sym c.plainly.ensures ∙ c.in-Ok.is) c.extend.result
    (rw (c.load.ensures, c.index.ensures) at c.extend.ensures)
