-- `address_place::steps::plainly` meets its contract: an aligned access goes on. Assumes nothing.
use mathlib.Core.Path.{sym, ◌∙◌}
use Rattle.address_place.proofs.Flat.{flat_aligned}
use lib.ListN.{length}
use Rattle.address_place.proofs.steps.plainly.Goals as goal

pub returns-then-aligned : goal.returns-then-aligned
returns-then-aligned c =
    let a = c.args in
    c.inside.ensures ∙ flat_aligned a.k a.w a.a.0 (length a.mem.now) (sym c.aligned.ensures ∙ c.if-aligned.true)
