-- `address_place::steps::plain` meets its contract: a shadow access has cause 7. Assumes nothing.
use mathlib.Core.Path.{sym, ◌∙◌}
use Rattle.address_place.specs.Place.{plain_place_of}
use Rattle.address_place.proofs.steps.plain.Goals as goal

pub returns-then-is_shadow : goal.returns-then-is_shadow
unfolding plain_place_of
returns-then-is_shadow c = rw (sym c.is_shadow.ensures ∙ c.if-is_shadow.true)
