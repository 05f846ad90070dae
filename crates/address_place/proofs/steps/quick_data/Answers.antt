-- `address_place::steps::quick_data` meets its contract: where loads and stores are neither masked nor translated, steps 3 and 9 are what
-- is left. Assumes nothing.
use mathlib.Core.Bool.{true}
use mathlib.Core.Path.{◌≡◌, sym, ◌∙◌}
use native.Mathlib.Omega.{arith}
use Rattle.address_place.proofs.Flat.{data_flat}
use lib.ListN.{length}
use Rattle.address_place.proofs.steps.quick_data.Goals as goal

pub returns-then-flat : goal.returns-then-flat
returns-then-flat c =
    let a = c.args in
    let known : a.flat ≡ true = c.if-flat.true in
    c.plainly.ensures ∙ sym (data_flat a.c a.k a.w a.a.0 a.map.now (length a.mem.now) (sym c.requires.1 ∙ known) c.requires.2
    c.requires.3 (omega arith))
