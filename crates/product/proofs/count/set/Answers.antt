-- `product::count::set` meets its contract: the library's count of the low bits. Assumes nothing.
use Rattle.std.proofs.Common.{◌∙◌, ap}
use lib.Count.{ones}
use Rattle.product.proofs.Digits.{set_same}
use Rattle.product.proofs.count.set.Goals as goal

pub returns : goal.returns
returns g c = c.from.ensures ∙ ap ones c.low.ensures ∙ set_same g.row.BITS c.args.a
