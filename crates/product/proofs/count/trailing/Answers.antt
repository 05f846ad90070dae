-- `product::count::trailing` meets its contract: of 0 the count is that of all low bits. Assumes nothing.
use Rattle.std.proofs.Common.{◌∙◌, ap, min}
use lib.Count.{count_trailing_zeros}
use Rattle.word.proofs.Sizes.{size_range}
use Rattle.product.proofs.Digits.{trailing_above}
use Rattle.product.proofs.count.trailing.Goals as goal

pub returns : goal.returns
returns g c =
    let k = g.row.BITS in
    c.min.ensures ∙ ap (λ n. min n k) (c.from.ensures ∙ ap (count_trailing_zeros 64) c.low.ensures)
    ∙ trailing_above k c.args.a (size_range k c.requires).1
