-- `product::count::leading` meets its contract: above the low bits stand zeros alone. Assumes nothing.
use Rattle.std.proofs.Common.{◌≡◌, ◌+◌, ◌-◌, ◌∙◌, ap, arith}
use lib.Count.{count_leading_zeros}
use Rattle.word.proofs.Sizes.{size_range}
use Rattle.product.specs.Count.{leading_of}
use Rattle.product.proofs.Digits.{leading_above}
use Rattle.product.proofs.count.leading.Goals as goal

counted : (g : _) (c : goal.After-from g) → c.from.result ≡ leading_of g.row.BITS c.args.a + (64 - g.row.BITS)
counted g c =
    c.from.ensures ∙ ap (count_leading_zeros 64) c.low.ensures ∙ leading_above g.row.BITS c.args.a (size_range g.row.BITS c.requires).1

pub overflow_sub-result-2 : goal.overflow_sub-result-2
overflow_sub-result-2 g c = omega (arith, counted g c)

pub returns : goal.returns
returns g c = omega (arith, counted g c)
