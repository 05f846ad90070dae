-- `product::extreme::smaller` meets its contract: the choice by the order. Assumes nothing.
use Rattle.std.proofs.Common.{◌≡◌, ◌∙◌, true, false, sym}
use Rattle.product.specs.Extreme.{less_of, smaller_of}
use Rattle.product.proofs.extreme.smaller.Goals as goal

pub returns-then-less : goal.returns-then-less
unfolding smaller_of
returns-then-less c =
    let e : less_of c.args.signed c.args.a c.args.b ≡ true = sym c.less.ensures ∙ c.if-less.true in
    rw e

pub returns-else-less : goal.returns-else-less
unfolding smaller_of
returns-else-less c =
    let e : less_of c.args.signed c.args.a c.args.b ≡ false = sym c.less.ensures ∙ c.if-less.false in
    rw e
