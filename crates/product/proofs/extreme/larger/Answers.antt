-- `product::extreme::larger` meets its contract: the choice by the order. Assumes nothing.
use Rattle.std.proofs.Common.{◌≡◌, ◌∙◌, true, false, sym}
use Rattle.product.specs.Extreme.{less_of, larger_of}
use Rattle.product.proofs.extreme.larger.Goals as goal

pub returns-then-less : goal.returns-then-less
unfolding larger_of
returns-then-less c =
    let e : less_of c.args.signed c.args.a c.args.b ≡ true = sym c.less.ensures ∙ c.if-less.true in
    rw e

pub returns-else-less : goal.returns-else-less
unfolding larger_of
returns-else-less c =
    let e : less_of c.args.signed c.args.a c.args.b ≡ false = sym c.less.ensures ∙ c.if-less.false in
    rw e
