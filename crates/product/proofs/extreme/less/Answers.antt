-- `product::extreme::less` meets its contract: with signs by `word`'s law of the signed order. Assumes nothing.
use Rattle.word.proofs.Orders.{signed_order}
use Rattle.product.proofs.extreme.less.Goals as goal

pub returns-then-signed : goal.returns-then-signed
returns-then-signed c = let f = c.ranges in
    rw (c.signed_less.ensures, c.if-signed.true) (signed_order _ _ f.a.fits f.b.fits)
