-- `product::divide::remainder` meets its contract at both sizes. Assumes nothing.
use Rattle.std.proofs.Common.{◌∙◌, ap, ap₂}
use Rattle.word.specs.Sign.{sign_extend_of}
use Rattle.product.specs.Quotient.{remainder_of}
use Rattle.product.proofs.Sized.{remainder_at}
use Rattle.product.proofs.divide.remainder.Goals as goal

pub returns : goal.returns
returns g c =
    let a = c.args in
    let k = g.row.BITS in
    c.extend.ensures
    ∙ ap (sign_extend_of k) (c.left.ensures ∙ ap₂ (remainder_of a.signed 64) c.operand.ensures c.operand-2.ensures)
    ∙ remainder_at a.signed a.a a.b k c.requires c.ranges.a.fits c.ranges.b.fits
