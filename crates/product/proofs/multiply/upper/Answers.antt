-- `product::multiply::upper` meets its contract: bits 127:64 of the library's product of 128 bits. Assumes nothing.
use Rattle.std.proofs.Common.{◌∙◌, ap, ap₂, ◌/◌, ◌^◌, of_z}
use Rattle.std.specs.Int.{int_wrapping_mul}
use mir.Syntax.{w128}
use Rattle.product.specs.Integer.{integer_of}
use Rattle.product.specs.Product.{upper_of}
use Rattle.product.proofs.Machine.{number_small, upper_cast}
use Rattle.product.proofs.multiply.upper.Goals as goal

pub returns : goal.returns
unfolding upper_of
returns c =
    let a = c.args in
    let f = c.ranges in
    ap (λ n. n / 2 ^ 64)
    (c.cast_unsigned-whole.ensures ∙ ap₂ (λ x y. of_z w128 (int_wrapping_mul w128 x y)) c.integer.ensures c.integer-2.ensures)
    ∙ upper_cast (integer_of a.s 64 a.a) (integer_of a.t 64 a.b) (number_small a.s a.a f.a.fits) (number_small a.t a.b f.b.fits)
