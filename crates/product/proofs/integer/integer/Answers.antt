-- `product::integer::integer` meets its contract: the library's cast keeps the number that the word is read as. Assumes nothing.
use Rattle.std.proofs.Common.{true}
use Rattle.std.proofs.lemmas.Int.{to_z-of_z}
use mir.Syntax.{w128}
use Rattle.word.proofs.Machine.{cast_held}
use Rattle.product.proofs.Machine.{number_fits}
use Rattle.product.proofs.integer.integer.Goals as goal

pub returns-then-signed : goal.returns-then-signed
returns-then-signed c =
    let a = c.args.a in
    let l = c.ranges.a.fits in
    rw (c.if-signed.true, c.from.ensures, c.cast_signed.ensures, cast_held a l) (to_z-of_z w128 _ (number_fits true a l))
