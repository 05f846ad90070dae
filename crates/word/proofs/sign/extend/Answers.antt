-- `word::sign::extend` meets its contract. Assumes nothing.
use Rattle.std.proofs.Common.{◌-◌, ◌*◌, ◌%◌, ◌^◌, ◌∙◌, ap, mod-lt, arith, of_z, to_z}
use mir.Syntax.{w64}
use lib.Signed.{shr_z}
use Rattle.word.proofs.Machine.{shift_is, extend_by_shift}
use Rattle.word.proofs.sign.extend.Goals as goal

pub returns : goal.returns
returns g c =
    let k = g.row.BITS in
    let a = c.args.v * 2 ^ (64 - k) % 2 ^ 64 in
    c.cast_unsigned.ensures
    ∙ ap (λ z. of_z w64 (to_z w64 (of_z w64 (shr_z (to_z w64 (of_z w64 z)) (2 ^ (64 - k)))))) c.cast_signed.ensures
    ∙ shift_is a (64 - k) (mod-lt _ (omega arith)) (omega arith)
    ∙ extend_by_shift k c.args.v c.requires.0 c.requires.1
