-- `word::sign::low` meets its contract: the digits below the top ones that were shifted out.
use Rattle.std.proofs.Common.{◌+◌, ◌-◌, ◌*◌, ◌^◌, ◌≡◌, ◌∙◌, ap, ◌%◌, arith}
use lib.Pow.{field, shl-shr}
use Rattle.word.proofs.sign.low.Goals as goal

pub returns : goal.returns
returns g c =
    let k = g.row.BITS in
    let e : k + (64 - k) ≡ 64 = omega (arith, c.requires) in
    rw e at (field (c.args.v * 2 ^ (64 - k)) k (64 - k)) ∙ ap (λ y. y % 2 ^ k) (shl-shr c.args.v (64 - k))
