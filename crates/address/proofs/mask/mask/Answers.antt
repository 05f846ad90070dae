-- `address::mask::mask` meets its contract, by the laws of `proofs/Masking.antt` over the number of bits. Assumes nothing.
use mathlib.Core.Bool.{true, false}
use mathlib.Core.Path.{◌≡◌}
use native.Mathlib.Omega.{arith}
use Rattle.address.proofs.Masking.{mask_none, mask_copied, mask_clear, mask_bare}
use Rattle.address.proofs.mask.mask.Goals.{else-paged-via-then-paged+else-a-power-eq1, else-paged-via-else-paged}
use Rattle.address.proofs.mask.mask.Goals as goal

pub returns-then-p-eq0 : goal.returns-then-p-eq0
returns-then-p-eq0 c = mask_none _ _ _ (omega arith) c.if-p-eq0.true

-- under Sv39, and bit 63 - p is set
pub returns-then-a-power-eq1 : goal.returns-then-a-power-eq1
returns-then-a-power-eq1 c =
    let paged : c.args.paged ≡ true = c.if-paged.true in
    rw (paged) (mask_copied _ _ _ c.power-m.ensures.0 _ c.power.ensures.0 c.if-a-power-eq1.true)

-- it is clear, or in Bare
pub returns : goal.returns
returns c =
    elim c.else-paged.branch [
      | else-paged-via-then-paged+else-a-power-eq1 w ↦
          let paged : c.args.paged ≡ true = w.if-paged.true in
          rw (paged) (mask_clear _ _ _ c.power-m.ensures.0 _ w.power.ensures.0 w.if-a-power-eq1.false)
      | else-paged-via-else-paged w ↦
          let bare : c.args.paged ≡ false = w.if-paged.false in
          rw (bare) (mask_bare _ _ _ c.power-m.ensures.0)
    ]
