-- `address::mask::transform` meets its contract. Assumes nothing.
use mathlib.Core.Path.{sym, ◌∙◌}
use native.Mathlib.Omega.{arith}
use Rattle.address.specs.Mask.{transformed_of}
use Rattle.address.proofs.Masking.{transform_none, transform_unmasked}
use Rattle.address.proofs.mask.transform.Goals.{then-pmm-eq0-via-then-pmm-eq0, then-pmm-eq0-via-else-pmm-eq0+then-unmasked}
use Rattle.address.proofs.mask.transform.Goals as goal

-- no bit is masked, or this access is not
pub returns-then-pmm-eq0 : goal.returns-then-pmm-eq0
returns-then-pmm-eq0 c =
    let b = c.args in
    elim c.then-pmm-eq0.branch [
      | then-pmm-eq0-via-then-pmm-eq0 w ↦ transform_none _ _ _ _ (omega arith) (sym c.pmm-pmm.ensures ∙ w.if-pmm-eq0.true)
      | then-pmm-eq0-via-else-pmm-eq0+then-unmasked w ↦ transform_unmasked b.c b.m b.k b.a.0 (sym w.unmasked.ensures ∙ w.if-unmasked.true)
    ]

pub returns : goal.returns
unfolding transformed_of
returns c =
    rw (
      sym c.unmasked.ensures ∙ c.if-unmasked.false,
      ← c.pmm-pmm.ensures,
      ← c.pmlen.ensures.0,
      ← c.paged.ensures,
    )
    c.mask.ensures
