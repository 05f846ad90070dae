-- `step_transfer::access::access` meets its contract: whether it is on, its place, and what it does there. Assumes nothing.
use mathlib.Core.Path.{sym, ◌∙◌}
use Rattle.address_place.proofs.Reach.{place_within}
use Rattle.step_transfer.specs.Access.{access_of, passed_of}
use Rattle.step_transfer.proofs.access.access.Goals as goal

pub at-requires : goal.at-requires
at-requires c = λ q e. rw (← c.width.ensures) (place_within _ _ _ _ _ _ q (sym c.translate-p.ensures ∙ e))

pub returns-in-Open : goal.returns-in-Open
unfolding access_of passed_of
returns-in-Open c =
    rw (
      c.at.ensures,
      c.translate-p.ensures,
      c.width.ensures,
      c.kind.ensures,
      c.address-to.ensures,
      c.sum.ensures,
      sym c.gate_of.ensures ∙ c.in-Open.is,
    )

pub returns-in-Off : goal.returns-in-Off
unfolding access_of passed_of
returns-in-Off c = rw (sym c.gate_of.ensures ∙ c.in-Off.is)

pub returns-in-Illegal : goal.returns-in-Illegal
unfolding access_of passed_of
returns-in-Illegal c = rw (c.illegal.ensures, sym c.gate_of.ensures ∙ c.in-Illegal.is)
