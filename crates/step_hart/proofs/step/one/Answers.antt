-- `step::one` meets its contract. Assumes nothing.
use mathlib.Core.Path.{◌≡◌, sym}
use Rattle.step_meaning.proofs.Stays.{effect_stays}
use Rattle.step_effect.proofs.Stays.{fits}
use Rattle.step_hart.specs.Hart.{hart}
use Rattle.step_hart.specs.Step.{plan_of, step_from}
use Rattle.step_hart.proofs.step.one.Goals as goal

pub apply-requires : goal.apply-requires
apply-requires c = fits _ _ _ (sym c.plan-e.ensures) (effect_stays _ _ _ _ _ _ _ _)

pub returns : goal.returns
unfolding step_from
returns c =
    let p = c.plan-e in
    let a = c.args in
    let planned : plan_of a.source (hart a.x.now a.w.now) a.mem.now a.map.now ≡ p.result = rw (← c.requires.1) (sym p.ensures) in
    rw planned c.apply.ensures
