-- `run_form::access` meets its contract: an access an arm. Assumes nothing.
use mathlib.Core.Path.{refl, ◌∙◌}
use Rattle.word.proofs.Choices.{first, second}
use Rattle.step_transfer.specs.declared.access.Gate.TheVariants.{Open, Off}
use Rattle.run_form.proofs.Laws.{off_means, open_means, load_means}
use Rattle.run_form.proofs.access.Goals as goal

pub returns-in-Load : goal.returns-in-Load
returns-in-Load c word pc s q = load_means word pc s c.make.ensures c.in-Load.is c.load.ensures refl

pub returns-in-Store : goal.returns-in-Store
returns-in-Store c word pc s q = open_means word pc s c.make-in-Store.ensures c.in-Store.is c.store.ensures refl

pub returns-in-Push : goal.returns-in-Push
returns-in-Push c word pc s q =
    open_means word pc s c.make-in-Push.ensures c.in-Push.is refl (first s.shadow Open Off (q ∙ c.if-on.true))

pub returns-in-Pop : goal.returns-in-Pop
returns-in-Pop c word pc s q =
    open_means word pc s c.make-in-Pop.ensures c.in-Pop.is refl (first s.shadow Open Off (q ∙ c.if-on-2.true))

pub returns-in-Push-2 : goal.returns-in-Push-2
returns-in-Push-2 c word pc s q =
    off_means word pc s c.zero.ensures _ _ _ c.in-Push.is (second s.shadow Open Off (q ∙ c.if-on.false))

pub returns-in-Pop-2 : goal.returns-in-Pop-2
returns-in-Pop-2 c word pc s q =
    off_means word pc s c.zero-in-Pop-2.ensures _ _ _ c.in-Pop.is (second s.shadow Open Off (q ∙ c.if-on-2.false))
