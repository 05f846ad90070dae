-- `run_moves::data::shadow` meets its contract: a word an arm, which decodes to its access. Assumes nothing.
use borrow.Author.Tests.{not-false}
use mathlib.Core.Path.{◌∙◌}
use Rattle.decode.specs.Cfi.{zimop_of}
use Rattle.decode.specs.System.{system_of, decode_csr_of}
use Rattle.run_done.proofs.Ways.{does_as}
use Rattle.run_done.proofs.Parts.{push_on, pop_on}
use Rattle.run_moves.proofs.data.shadow.Goals as goal

pub returns-in-3457171571 : goal.returns-in-3457171571
unfolding system_of decode_csr_of zimop_of
returns-in-3457171571 c =
    rw c.in-3457171571.is (does_as c.push.result _ _ _ _ _ _ _ _
    (push_on _ _ _ _ _ _ _ (not-false _ c.if-not-k.false) 1 ∙ rw c.reg.ensures)
    (c.push.ensures _))

pub returns-in-3461365875 : goal.returns-in-3461365875
unfolding system_of decode_csr_of zimop_of
returns-in-3461365875 c =
    rw c.in-3461365875.is (does_as c.push-in-3461365875.result _ _ _ _ _ _ _ _
    (push_on _ _ _ _ _ _ _ (not-false _ c.if-not-k.false) 5 ∙ rw c.reg-in-3461365875.ensures)
    (c.push-in-3461365875.ensures _))

pub returns-in-3451961459 : goal.returns-in-3451961459
unfolding system_of decode_csr_of zimop_of
returns-in-3451961459 c =
    rw c.in-3451961459.is (does_as c.pop.result _ _ _ _ _ _ _ _
    (pop_on _ _ _ _ _ _ _ (not-false _ c.if-not-k.false) 1 ∙ rw c.reg-in-3451961459.ensures) (c.pop.ensures _))

pub returns-in-3452092531 : goal.returns-in-3452092531
unfolding system_of decode_csr_of zimop_of
returns-in-3452092531 c =
    rw c.in-3452092531.is (does_as c.pop-in-3452092531.result _ _ _ _ _ _ _ _
    (pop_on _ _ _ _ _ _ _ (not-false _ c.if-not-k.false) 5 ∙ rw c.reg-in-3452092531.ensures) (c.pop-in-3452092531.ensures _))
