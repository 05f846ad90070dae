-- `run_fast::of_word` meets its contract: a privileged word is left, and any other has the form of its instruction. Assumes nothing.
use mathlib.Core.Path.{sym, ◌∙◌, subst}
use Rattle.isa.specs.declared.Instruction.{Instruction}
use Rattle.run_form.specs.Form.{Means}
use Rattle.run_fast.proofs.of_word.Goals as goal

pub returns-clause-means : goal.returns-clause-means
returns-clause-means c =
    let a = c.args in
    let d = c.plain.ensures (sym c.privileged.ensures ∙ c.if-privileged.false) in
    subst (λ (j : Instruction). Means c.formed.result j a.w a.pc a.s) d (c.formed.ensures.means a.w)
