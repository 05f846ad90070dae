-- `apply::csr` meets its contract. Assumes nothing.
use mathlib.Core.Path.{refl, sym, ap, ◌∙◌}
use Rattle.csr_words.specs.Words.{csr_slot_of, PC}
use Rattle.csr_words.specs.Setting.{switches}
use Rattle.csr_words.proofs.Stored.{setting_kept}
use Rattle.step_hart.specs.Step.{csr_of}
use Rattle.step_hart.proofs.apply.csr.Goals as goal

pub returns-then-writes : goal.returns-then-writes
unfolding csr_of
returns-then-writes c =
    let w = c.args.w.now in
    let n = c.args.n in
    rw (c.put.ensures, c.write.ensures, c.merged.ensures, c.shown-old.ensures, c.if-writes.true) record {
      registers = refl;
      words = refl;
      setting = λ z.
          setting_kept PC _ _ refl
          ∙ setting_kept (csr_slot_of n) _ w (ap switches (sym c.slot.ensures.0) ∙ sym c.switched.ensures ∙ z);
    }

pub returns : goal.returns
unfolding csr_of
returns c =
    rw (c.put.ensures, c.shown-old.ensures, c.if-writes.false) record {
      registers = refl;
      words = refl;
      setting = λ z. setting_kept PC _ _ refl;
    }
