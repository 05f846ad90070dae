-- `run_glide` meets its contract: no step, or those of the loop. Assumes nothing.
use mathlib.Core.Path.{refl, ◌∙◌}
use lib.Seq.{set-get_or}
use Rattle.csr_words.specs.Words.{PC}
use Rattle.csr_words.proofs.Stored.{setting_kept}
use Rattle.run_glide.proofs.glide.Goals as goal

pub returns : goal.returns
returns c =
    let w = c.args.w.now in record {
      steps = rw (c.waits.ensures c.if-waits.false).0 (rw (set-get_or w PC 0) at c.steps-g.ensures.steps);
      setting = setting_kept PC c.steps-g.result.pc c.steps-g.new.w refl ∙ c.steps-g.ensures.words.1;
    }
