-- `intel_hex::store::fill` meets its contract: what is left to be stored, stored, gives the whole. Assumes nothing.
use mathlib.Core.Path.{◌∙◌}
use lib.ListN.{length-set}
use native.Mathlib.Omega.{arith}
use Rattle.intel_hex.proofs.Good.{fill_turn, fill_end}
use Rattle.intel_hex.proofs.store.fill.Goals as goal

pub loop-k-preserved : goal.loop-k-preserved
loop-k-preserved c =
    let l = c.args.line.now in record {
      size = simp length-set c.loop-k.invariant.size;
      whole = fill_turn l.text.now l.framed.long c.loop-k.mem c.args.to c.loop-k.k c.byte.result (omega arith) c.byte.ensures ∙ c.loop-k.invariant.whole;
    }

pub returns : goal.returns
returns c =
    let l = c.args.line.now in
    fill_end l.text.now l.framed.long c.loop-k.mem _ c.loop-k.k (omega arith) ∙ c.loop-k.invariant.whole
