-- `intel_hex::store::store` meets its contract: memory so far, and the lines that are left, give the whole. Assumes nothing.
use mathlib.Core.Bool.{true}
use mathlib.Core.Path.{◌≡◌, refl, sym, ap, ◌∙◌}
use lib.ListN.{length}
use Rattle.intel_hex.specs.Lines.{lines_of}
use Rattle.intel_hex.specs.Line.{good}
use Rattle.intel_hex.specs.Load.{upper_after_of, stored}
use Rattle.intel_hex.specs.Inner.{all_good}
use Rattle.intel_hex.proofs.Good.{well_formed_lem, framed}
use Rattle.intel_hex.proofs.Lines.{some, some_left, none_left}
use Rattle.intel_hex.proofs.Turns.{stored_line, all_line}
use Rattle.intel_hex.proofs.store.store.Goals as goal
use Rattle.intel_hex.proofs.store.store.Goals.{After-next}

pub next-requires : goal.next-requires
next-requires c =
    let m = length c.args.mem.now in
    let n = some_left c.loop-rest.rest.now c.loop-rest-test.ensures in
    (n, framed m c.loop-rest.upper _ (all_line m c.loop-rest.upper (some c.loop-rest.rest.now n) c.loop-rest.invariant.good).0)

-- the line is good, and so are those behind it
goods : (c : After-next) → (good (length c.args.mem.now) c.loop-rest.upper c.next.result.0.text.now ≡ true)
    × (all_good (length c.args.mem.now) (upper_after_of c.loop-rest.upper c.next.result.0.text.now) (lines_of c.next.result.1.now) ≡ true)
goods c = all_line (length c.args.mem.now) c.loop-rest.upper c.next.ensures.lines c.loop-rest.invariant.good

pub put-requires : goal.put-requires
put-requires c = rw c.loop-rest.invariant.size (goods (goal.at.put-requires c).After-next).0

pub upper_after-upper-requires : goal.upper_after-upper-requires
upper_after-upper-requires c = well_formed_lem _ _ _ (goods (goal.at.upper_after-upper-requires c).After-next).0

pub loop-rest-preserved : goal.loop-rest-preserved
loop-rest-preserved c =
    let m = length c.args.mem.now in record {
      size = c.put.auto.mem ∙ c.loop-rest.invariant.size;
      good = rw c.upper_after-upper.ensures (goods (goal.at.loop-rest-preserved c).After-next).1;
      whole = c.loop-rest.invariant.whole ∙ stored_line m c.loop-rest.upper c.next.ensures.lines c.loop-rest.mem
          ∙ rw (← c.upper_after-upper.ensures, ← c.put.ensures) refl;
    }

pub returns : goal.returns
unfolding stored
returns c = sym (c.loop-rest.invariant.whole ∙ ap (stored c.loop-rest.upper c.loop-rest.mem) (none_left c.loop-rest.rest.now c.loop-rest-test.ensures))
