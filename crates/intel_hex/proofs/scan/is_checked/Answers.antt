-- `intel_hex::scan::is_checked` meets its contract: the sum of all pairs tells whether each is one. Assumes nothing.
use mathlib.Core.Path.{◌≡◌, ap, ◌∙◌}
use native.Mathlib.Nat.{zero-add}
use native.Mathlib.Omega.{arith}
use borrow.Author.Tests.{lt-ltb, le-ltb}
use Rattle.intel_hex.proofs.Pairs.{pair_weights, weights, chunk_weights, next_pair, all_weighed, summed}
use Rattle.intel_hex.proofs.scan.is_checked.Goals as goal

pub loop-high-init : goal.loop-high-init
loop-high-init c = record {
  few = omega (arith, c.as_chunks.ensures.front_len);
  small = omega arith;
  whole = rw zero-add (ap pair_weights c.as_chunks.ensures.front ∙ chunk_weights c.args.digits.now);
}

pub loop-high-preserved : goal.loop-high-preserved
loop-high-preserved c =
    let n = next_pair c.as_chunks.result.0.now c.loop-high.high-index c.loop-high-test.true in record {
      few = c.loop-high.invariant.few;
      small = omega arith;
      whole = omega (arith, n, c.pair-sum.ensures.0, c.loop-high.invariant.whole);
    }

pub returns-then-sum-lt1048576 : goal.returns-then-sum-lt1048576
returns-then-sum-lt1048576 c =
    let e = all_weighed c.as_chunks.result.0.now c.loop-high.high-index (omega arith) in
    let s : c.loop-high.sum ≡ weights c.args.digits.now = omega (arith, e, c.loop-high.invariant.whole) in
    rw (lt-ltb c.loop-high.sum 0x10_0000 c.if-sum-lt1048576.true) at (summed c.args.digits.now c.loop-high.sum c.requires.0 c.requires.1 s)

pub returns-else-sum-lt1048576 : goal.returns-else-sum-lt1048576
returns-else-sum-lt1048576 c =
    let e = all_weighed c.as_chunks.result.0.now c.loop-high.high-index (omega arith) in
    let s : c.loop-high.sum ≡ weights c.args.digits.now = omega (arith, e, c.loop-high.invariant.whole) in
    let l = le-ltb c.loop-high.sum 0x10_0000 c.if-sum-lt1048576.false in
    l ∙ rw l at (summed c.args.digits.now c.loop-high.sum c.requires.0 c.requires.1 s)
