-- `intel_hex::scan::next` meets its contract: a good line is as long as its count says. Assumes nothing.
use mathlib.Core.Path.{◌≡◌, sym, ap}
use Prim.Native.Nat.{ℕ, ◌+◌, ◌*◌}
use native.Mathlib.Omega.{arith}
use lib.Seq.{length-take-le}
use Rattle.intel_hex.proofs.Begins.{told_count, tail_is, within, fits, line_is, ends, begins_with}
use Rattle.intel_hex.proofs.scan.next.Goals as goal
use Rattle.intel_hex.proofs.scan.next.Goals.{After-at}

pub at-requires : goal.at-requires
at-requires c = let n = within c.args.text.now c.requires.1 in let l = c.requires.1.long in omega arith

-- where the line ends, as the code has it
stop_at : (c : After-at) → 11 + 2 * c.at.result ≡ 11 + 2 * told_count c.args.text.now
stop_at c = ap (λ (n : ℕ). 11 + 2 * n) c.at.ensures.0

pub slice_bounds-line-end : goal.slice_bounds-line-end
slice_bounds-line-end c =
    sym (length-take-le _ c.args.text.now (fits c.args.text.now c.requires.1 _ (stop_at (goal.at.slice_bounds-line-end c).After-at)))

pub slice_bounds-end-count : goal.slice_bounds-end-count
slice_bounds-end-count c = fits c.args.text.now c.requires.1 _ (stop_at (goal.at.slice_bounds-end-count c).After-at)

pub slice_bounds-end-start : goal.slice_bounds-end-start
slice_bounds-end-start c = fits c.args.text.now c.requires.1 _ (stop_at (goal.at.slice_bounds-end-start c).After-at)

pub unwrap-requires : goal.unwrap-requires
unwrap-requires c =
    ends c.args.text.now c.requires.1 _ (stop_at (goal.at.unwrap-requires c).After-at) c.end.result
    (rw (tail_is c.args.text.now (11 + 2 * c.at.result)) at c.end.ensures)

pub invariant_of-line : goal.invariant_of-line
invariant_of-line c = record { framed = rw (line_is c.args.text.now c.requires.1 _ (stop_at (goal.at.invariant_of-line c).After-at)) c.requires.1 }

pub returns : goal.returns
returns c =
    let u = c.args.text.now in
    begins_with u c.requires.1 _ (stop_at (goal.at.returns c).After-at) _
    (rw (tail_is u (11 + 2 * c.at.result)) at (rw c.unwrap.ensures at c.end.ensures))
