-- `intel_hex::scan::first` meets its contract: no colon, no count, no room or end where the count says, no right pairs, or a line. Assumes nothing.
use mathlib.Core.Bool.{true, false}
use mathlib.Core.Path.{◌≡◌, sym, ap, ◌∙◌}
use Prim.Native.Nat.{ℕ, ◌+◌, ◌*◌}
use borrow.Author.Tests.{eqb-true}
use lib.ListN.{length}
use native.Mathlib.Omega.{arith}
use Rattle.word.proofs.Bools.{both}
use Rattle.intel_hex.proofs.Begins.{told_count, tail_is, within, count_most, colon_is, fits, over, pairs_good, not_good, tested, has_frame}
use Rattle.intel_hex.proofs.scan.first.Goals as goal
use Rattle.intel_hex.proofs.scan.first.Goals.{After-at-count, then-text-ne58-via-then-text-ne58, then-text-ne58-via-else-text-ne58+then-text-lt11}

pub returns-then-text-ne58 : goal.returns-then-text-ne58
returns-then-text-ne58 c =
    let u = c.args.text.now in
    elim c.then-text-ne58.branch [
      | then-text-ne58-via-then-text-ne58 w ↦ not_good u (λ f. w.if-text-ne58.true (colon_is u f))
      | then-text-ne58-via-else-text-ne58+then-text-lt11 w ↦ not_good u (λ f. let n = within u f in let m = f.long in absurd (omega arith))
    ]

pub returns-then-count-gt255 : goal.returns-then-count-gt255
returns-then-count-gt255 c = not_good c.args.text.now (λ f. let n = count_most c.args.text.now f in absurd (omega (arith, n, c.at-count.ensures.0)))

-- where the line ends, as the code has it
stop_at : (c : After-at-count) → 11 + 2 * c.at-count.result ≡ 11 + 2 * told_count c.args.text.now
stop_at c = ap (λ (n : ℕ). 11 + 2 * n) c.at-count.ensures.0

pub returns-then-text-stop : goal.returns-then-text-stop
returns-then-text-stop c =
    let e = stop_at (goal.at.returns-then-text-stop c).After-at-count in
    not_good c.args.text.now (λ f. let n = fits c.args.text.now f _ e in absurd (omega arith))

pub returns-in_err-rest : goal.returns-in_err-rest
returns-in_err-rest c =
    let u = c.args.text.now in
    let e = stop_at (goal.at.returns-in_err-rest c).After-at-count in
    let h = rw (tail_is u (11 + 2 * c.at-count.result)) at c.in_err-rest.ensures in
    rw c.from_residual.ensures (not_good u (λ f. let n = ap length (over u f _ e) in absurd (omega arith)))

pub returns-then-not-is_checked : goal.returns-then-not-is_checked
returns-then-not-is_checked c =
    let e = stop_at (goal.at.returns-then-not-is_checked c).After-at-count in
    not_good c.args.text.now (λ f. let z : true ≡ false = sym (pairs_good c.args.text.now f _ e) ∙ sym c.is_checked.ensures ∙ c.if-not-is_checked.true in cc)

pub invariant_of-result : goal.invariant_of-result
invariant_of-result c =
    let u = c.args.text.now in
    let e = stop_at (goal.at.invariant_of-result c).After-at-count in
    let (h, z) = both _ _ (sym c.is_checked.ensures ∙ c.if-not-is_checked.false) in
    record { framed = has_frame u _ e (omega arith) c.if-text-ne58.false h (eqb-true _ 0 z) }

pub returns : goal.returns
returns c =
    let u = c.args.text.now in
    let e = stop_at (goal.at.returns c).After-at-count in
    let (h, z) = both _ _ (sym c.is_checked.ensures ∙ c.if-not-is_checked.false) in
    tested u _ e (omega arith) c.if-text-ne58.false h _ (rw (tail_is u (11 + 2 * c.at-count.result)) at c.in_ok-rest.ensures)
