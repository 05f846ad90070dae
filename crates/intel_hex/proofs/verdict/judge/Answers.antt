-- `intel_hex::verdict::judge` meets its contract: the verdict is that of the lines that are left, read with what the lines before said. Assumes nothing.
use mathlib.Core.Path.{refl, sym, ◌∙◌}
use Prim.Native.Nat.{◌+◌}
use native.Mathlib.Omega.{arith}
use borrow.Author.Tests.{eqb-true, eqb-false}
use Rattle.intel_hex.proofs.Good.{well_formed_lem}
use Rattle.intel_hex.proofs.Lines.{some, some_left, none_left, follows, nothing_follows}
use Rattle.intel_hex.proofs.Turns.{no_end, no_more, bad_verdict, good_verdict, bad_line, good_line, end_line, start_line}
use Rattle.intel_hex.proofs.verdict.judge.Goals as goal

-- no line, or none that is good
pub returns-in_default : goal.returns-in_default
returns-in_default c =
    let n = some_left c.loop-rest.rest.now c.loop-rest-test.ensures in
    bad_verdict _ _ c.loop-rest.n (c.loop-rest.invariant.bad ∙ bad_line c.args.len c.loop-rest.upper (some c.loop-rest.rest.now n) c.loop-rest.n
    (c.in_default.ensures c.args.len c.loop-rest.upper))

pub returns-then-not-is_good : goal.returns-then-not-is_good
returns-then-not-is_good c =
    bad_verdict _ _ c.loop-rest.n (c.loop-rest.invariant.bad ∙ bad_line c.args.len c.loop-rest.upper c.in-Some.ensures.lines c.loop-rest.n
    (sym c.if-not-is_good.ensures))

-- a good line
pub upper_after-upper-requires : goal.upper_after-upper-requires
upper_after-upper-requires c = well_formed_lem c.args.len c.loop-rest.upper _ (sym c.if-not-is_good.ensures)

pub start_after-start-requires : goal.start_after-start-requires
start_after-start-requires c = well_formed_lem c.args.len c.loop-rest.upper _ (sym c.if-not-is_good.ensures)

-- the end record
pub returns-then-not-is_empty : goal.returns-then-not-is_empty
returns-then-not-is_empty c =
    bad_verdict _ _ (c.loop-rest.n + 1) (c.loop-rest.invariant.bad
    ∙ end_line c.args.len c.loop-rest.upper c.in-Some.ensures.lines c.loop-rest.n (sym c.if-not-is_good.ensures) (eqb-true _ 1 (sym c.if-is.ensures))
    ∙ follows c.in-Some.behind.now (c.loop-rest.n + 1) c.if-not-is_empty.ensures)

pub returns-then-is : goal.returns-then-is
returns-then-is c =
    good_verdict _ c.start_after-start.result _
    (c.loop-rest.invariant.bad
    ∙ end_line c.args.len c.loop-rest.upper c.in-Some.ensures.lines c.loop-rest.n (sym c.if-not-is_good.ensures) (eqb-true _ 1 (sym c.if-is.ensures))
    ∙ nothing_follows c.in-Some.behind.now (c.loop-rest.n + 1) c.if-not-is_empty.ensures)
    (c.loop-rest.invariant.start ∙ start_line c.args.len c.loop-rest.upper c.in-Some.ensures.lines c.loop-rest.start
    ∙ no_more _ (none_left c.in-Some.behind.now c.if-not-is_empty.ensures) ∙ sym c.start_after-start.ensures)

-- a good line before it
pub loop-rest-preserved : goal.loop-rest-preserved
loop-rest-preserved c =
    let l = c.in-Some.ensures.lines in
    let n = c.in-Some.ensures.shorter in record {
      counted = omega arith;
      bad = c.loop-rest.invariant.bad
          ∙ good_line c.args.len c.loop-rest.upper l c.loop-rest.n (sym c.if-not-is_good.ensures) (eqb-false _ 1 (sym c.if-is.ensures))
          ∙ rw (← c.upper_after-upper.ensures) refl;
      start = c.loop-rest.invariant.start ∙ start_line c.args.len c.loop-rest.upper l c.loop-rest.start ∙ rw (← c.start_after-start.ensures) refl;
    }

-- nothing ended the file
pub returns : goal.returns
returns c =
    bad_verdict _ _ c.loop-rest.n (c.loop-rest.invariant.bad
    ∙ no_end c.args.len c.loop-rest.upper c.loop-rest.n (none_left c.loop-rest.rest.now c.loop-rest-test.ensures))
