-- `address_page::map::lookup` meets its contract: the entries from one pair on answer for the map. Assumes nothing.
use mathlib.Core.Path.{◌≡◌, sym, ◌∙◌, ap}
use Prim.Native.Nat.{ℕ, ◌+◌, ◌*◌}
use native.Mathlib.Omega.{arith}
use Rattle.std.specs.Prelude.{Some}
use Rattle.address_page.proofs.Entries.{pair_at, lookup_end, lookup_hit, lookup_miss, lookup_rest}
use Rattle.address_page.proofs.map.lookup.Goals as goal

pub returns-then-first-page : goal.returns-then-first-page
returns-then-first-page c =
    let l = c.loop-first in
    let map = c.args.map.now in
    let P = pair_at map c.as_chunks.result.0.now c.as_chunks.ensures.front c.as_chunks.ensures.front_len l.first-index c.loop-first-test.true in
    ap (λ (n : ℕ). Some n) P.first_leaf
    ∙ sym (l.invariant ∙ lookup_hit map (4 * l.first-index) c.args.page (omega (arith, P.inside)) (sym P.first ∙ c.if-first-page.true))

pub returns-then-second-page : goal.returns-then-second-page
returns-then-second-page c =
    let l = c.loop-first in
    let map = c.args.map.now in
    let P = pair_at map c.as_chunks.result.0.now c.as_chunks.ensures.front c.as_chunks.ensures.front_len l.first-index c.loop-first-test.true in
    ap (λ (n : ℕ). Some n) P.second_leaf
    ∙ sym (l.invariant
    ∙ lookup_miss map (4 * l.first-index) c.args.page (omega (arith, P.inside)) (λ e. c.if-first-page.false (P.first ∙ e))
    ∙ lookup_hit map (4 * l.first-index + 2) c.args.page (omega (arith, P.inside)) (sym P.second ∙ c.if-second-page.true))

pub loop-first-preserved : goal.loop-first-preserved
loop-first-preserved c =
    let l = c.loop-first in
    let map = c.args.map.now in
    let P = pair_at map c.as_chunks.result.0.now c.as_chunks.ensures.front c.as_chunks.ensures.front_len l.first-index c.loop-first-test.true in
    let n : 4 * (l.first-index + 1) ≡ 4 * l.first-index + 2 + 2 = omega arith in
    rw n (l.invariant
    ∙ lookup_miss map (4 * l.first-index) c.args.page (omega (arith, P.inside)) (λ e. c.if-first-page.false (P.first ∙ e))
    ∙ lookup_miss map (4 * l.first-index + 2) c.args.page (omega (arith, P.inside)) (λ e. c.if-second-page.false (P.second ∙ e)))

pub returns-in-len2-up : goal.returns-in-len2-up
returns-in-len2-up c =
    sym (lookup_rest _ _ c.loop-first.first-index _ c.as_chunks.ensures.back (omega arith) c.loop-first.invariant
    ∙ lookup_hit _ 0 _ c.in-len2-up.len_at_least c.if-number-page.true)

pub returns-in_default : goal.returns-in_default
returns-in_default c =
    sym (lookup_rest _ _ c.loop-first.first-index _ c.as_chunks.ensures.back (omega arith) c.loop-first.invariant
    ∙ lookup_end _ 0 _ c.in_default.len_below)

pub returns-in_default-2 : goal.returns-in_default-2
returns-in_default-2 c =
    sym (lookup_rest _ _ c.loop-first.first-index _ c.as_chunks.ensures.back (omega arith) c.loop-first.invariant
    ∙ lookup_miss _ 0 _ c.in-len2-up.len_at_least c.if-number-page.false
    ∙ lookup_end c.as_chunks.result.1.now 2 _ (omega (arith, c.as_chunks.ensures.back_len)))
