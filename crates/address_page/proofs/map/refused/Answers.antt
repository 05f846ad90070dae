-- `address_page::map::refused` meets its contract: what is wrong from an entry on is what is wrong with the map. Assumes nothing.
use mathlib.Core.Path.{◌≡◌, sym, ◌∙◌}
use Prim.Native.Nat.{◌+◌, ◌*◌}
use native.Mathlib.Omega.{arith}
use Rattle.address_page.proofs.Entries.{refused_length, refused_start, wrong_end, wrong_low, wrong_large, wrong_next, entry_at}
use Rattle.address_page.proofs.map.refused.Goals.{then-page-low-via-then-page-low, then-page-low-via-else-page-low+then-page-ge134217728}
use Rattle.address_page.proofs.map.refused.Goals as goal

pub returns-then-map-ne0 : goal.returns-then-map-ne0
returns-then-map-ne0 c = refused_length _ c.then-map-ne0.either

pub loop-page-init : goal.loop-page-init
loop-page-init c = refused_start _ c.if-map-ne0.false c.if-map-gt128.false

pub returns-then-page-low : goal.returns-then-page-low
returns-then-page-low c =
    let l = c.loop-page in
    let E = entry_at c.args.map.now c.as_chunks.result.0.now c.as_chunks.ensures.front c.as_chunks.ensures.front_len l.page-index c.loop-page-test.true in
    elim c.then-page-low.branch [
      | then-page-low-via-then-page-low w ↦ sym (l.invariant ∙ wrong_low _ _ l.low E.inside (rw E.number at w.if-page-low.true))
      | then-page-low-via-else-page-low+then-page-ge134217728 w ↦
          sym (l.invariant ∙ wrong_large _ _ l.low E.inside (rw E.number at w.if-page-low.false) (rw E.number at w.if-page-ge134217728.true))
    ]

pub loop-page-preserved : goal.loop-page-preserved
loop-page-preserved c =
    let l = c.loop-page in
    let E = entry_at c.args.map.now c.as_chunks.result.0.now c.as_chunks.ensures.front c.as_chunks.ensures.front_len l.page-index c.loop-page-test.true in
    let n : 2 * (l.page-index + 1) ≡ 2 * l.page-index + 2 = omega arith in
    rw (n, E.number) (l.invariant ∙ wrong_next _ _ l.low E.inside (rw E.number at c.if-page-low.false) (rw E.number at c.if-page-ge134217728.false))

pub returns : goal.returns
returns c = sym (c.loop-page.invariant ∙ wrong_end _ (2 * c.loop-page.page-index) _ (omega arith))
