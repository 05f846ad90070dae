-- `memory::refused` meets its contract: the tests in refusal 2's order. Assumes nothing.
use Rattle.std.proofs.Common.{◌≡◌, ◌∙◌, ◌%◌, true, false, not, sym}
use lib.Dec.{eqb}
use borrow.Author.Tests.{eq-eqb, ne_eqb, eqb-false}
use Rattle.memory.specs.Refusal.{memory_refused_of}
use Rattle.memory.proofs.refused.Goals as goal
use Rattle.memory.proofs.refused.Goals.{then-len-eq0, else-len-eq0}

pub returns-then-len-ne0 : goal.returns-then-len-ne0
unfolding memory_refused_of
returns-then-len-ne0 c =
    let len = c.args.len in
    let is = c.if-len-ne0.true in
    let zero_or_odd = c.if-len-eq0.branch in
    elim zero_or_odd [
      | then-len-eq0 w ↦ rw (is, eq-eqb len 0 w.if-len-eq0.true)
      | else-len-eq0 odd ↦
          (let e : not (eqb (len % 4096) 0) ≡ true = sym odd.value-is ∙ is in rw (is, ne_eqb len 0 odd.if-len-eq0.false, e))
    ]

pub returns-else-len-ne0 : goal.returns-else-len-ne0
unfolding memory_refused_of
returns-else-len-ne0 c =
    let len = c.args.len in
    let is = c.if-len-ne0.false in
    let neither = c.if-len-eq0.branch in
    elim neither [
      | then-len-eq0 w ↦ absurd (eqb-false len 0 (sym w.value-is ∙ is) w.if-len-eq0.true)
      | else-len-eq0 even ↦
          (let e : not (eqb (len % 4096) 0) ≡ false = sym even.value-is ∙ is in rw (ne_eqb len 0 even.if-len-eq0.false, e))
    ]
