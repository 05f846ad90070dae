-- `steps` meets its contract: what is left after each step, run, gives the whole; and what is remembered stays true. Assumes nothing.
use mathlib.Core.Path.{◌≡◌, refl, sym, ◌∙◌}
use Prim.Native.Nat.{◌<◌, ◌^◌, ◌≤◌}
use native.Mathlib.Omega.{arith}
use borrow.Author.Tests.{clash}
use lib.ListN.{length}
use Rattle.step_meaning.specs.declared.Source.TheVariants.{Fetch}
use Rattle.step_hart.proofs.Turns.{start, again}
use Rattle.step_effect.specs.Register.{reg_of}
use Rattle.run_pages.proofs.Kept.{empty}
use Rattle.run_form.specs.declared.Op.TheVariants as op
use Rattle.run_turn.specs.Glide.{hart_at}
use Rattle.run_fast.specs.Memo.{slot_of, entry_at, Read}
use Rattle.run_fast.specs.declared.Entry.{Entry}
use Rattle.run_fast.proofs.Entries.{blank}
use Rattle.run_fast.proofs.Fetched.{reading}
use Rattle.run_fast.proofs.Kept.{as_long, kept}
use Rattle.run_fast.proofs.Ready.{Ready, ready_read, is_ready, made_ready}
use Rattle.run_fast.proofs.Turning.{carried, summed, handled_on, handled_off, returned}
use Rattle.run_fast.proofs.steps.Goals as goal
use Rattle.run_fast.proofs.steps.Goals.{Joined-entries-k, then-entries-k+in-Some, else-entries-k, in-Add, in_default-matches}
use Rattle.run_fast.proofs.steps.Goals.{in-Some-act, in-None+else-not-handled}

-- at an entry that may be carried out
module _ (j : Joined-entries-k) where
  most : length j.loop-left.mem ≤ 2 ^ 20
  most = rw j.loop-left.invariant.0 j.requires.0

  ready : Ready j.if-entries-k.entries j.if-entries-k.frames j.loop-left.pc j.args.s j.loop-left.mem j.args.map.now
  ready =
      let l = j.loop-left in
      let s = j.args.s in
      let map = j.args.map.now in
      elim j.if-entries-k.branch [
        | then-entries-k+in-Some w ↦
            made_ready l.entries l.frames l.pc s l.mem map _ j.if-entries-k.entries j.if-entries-k.frames l.invariant.5 l.invariant.6 l.invariant.8
            (w.in-Some.ensures.read.0, w.in-Some.ensures.read.1, w.in-Some.ensures.read.2, w.entries-is ∙ w.in-Some.ensures.read.3, w.frames-is ∙ w.in-Some.ensures.read.4)
        | else-entries-k w ↦
            is_ready l.entries l.frames l.pc s l.mem map j.if-entries-k.entries j.if-entries-k.frames l.invariant.5 l.invariant.6 l.invariant.8
            w.if-entries-k.false w.entries-is w.frames-is
      ]

  abbrev e : Entry
  e = entry_at j.if-entries-k.entries (slot_of j.loop-left.pc)

  read : Read e j.args.s j.loop-left.mem j.args.map.now
  read = ready_read j.if-entries-k.entries j.if-entries-k.frames j.loop-left.pc j.args.s j.loop-left.mem j.args.map.now j.loop-left.invariant.4 ready

pub loop-left-init : goal.loop-left-init
loop-left-init c = (
  refl,
  c.requires.1,
  sym c.requires.2,
  c.requires.3,
  c.requires.4,
  refl,
  refl,
  empty c.args.s.control _ _,
  blank _ refl _ _ _ _,
  start _ _ _ _ _,
)

-- after a sum
pub loop-left-preserved-then-matches : goal.loop-left-preserved-then-matches
loop-left-preserved-then-matches c =
    let j = (goal.at.loop-left-preserved-then-matches c).Joined-entries-k in
    let i = c.loop-left in
    let p = ready j in
    let adds : (e j).op ≡ op.Add = elim c.match-matches.branch [
      | in-Add w ↦ w.in-Add.is
      | in_default-matches w ↦ absurd (clash (sym w.matches-is ∙ c.if-matches.true))
    ] in
    let (t, zero, z) = summed (e j) i.x i.w i.mem c.args.map.now c.args.s i.invariant.1 i.invariant.3 i.invariant.2 (read j)
    c.added-pc.ensures.small.0 c.added-pc.ensures.small.1 c.added-pc.result c.added-pc.new.x adds i.pc c.added-pc.ensures.sum p.2 i.invariant.4 in
    let n = again _ _ i.left Fetch (hart_at i.pc i.x i.w) i.mem _ i.invariant.9 c.loop-left-test.true t.0 in (
      i.invariant.0,
      t.3,
      t.4 ∙ i.invariant.2,
      zero,
      z,
      p.0,
      p.1,
      i.invariant.7,
      p.3,
      rw (t.1, t.2) at n,
    )

pub handled-requires : goal.handled-requires
handled-requires c =
    let j = (goal.at.handled-requires c).Joined-entries-k in
    rw c.act.auto.mem (reading (e j) c.args.s c.loop-left.mem c.args.map.now (read j)).0

pub returns-then-not-handled : goal.returns-then-not-handled
returns-then-not-handled c =
    let j = (goal.at.returns-then-not-handled c).Joined-entries-k in
    let i = c.loop-left in
    let same = c.in-None.ensures.does in
    let o = handled_off (e j) i.x i.w i.mem c.args.map.now c.args.s i.invariant.1 i.invariant.3 i.invariant.2 (read j) c.act.new.x c.act.new.w
    c.act.new.mem same.0 same.1 same.2 c.handled.result c.handled.new.x c.handled.new.w c.handled.ensures c.if-not-handled.true in
    let all = returned _ _ _ _ i.x i.w i.mem c.handled.new.x c.handled.new.w c.act.new.mem _ _ o.0 o.1 same.2 i.invariant.9
    (i.invariant.2 ∙ c.requires.2) in
    record { steps = all.0; words = all.1 }

pub loop-left-preserved : goal.loop-left-preserved
loop-left-preserved c =
    let j = (goal.at.loop-left-preserved c).Joined-entries-k in
    let i = c.loop-left in
    let p = ready j in
    let len = c.act.auto.mem in
    elim c.match-act.branch [
      | in-Some-act w ↦
          let did = w.in-Some-act.ensures.does in
          let hb : reg_of i.x (e j).rs2 < 2 ^ 64 = rw (← c.value-in-loop-left.ensures) c.value-in-loop-left.type_inv in
          let (t, zero, z) = carried (e j) i.x i.w i.mem c.args.map.now c.args.s i.invariant.1 i.invariant.3 i.invariant.2 (read j) hb (omega arith)
          w.in-Some-act.t.pc c.act.new.x c.act.new.w c.act.new.mem i.pc p.2 i.invariant.4 (rw (c.value.ensures, c.value-in-loop-left.ensures) at did.0) in
          let n = again _ _ i.left Fetch (hart_at i.pc i.x i.w) i.mem _ i.invariant.9 c.loop-left-test.true t.0 in
          rw (w.x-is, w.w-is, w.entries-is, w.pc-is) (
            len ∙ i.invariant.0,
            t.3,
            t.4 ∙ i.invariant.2,
            zero,
            z,
            as_long j.if-entries-k.entries w.empty.new.entries j.if-entries-k.frames w.in-Some-act.t.stored w.empty.ensures ∙ p.0,
            p.1,
            rw len c.act.ensures.pages,
            kept j.if-entries-k.entries w.empty.new.entries j.if-entries-k.frames c.args.s i.mem c.act.new.mem c.args.map.now
                w.in-Some-act.t.stored did.1 w.empty.ensures p.3,
            rw (t.1, t.2) at n,
          )
      | in-None+else-not-handled w ↦
          let same = w.in-None.ensures.does in
          let (t, zero) = handled_on (e j) i.x i.w i.mem c.args.map.now c.args.s i.invariant.1 i.invariant.3 i.invariant.2 (read j) c.act.new.x
          c.act.new.w c.act.new.mem same.0 same.1 same.2 w.handled.result w.handled.new.x w.handled.new.w w.handled.ensures i.pc p.2
          w.if-not-handled.false in
          let n = again _ _ i.left Fetch (hart_at i.pc i.x i.w) i.mem _ i.invariant.9 c.loop-left-test.true t.0 in
          rw (w.x-is, w.w-is, w.entries-is, w.pc-is) (
            len ∙ i.invariant.0,
            t.3,
            t.4 ∙ i.invariant.2,
            zero,
            rw w.sum-pc.ensures (omega (arith, i.invariant.4)),
            p.0,
            p.1,
            rw len c.act.ensures.pages,
            rw same.2 p.3,
            rw (w.sum-pc.ensures, same.2) (rw (t.1, t.2) at n),
          )
    ]
