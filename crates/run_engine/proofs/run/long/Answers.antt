-- `run::long` meets its contract: what is left after each turn, run, gives the whole. Assumes nothing.
use mathlib.Core.Bool.{false}
use mathlib.Core.Path.{◌≡◌, refl, sym, ◌∙◌}
use Prim.Native.Nat.{ℕ, ◌-◌, ◌<◌, ◌≤◌}
use lib.ListN.{length}
use native.Mathlib.Omega.{arith}
use Rattle.step_meaning.specs.declared.Source.TheVariants.{Fetch}
use Rattle.step_hart.specs.Hart.{hart}
use Rattle.step_hart.specs.Run.{Run, run_from, Midway}
use Rattle.step_hart.specs.declared.Hart.{Hart}
use Rattle.std.specs.Option.{is_some}
use Rattle.step_hart.proofs.Turns.{joined, spent}
use Rattle.run_engine.proofs.Parts.{Tells, told_within, passes, ends}
use Rattle.run_engine.proofs.run.long.Goals as goal
use Rattle.run_engine.proofs.run.long.Goals.{After-short-part, At-loop-left}

-- where a turn begins: memory's length, and what is left of the whole
module _ (l : At-loop-left) where
  abbrev whole : Run
  whole = let a = l.args in run_from Fetch a.budget (hart a.x.now a.w.now) a.mem.now a.map.now

  abbrev stands : Hart
  stands = hart l.loop-left.x l.loop-left.w

  len : length l.loop-left.mem ≡ length l.args.mem.now
  len = l.loop-left.invariant.0 ∙ l.fast-left.auto.mem

  midway : Midway whole l.args.budget l.loop-left.left Fetch stands l.loop-left.mem l.args.map.now
  midway =
      joined _ _ l.fast-left.result _ Fetch (hart l.fast-left.new.x l.fast-left.new.w) stands l.fast-left.new.mem l.loop-left.mem _
      l.fast-left.ensures l.loop-left.invariant.1

-- after a short run: how many steps it was given, memory's length, and what is left
module _ (o : After-short-part) where
  abbrev steps : ℕ
  steps = o.min-n.result

  le : steps ≤ o.loop-left.left
  le = omega arith

  some : 0 < steps
  some = omega (arith, o.loop-left-test.true, o.pause-wait.ensures)

  abbrev from : Hart
  from = hart o.loop-left.x o.loop-left.w

  abbrev ran : Hart
  ran = hart o.short-part.new.x o.short-part.new.w

  tells : Tells (run_from Fetch steps from o.loop-left.mem o.args.map.now) o.short-part.result ran o.short-part.new.mem
  tells = let e = o.short-part.ensures in (e.answer, (e.hart, e.memory))

  onward : is_some o.short-part.result.trap ≡ false
      → Midway (run_from Fetch o.fast-left.result (hart o.fast-left.new.x o.fast-left.new.w) o.fast-left.new.mem o.args.map.now)
      o.fast-left.result (o.loop-left.left - steps) Fetch ran o.short-part.new.mem o.args.map.now
  onward q = passes _ _ _ steps Fetch from o.loop-left.mem _ o.loop-left.invariant.1 le o.short-part.result ran o.short-part.new.mem tells some q

pub overflow_add-result : goal.overflow_add-result
overflow_add-result c =
    let l = (goal.at.overflow_add-result c).At-loop-left in
    let o = (goal.at.overflow_add-result c).After-short-part in
    let n = told_within (steps o) Fetch (stands l) c.loop-left.mem c.args.map.now c.short-part.result c.short-part.ensures.answer in
    record { fits = omega (arith, n, le o, (midway l).0, c.ranges.budget.fits) }

pub returns-then-is_some : goal.returns-then-is_some
returns-then-is_some c =
    let l = (goal.at.returns-then-is_some c).At-loop-left in
    let o = (goal.at.returns-then-is_some c).After-short-part in
    let all = ends _ _ _ (steps o) Fetch (stands l) c.loop-left.mem _ (midway l) (le o) c.short-part.result (ran o) c.short-part.new.mem (tells o)
    _ (sym c.is_some.ensures ∙ c.if-is_some.true) refl in
    record { answer = all.0; hart = all.1.0; memory = all.1.1 }

pub loop-left-preserved : goal.loop-left-preserved
loop-left-preserved c =
    let o = (goal.at.loop-left-preserved c).After-short-part in (
      c.fast-rest.auto.mem ∙ c.short-part.auto.mem ∙ c.loop-left.invariant.0,
      joined _ _ (c.loop-left.left - steps o) _ Fetch (ran o) _ c.short-part.new.mem _ _ (onward o (sym c.is_some.ensures ∙ c.if-is_some.false)) c.fast-rest.ensures,
    )

pub returns : goal.returns
returns c =
    let l = (goal.at.returns c).At-loop-left in
    rw (spent _ _ c.loop-left.left Fetch (stands l) c.loop-left.mem _ (midway l) c.loop-left-test.false) record {
      answer = refl;
      hart = refl;
      memory = refl;
    }
