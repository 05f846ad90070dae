-- `run::short` meets its contract: what is left after each turn, run, gives the whole. Assumes nothing.
use mathlib.Core.Bool.{true, false}
use mathlib.Core.Path.{◌≡◌, refl, sym, ◌∙◌}
use Prim.Native.Nat.{◌-◌, ◌<◌}
use lib.ListN.{length}
use native.Mathlib.Omega.{arith}
use Rattle.csr_words.specs.Setting.{setting_of}
use Rattle.step_meaning.specs.Context.{Knows}
use Rattle.step_hart.specs.Hart.{hart}
use Rattle.step_hart.specs.Run.{Run, run_from, Midway}
use Rattle.step_hart.specs.Step.{Outcome, step_from}
use Rattle.step_hart.specs.declared.Hart.{Hart}
use Rattle.std.specs.Prelude.{Some}
use Rattle.std.specs.Option.{is_some}
use Rattle.step_meaning.specs.declared.Source.TheVariants.{Fetch}
use Rattle.step_hart.proofs.Turns.{joined, goes_on, ends, spent}
use Rattle.run_engine.proofs.run.short.Goals as goal
use Rattle.run_engine.proofs.run.short.Goals.{After-glide-left, After-one-t}

-- after the quick way: memory's length, and what is left of the whole
module _ (g : After-glide-left) where
  abbrev whole : Run
  whole =
      let a = g.args in
      run_from a.source a.budget (hart a.x.now a.w.now) a.mem.now a.map.now

  abbrev glided : Hart
  glided = hart g.glide-left.new.x g.glide-left.new.w

  len : length g.glide-left.new.mem ≡ length g.args.mem.now
  len = g.glide-left.auto.mem ∙ g.loop-left.invariant.0

  midway : Midway whole g.args.budget g.glide-left.result g.loop-left.from glided g.glide-left.new.mem g.args.map.now
  midway =
      let l = g.loop-left in
      joined _ _ l.left _ l.from (hart l.x l.w) glided l.mem g.glide-left.new.mem _ l.invariant.2 g.glide-left.ensures.steps

-- after a step by the slow path: the same, and how the run goes on or ends
module _ (o : After-one-t) where
  abbrev all : Run
  all =
      let a = o.args in
      run_from a.source a.budget (hart a.x.now a.w.now) a.mem.now a.map.now

  module _ (mid : Midway all o.args.budget o.glide-left.result o.loop-left.from (hart o.glide-left.new.x o.glide-left.new.w) o.glide-left.new.mem o.args.map.now) where
    some : 0 < o.glide-left.result
    some = omega (arith, o.if-left-eq0.false)

    onward : is_some o.one-t.result.trap ≡ false
        → Midway all o.args.budget (o.glide-left.result - 1) Fetch (hart o.one-t.new.x o.one-t.new.w)
        o.one-t.new.mem o.args.map.now
    onward q =
        let e = o.one-t.ensures in
        goes_on _ _ _ _ (hart o.glide-left.new.x o.glide-left.new.w) o.glide-left.new.mem _ mid some _ _ _ _ e.registers e.words e.memory
        e.told q

    abbrev taken : Outcome
    taken = step_from o.loop-left.from (hart o.glide-left.new.x o.glide-left.new.w) o.glide-left.new.mem o.args.map.now

    last : is_some o.one-t.result.trap ≡ true
        → (all
        ≡ record {
          hart = hart o.one-t.new.x o.one-t.new.w;
          memory = o.one-t.new.mem;
          count = o.args.budget - (o.glide-left.result - 1);
          trapped = true;
          cause = taken.cause;
        })
        × (o.one-t.result.trap ≡ Some taken.cause)
    last q =
        let e = o.one-t.ensures in
        ends _ _ _ _ (hart o.glide-left.new.x o.glide-left.new.w) o.glide-left.new.mem _ mid some _ _ _ _ e.registers e.words e.memory
        e.told q

  kept : o.one-t.result.switched ≡ false → Knows o.loop-left.k (setting_of o.one-t.new.w)
  kept q = rw (o.one-t.ensures.setting q, o.glide-left.ensures.setting) o.loop-left.invariant.1

pub returns-then-left-eq0 : goal.returns-then-left-eq0
returns-then-left-eq0 c =
    let g = (goal.at.returns-then-left-eq0 c).After-glide-left in
    rw (spent _ _ _ _ (glided g) _ _ (midway g) (omega (arith, c.if-left-eq0.true))) record {
      answer = refl;
      hart = refl;
      memory = refl;
    }

pub returns-then-is_some : goal.returns-then-is_some
returns-then-is_some c =
    let g = (goal.at.returns-then-is_some c).After-glide-left in
    let o = (goal.at.returns-then-is_some c).After-one-t in
    let (whole, trap) = last o (midway g) (sym c.is_some.ensures ∙ c.if-is_some.true) in
    rw whole record {
      answer = rw trap;
      hart = refl;
      memory = refl;
    }

pub loop-left-preserved-then-t : goal.loop-left-preserved-then-t
loop-left-preserved-then-t c =
    let g = (goal.at.loop-left-preserved-then-t c).After-glide-left in
    let o = (goal.at.loop-left-preserved-then-t c).After-one-t in
    (c.one-t.auto.mem ∙ len g, c.known-k-then-t.ensures, onward o (midway g) (sym c.is_some.ensures ∙ c.if-is_some.false))

pub loop-left-preserved : goal.loop-left-preserved
loop-left-preserved c =
    let g = (goal.at.loop-left-preserved c).After-glide-left in
    let o = (goal.at.loop-left-preserved c).After-one-t in
    (c.one-t.auto.mem ∙ len g, kept o c.if-t.false, onward o (midway g) (sym c.is_some.ensures ∙ c.if-is_some.false))

pub returns-after-loop-left : goal.returns-after-loop-left
returns-after-loop-left c =
    let l = c.loop-left in
    rw (spent _ _ l.left l.from (hart l.x l.w) l.mem _ l.invariant.2 c.loop-left-test.false)
    record {
      answer = refl;
      hart = refl;
      memory = refl;
    }
