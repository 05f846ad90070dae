-- `run::run` meets its contract: the first steps, and then the others. Assumes nothing.
use mathlib.Core.Logic.{inl, inr}
use mathlib.Core.Path.{refl, sym, ◌∙◌}
use Prim.Native.Nat.{ℕ, ◌-◌, ◌<◌, ◌≤◌}
use native.Mathlib.Omega.{arith}
use Rattle.step_meaning.specs.declared.Source.TheVariants.{Fetch}
use Rattle.step_hart.specs.Hart.{hart}
use Rattle.step_hart.specs.Run.{run_from}
use Rattle.step_hart.specs.declared.Hart.{Hart}
use Rattle.run_engine.proofs.Parts.{Tells, told_within, ends_first, ends_there, ends_later}
use Rattle.run_engine.proofs.run.run.Goals as goal
use Rattle.run_engine.proofs.run.run.Goals.{After-short-t}

-- after the first steps: how many they are, and where they ended
module _ (o : After-short-t) where
  abbrev steps : ℕ
  steps = o.min-first.result

  abbrev stands : Hart
  stands = hart o.args.x.now o.args.w.now

  abbrev ran : Hart
  ran = hart o.short-t.new.x o.short-t.new.w

  le : steps ≤ o.args.budget
  le = omega arith

  tells : Tells (run_from o.args.source steps stands o.args.mem.now o.args.map.now) o.short-t.result ran o.short-t.new.mem
  tells = let e = o.short-t.ensures in (e.answer, (e.hart, e.memory))

pub returns-then-is_some : goal.returns-then-is_some
returns-then-is_some c =
    let a = c.args in
    let o = (goal.at.returns-then-is_some c).After-short-t in
    let all : Tells (run_from a.source a.budget (stands o) a.mem.now a.map.now) c.short-t.result (ran o) c.short-t.new.mem =
    elim c.then-is_some.either [
      | inl t ↦ ends_first a.source a.budget (steps o) (stands o) a.mem.now a.map.now (le o) c.short-t.result (ran o) c.short-t.new.mem
          (tells o) (sym c.is_some.ensures ∙ t)
      | inr t ↦ ends_there a.source a.budget (steps o) (stands o) a.mem.now a.map.now (le o) c.short-t.result (ran o) c.short-t.new.mem
          (tells o) t.1
    ] in
    record { answer = all.0; hart = all.1.0; memory = all.1.1 }

pub overflow_add-result : goal.overflow_add-result
overflow_add-result c =
    let o = (goal.at.overflow_add-result c).After-short-t in
    let n = told_within (c.args.budget - steps o) Fetch (ran o) c.short-t.new.mem c.args.map.now c.long-u.result c.long-u.ensures.answer in
    record { fits = omega (arith, n, le o, c.ranges.budget.fits) }

pub returns : goal.returns
returns c =
    let a = c.args in
    let o = (goal.at.returns c).After-short-t in
    let some : 0 < steps o = omega (arith, le o, c.if-budget-first.false) in
    let all = ends_later a.source a.budget (steps o) (stands o) a.mem.now a.map.now (le o) c.short-t.result (ran o) c.short-t.new.mem
    (tells o) some (sym c.is_some.ensures ∙ c.if-is_some.false) c.long-u.result _ _ _
    (c.long-u.ensures.answer, (c.long-u.ensures.hart, c.long-u.ensures.memory)) refl in
    record { answer = all.0; hart = all.1.0; memory = all.1.1 }
