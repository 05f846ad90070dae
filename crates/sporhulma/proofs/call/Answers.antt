-- `sporhulma::call` meets its contract: where no refusal applies the run's words, else those that were given. Assumes nothing.
use mathlib.Core.Path.{refl, sym, ap, ◌∙◌}
use Rattle.std.specs.Prelude.{Some, None}
use Rattle.step_hart.specs.Hart.{hart}
use Rattle.step_hart.specs.Run.{Run, run_from}
use Rattle.step_hart.specs.declared.Hart.{Hart}
use Rattle.run_call.proofs.Accepted.{small, run_no_refusal}
use Rattle.sporhulma.proofs.Answered.{taken, refused, told}
use Rattle.sporhulma.proofs.call.Goals as goal

pub returns-in-Some : goal.returns-in-Some
returns-in-Some c =
    let a = c.args in
    rw (refused a.source a.budget a.x.now a.rest.now a.mem.now a.map.now c.in-Some.refusal (sym c.run_refusal.ensures ∙ c.in-Some.is))
    record {
      result = c.number.ensures;
      registers = refl;
      others = refl;
      memory = refl;
      answer = refl;
    }

pub run-t-requires : goal.run-t-requires
run-t-requires c =
    small _ _ _ (run_no_refusal _ _ _ _ (sym c.run_refusal.ensures ∙ c.in_default.is))

pub returns-in-Some-trap : goal.returns-in-Some-trap
returns-in-Some-trap c =
    let a = c.args in
    let run : Run = run_from a.source a.budget (hart a.x.now a.rest.now) a.mem.now a.map.now in
    let ran = c.run-t.ensures in
    rw (taken a.source a.budget a.x.now a.rest.now a.mem.now a.map.now (sym c.run_refusal.ensures ∙ c.in_default.is)) record {
      result = refl;
      registers = ap (λ (h : Hart). h.x) ran.hart;
      others = ap (λ (h : Hart). h.words) ran.hart;
      memory = ran.memory;
      answer = told run c.run-t.result ran.answer (Some c.in-Some-trap.cause) c.in-Some-trap.is;
    }

pub returns-in-None : goal.returns-in-None
returns-in-None c =
    let a = c.args in
    let run : Run = run_from a.source a.budget (hart a.x.now a.rest.now) a.mem.now a.map.now in
    let ran = c.run-t.ensures in
    rw (taken a.source a.budget a.x.now a.rest.now a.mem.now a.map.now (sym c.run_refusal.ensures ∙ c.in_default.is)) record {
      result = refl;
      registers = ap (λ (h : Hart). h.x) ran.hart;
      others = ap (λ (h : Hart). h.words) ran.hart;
      memory = ran.memory;
      answer = told run c.run-t.result ran.answer None c.in-None.is;
    }
