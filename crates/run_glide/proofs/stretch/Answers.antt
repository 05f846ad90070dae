-- `stretch` meets its contract: what is left after each turn, run, gives the whole. Assumes nothing.
use mathlib.Core.Path.{◌≡◌, ◌∙◌}
use Prim.Native.Nat.{◌+◌, ◌-◌, ◌<◌}
use native.Mathlib.Omega.{arith}
use Rattle.step_meaning.specs.declared.Source.TheVariants.{Fetch}
use Rattle.run_turn.specs.Glide.{hart_at}
use Rattle.step_hart.proofs.Turns.{again}
use Rattle.run_glide.proofs.stretch.Goals as goal

pub loop-taken-preserved : goal.loop-taken-preserved
loop-taken-preserved c =
    let l = c.loop-taken in
    let d = rw c.in-Some.is at c.turn.ensures in
    let some : 0 < c.args.budget - l.taken = omega (arith, c.loop-taken-test.true) in
    let one_less : c.args.budget - l.taken - 1 ≡ c.args.budget - (l.taken + 1) = omega arith in
    let n = again _ _ (c.args.budget - l.taken) Fetch (hart_at l.pc l.x l.w) l.mem _ l.invariant.2 some d.0 in
    (d.3, d.4 ∙ l.invariant.1, rw (d.1, d.2, one_less) at n)
