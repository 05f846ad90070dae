use Prim.Native.Nat.{◌*◌}
use Rattle.run_fast.specs.Memo.{Fewer, AllClear}
use Rattle.run_fast.proofs.forget.Given as goal

abbrev pub invariant-loop-quarter : goal.invariant-loop-quarter
invariant-loop-quarter l = Fewer l.initial.entries l.entries × AllClear l.entries (l.quarter * 1024) l.eight
