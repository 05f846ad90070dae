-- `csr_trap::route::delegated` meets its contract: a number of 64 bits has no bit beyond 63. Assumes nothing.
use Prim.Native.Nat.{◌^◌, ◌<◌, ◌≤◌}
use native.Mathlib.Nat.{div-eq_of_lt}
use native.Mathlib.Omega.{arith}
use lib.Pow.{pow_mono}
use borrow.Author.Tests.{le-ltb}
use Rattle.csr_trap.proofs.route.delegated.Goals as goal

pub returns-else-cause-lt64 : goal.returns-else-cause-lt64
returns-else-cause-lt64 c =
    let a = c.args in
    let p : 2 ^ 64 ≤ 2 ^ a.cause = pow_mono c.if-cause-lt64.false in
    let l : a.medeleg < 2 ^ a.cause = omega arith in
    rw (le-ltb _ _ c.if-cause-lt64.false, div-eq_of_lt l)
