-- What memory that refusal 2 does not refuse is.
-- Assumes nothing.
use mathlib.Core.Bool.{false, not}
use mathlib.Core.Path.{◌≡◌}
use Prim.Native.Nat.{ℕ, ◌%◌, ◌<◌, ◌≤◌}
use lib.Dec.{eqb, ltb}
use borrow.Author.Tests.{eqb-true, eqb-false, ltb-false, not-false}
use native.Mathlib.Omega.{arith}
use Rattle.word.proofs.Bools.{neither}
use Rattle.memory.specs.Refusal.{memory_refused_of}

pub accepted : (len : ℕ) → memory_refused_of len ≡ false → (0 < len) × (len % 4096 ≡ 0) × (len ≤ 1048576)
unfolding memory_refused_of
accepted len ok =
    let q = neither (eqb len 0) _ ok in
    let r = neither (not (eqb (len % 4096) 0)) (ltb 1048576 len) q.1 in
    let n = eqb-false len 0 q.0 in
    (omega arith, eqb-true (len % 4096) 0 (not-false (eqb (len % 4096) 0) r.0), ltb-false 1048576 len r.1)
