use Rattle.std.proofs.Common.{◌≡◌, ◌+◌, vec_len}
use Rattle.test_scene.proofs.content.rising.Given as goal

abbrev pub invariant-loop-i : goal.invariant-loop-i
invariant-loop-i l = vec_len l.map ≡ l.i + l.i
