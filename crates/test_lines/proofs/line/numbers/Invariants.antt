use Rattle.std.proofs.Common.{◌≤◌}
use Rattle.test_lines.specs.Most.{most}
use Rattle.test_lines.proofs.line.numbers.Given as goal

abbrev pub invariant-loop-word : goal.invariant-loop-word
invariant-loop-word l = (l.had ≤ l.count) × (l.count ≤ most)
