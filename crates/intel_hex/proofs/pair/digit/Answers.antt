-- `intel_hex::pair::digit` meets its contract: a kind of digits an arm. Assumes nothing.
use native.Mathlib.Omega.{arith}
use Rattle.intel_hex.proofs.Digits.{decimal, upper_case, lower_case, other_byte}
use Rattle.intel_hex.proofs.pair.digit.Goals as goal

pub returns-in-48-to-57 : goal.returns-in-48-to-57
returns-in-48-to-57 c = (decimal c.args.b (omega arith) (omega arith), omega arith)

pub returns-in-65-to-70 : goal.returns-in-65-to-70
returns-in-65-to-70 c = (upper_case c.args.b (omega arith) (omega arith), omega arith)

pub returns-in-97-to-102 : goal.returns-in-97-to-102
returns-in-97-to-102 c = (lower_case c.args.b (omega arith) (omega arith), omega arith)

pub returns-in_default : goal.returns-in_default
returns-in_default c = (other_byte c.args.b (omega arith) (λ a b. omega arith) (λ a b. omega arith) (λ a b. omega arith), omega arith)

pub returns-in_default-2 : goal.returns-in_default-2
returns-in_default-2 c = (other_byte c.args.b (omega arith) (λ a b. omega arith) (λ a b. omega arith) (λ a b. omega arith), omega arith)

pub returns-in_default-3 : goal.returns-in_default-3
returns-in_default-3 c = (other_byte c.args.b (omega arith) (λ a b. omega arith) (λ a b. omega arith) (λ a b. omega arith), omega arith)

pub returns-in_default-4 : goal.returns-in_default-4
returns-in_default-4 c = (other_byte c.args.b (omega arith) (λ a b. omega arith) (λ a b. omega arith) (λ a b. omega arith), omega arith)
