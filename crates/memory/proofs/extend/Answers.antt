-- `memory::extend` meets its contract. Assumes nothing.
use mathlib.Core.Bool.{true, false}
use mathlib.Core.Path.{◌≡◌}
use Rattle.memory.specs.Extend.{extend_of}
use Rattle.memory.proofs.extend.Goals as goal

pub returns-then-sign : goal.returns-then-sign
unfolding extend_of
returns-then-sign c = let sign : c.args.sign ≡ true = c.if-sign.true in rw (sign) c.signed.ensures

pub returns : goal.returns
unfolding extend_of
returns c = let sign : c.args.sign ≡ false = c.if-sign.false in rw (sign)
