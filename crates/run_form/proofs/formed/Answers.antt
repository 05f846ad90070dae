-- `run_form::formed` meets its contract. Assumes nothing.
use mathlib.Core.Path.{refl}
use Rattle.run_form.proofs.formed.Goals as goal

pub returns-then-f-lt32-3-clause-means : goal.returns-then-f-lt32-3-clause-means
returns-then-f-lt32-3-clause-means c = λ word. c.shaped-f.ensures word _ refl refl
