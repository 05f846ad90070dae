-- The hart to start from is one that refusal 1 lets pass. Assumes nothing.
use mathlib.Core.Bool.{true}
use mathlib.Core.Path.{◌≡◌, refl}
use Rattle.csr_words.specs.Legal.{words_legal}
use Rattle.step_hart.specs.Hart.{start_of, legal}

pub start_legal : legal start_of ≡ true
unfolding legal words_legal
start_legal = refl
