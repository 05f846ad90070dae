-- What a form leaves of registers, words and memory. Rule 10.9 of docs/HART.md.
use Rattle.std.specs.Prelude.{Option, Some, None, List, ◌≡◌, ℕ, ◌/◌, ◌<◌, length, get_or}
use Rattle.step_effect.specs.declared.Effect.{Effect}
use Rattle.run_done.specs.Moves.{Applied}
use Rattle.run_act.specs.declared.Acted.{Acted}

-- nothing was stored; or it was at this index of memory, and no byte changed but among the eight around that one, which begin at a multiple of eight
abbrev pub Touched : (stored : Option ℕ) → (m m' : List ℕ) → Type 0
Touched None m m' = m' ≡ m
Touched (Some at) m m' = (at < length m) × (length m' ≡ length m) × ((i : ℕ) → (i / 8 ≡ at / 8 → ⊥) → get_or m' i 0 ≡ get_or m i 0)

-- what the effect says was done, or nothing changed. Below, x are the registers, w the hart's other words, m memory; a name with ' is what it is afterwards
abbrev pub Acts : Option Acted → Effect → (x w m : List ℕ) → (x' w' m' : List ℕ) → Type 0
Acts (Some t) e x w m x' w' m' = Applied e x w m t.pc x' w' m' × Touched t.stored m m'
Acts None e x w m x' w' m' = (x' ≡ x) × (w' ≡ w) × (m' ≡ m)
