-- What an effect stores stays in memory, by whichever name.
-- Assumes nothing.
use mathlib.Core.Path.{◌≡◌, subst}
use Prim.Native.Nat.{ℕ}
use Rattle.step_effect.specs.Effect.{Stays}
use Rattle.step_effect.specs.declared.Effect.{Effect}

-- what stays in memory by one name of an effect, stays by the other
pub fits : (len : ℕ) (e f : Effect) → e ≡ f → Stays e len → Stays f len
fits len e f p h = subst (λ (a : Effect). Stays a len) p h
