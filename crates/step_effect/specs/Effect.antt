-- What is asked of an effect before it is applied.
use Rattle.std.specs.Prelude.{ℕ, ◌≤◌}
use Rattle.isa.specs.declared.Width.TheVariants.{Double}
use Rattle.address_place.specs.Place.{Within}
use Rattle.step_effect.specs.declared.Effect.{Effect}
use Rattle.step_effect.specs.declared.Effect.TheVariants.{Write, Jump, Pad, Store, Push, Pop, Swap, Privileged, Trap}

-- what an effect stores lies in memory of len bytes
abbrev pub Stays : Effect → (len : ℕ) → Type 0
Stays (Write rd v next) len = 0 ≤ len
Stays (Jump rd link next elp) len = 0 ≤ len
Stays (Pad next) len = 0 ≤ len
Stays (Store q w v next) len = Within len w q.0
Stays (Push q v ssp next) len = Within len Double q.0
Stays (Pop ssp next) len = 0 ≤ len
Stays (Swap rd old q w v next) len = Within len w q.0
Stays (Privileged k) len = 0 ≤ len
Stays (Trap cause tval) len = 0 ≤ len
