-- What an effect leaves in memory. m is memory. Rules 1.8, 4.22, 8.3 and 8.8 of docs/HART.md.
use Rattle.std.specs.Prelude.{List, ℕ, ◌-◌}
use Rattle.isa.specs.Size.{size_of}
use Rattle.isa.specs.declared.Width.TheVariants.{Double}
use Rattle.memory.specs.Bytes.{store_of}
use Rattle.address_place.specs.Place.{base}
use Rattle.step_effect.specs.declared.Effect.{Effect}
use Rattle.step_effect.specs.declared.Effect.TheVariants.{Write, Jump, Pad, Store, Push, Pop, Swap, Trap}
use Rattle.step_effect.specs.declared.Effect.TheVariants as effect

-- memory after an effect
abbrev pub memory_of : Effect → (m : List ℕ) → List ℕ
memory_of (Write rd v next) m = m
memory_of (Jump rd link next elp) m = m
memory_of (Pad next) m = m
memory_of (Store q w v next) m = store_of m (q.0 - base) (size_of w) v
memory_of (Push q v ssp next) m = store_of m (q.0 - base) (size_of Double) v
memory_of (Pop ssp next) m = m
memory_of (Swap rd old q w v next) m = store_of m (q.0 - base) (size_of w) v
memory_of (effect.Privileged k) m = m
memory_of (Trap cause tval) m = m
