-- MRET, SRET and the exceptions that an instruction makes by itself. Rules 4.24 to 4.29 of docs/HART.md.
use Rattle.std.specs.Prelude.{ℕ}
use Rattle.isa.specs.declared.Mode.{Mode}
use Rattle.isa.specs.declared.Mode.TheVariants.{User, Supervisor, Machine}
use Rattle.csr_access.specs.Exception.{illegal_of}
use Rattle.isa.specs.declared.Exception.{Exception}
use Rattle.step_effect.specs.declared.Effect.{Effect}
use Rattle.step_effect.specs.declared.Effect.TheVariants.{Privileged, Trap}
use Rattle.step_effect.specs.declared.Privileged.TheVariants.{Mret, Sret}

abbrev pub trap_with : Exception → Effect
trap_with e = Trap e.cause e.tval

-- MRET is illegal below M
abbrev pub mret_effect_of : Mode → (word : ℕ) → Effect
mret_effect_of User word = trap_with (illegal_of word)
mret_effect_of Supervisor word = trap_with (illegal_of word)
mret_effect_of Machine word = Privileged Mret

-- SRET is illegal in U
abbrev pub sret_effect_of : Mode → (word : ℕ) → Effect
sret_effect_of User word = trap_with (illegal_of word)
sret_effect_of Supervisor word = Privileged Sret
sret_effect_of Machine word = Privileged Sret
