-- A jump that expects no landing pad.
-- Assumes nothing.
use mathlib.Core.Bool.{Bool, true, false}
use mathlib.Core.List.{List}
use mathlib.Core.Path.{◌≡◌}
use Prim.Native.Nat.{ℕ, ◌%◌}
use Rattle.std.specs.Prelude.{Option, Some, None}
use lib.Dec.{eqb}
use Rattle.word.specs.Choice.{pick}
use Rattle.isa.specs.declared.Kind.TheVariants.{Fetch}
use Rattle.address.specs.Cause.{misaligned_of}
use Rattle.step_effect.specs.Jump.{jal_of}
use Rattle.step_effect.specs.declared.Effect.{Effect}
use Rattle.step_effect.specs.declared.Effect.TheVariants.{Write, Jump, Trap}
use Rattle.run_done.specs.Moves.{Done}

-- what JALR says where no landing pad is expected is what JAL says
unpadded : (t : Option ℕ) (aligned pad : Bool) (rd link to cause tval : ℕ) (x rest m x' : List ℕ) → pad ≡ false
    → Done t (pick aligned (Write rd link to) (Trap cause tval)) x rest m x' rest m
    → Done t (pick aligned (Jump rd link to pad) (Trap cause tval)) x rest m x' rest m
unpadded (Some next) true pad rd link to cause tval x rest m x' e h = (e, h.0, h.1, h.2, h.3)
unpadded (Some next) false pad rd link to cause tval x rest m x' e h = h
unpadded None aligned pad rd link to cause tval x rest m x' e h = h

pub padless : (t : Option ℕ) (e : Effect) (rd link to : ℕ) (pad : Bool) (x rest m x' : List ℕ) → pad ≡ false
    → e ≡ pick (eqb (to % 4) 0) (Jump rd link to pad) (Trap (misaligned_of Fetch) to)
    → Done t (jal_of rd link to) x rest m x' rest m
    → Done t e x rest m x' rest m
unfolding jal_of
padless t e rd link to pad x rest m x' off f h =
    rw f (unpadded t (eqb (to % 4) 0) pad rd link to (misaligned_of Fetch) to x rest m x' off h)
