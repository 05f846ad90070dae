-- How a function of this crate ends, and what that says of an effect: a register written, or an access made.
-- Assumes nothing.
use Rattle.std.specs.Prelude.{Option, Some, None}
use mathlib.Core.List.{List}
use mathlib.Core.Path.{◌≡◌, refl, sym, ap, ◌∙◌}
use Prim.Native.Nat.{ℕ}
use lib.ListN.{get_or, set}
use lib.Seq.{set-get_or}
use Rattle.step_effect.specs.Register.{put_of}
use Rattle.step_effect.specs.declared.Effect.{Effect}
use Rattle.step_effect.specs.declared.Effect.TheVariants.{Write}
use Rattle.run_done.specs.Moves.{Applied}
use Rattle.run_act.specs.Act.{Acts}
use Rattle.run_act.specs.declared.Acted.{Acted}

-- a register was written: the effect that says so
pub wrote_does : (t : Option Acted) (rd v next : ℕ) (x x' : List ℕ) → (t ≡ Some (record { pc = next; stored = None })) × (x' ≡ put_of rd v x)
    → (e : Effect) → e ≡ Write rd v next → (w m : List ℕ)
    → Acts t e x w m x' w m
wrote_does t rd v next x x' h e f w m = rw (h.0, f) ((refl, h.1, refl, refl), refl)

-- writing 0 to register 0 changes nothing, if it is 0
put_zero : (x : List ℕ) → get_or x 0 0 ≡ 0 → x ≡ put_of 0 0 x
put_zero x h =
    let e : set x 0 0 ≡ x = ap (λ (v : ℕ). set x 0 v) (sym h) ∙ set-get_or x 0 0 in
    sym (ap (λ (l : List ℕ). set l 0 0) e ∙ e)

-- nothing was written: an effect that writes 0 to register 0, which is 0
pub stayed_does : (t : Option Acted) (next : ℕ) → t ≡ Some (record { pc = next; stored = None }) → (e : Effect) → e ≡ Write 0 0 next
    → (x w m : List ℕ) → get_or x 0 0 ≡ 0
    → Acts t e x w m x w m
stayed_does t next h e f x w m z = rw (h, f) ((refl, put_zero x z, refl, refl), refl)

-- pc went on, and something else was done that leaves memory
pub went_does : (t : Option Acted) (next : ℕ) → t ≡ Some (record { pc = next; stored = None }) → (e : Effect) (x w m x' w' : List ℕ)
    → Applied e x w m next x' w' m
    → Acts t e x w m x' w' m
went_does t next h e x w m x' w' d = rw h (d, refl)

-- one effect in two ways
pub does_as : (t : Option Acted) (e f : Effect) (x w m x' w' m' : List ℕ) → e ≡ f → Acts t f x w m x' w' m'
    → Acts t e x w m x' w' m'
does_as t e f x w m x' w' m' h d = rw h d
