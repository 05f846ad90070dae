-- How a function of the quick way ends, and what that says of an effect: a register written, or an access made.
-- Assumes nothing.
use Rattle.std.specs.Prelude.{Option, Some, Ok}
use Rattle.address_place.specs.Place.{PlaceOrFault}
use mathlib.Core.List.{List}
use mathlib.Core.Path.{◌≡◌, refl, sym, ◌∙◌}
use Prim.Native.Nat.{ℕ}
use borrow.Author.Tests.{eq-eqb}
use Rattle.word.specs.Sum.{sum_of}
use Rattle.word.specs.declared.field.Fields.{Fields}
use Rattle.isa.specs.declared.Access.{Access}
use Rattle.isa.specs.declared.Access.TheVariants.{Pop}
use Rattle.isa.specs.declared.Instruction.{Instruction}
use Rattle.isa.specs.declared.Width.TheVariants.{Double}
use Rattle.address_place.specs.declared.Physical.{Physical}
use Rattle.step_transfer.specs.Access.{read_of, popped_of, done_of, at_of}
use Rattle.step_effect.specs.Register.{put_of}
use Rattle.step_effect.specs.declared.Effect.{Effect}
use Rattle.step_effect.specs.declared.Effect.TheVariants.{Write}
use Rattle.csr_words.specs.Words.{◌but◌≔◌, SSP}
use Rattle.run_done.specs.Moves.{Applied, Done}

-- what a decoder's function says of the parts of a word that other functions gave
pub read : (f : Fields → ℕ → Instruction) {a b : Fields} {u v : ℕ} {i j : Instruction} → a ≡ b → u ≡ v → i ≡ f a u → i ≡ j → f b v ≡ j
read f p q h e = rw (← p, ← q) (sym h ∙ e)

-- a register was written: the effect that says so
pub wrote_does : (t : Option ℕ) (rd v next : ℕ) (x x' : List ℕ) → (t ≡ Some next) × (x' ≡ put_of rd v x)
    → (e : Effect) → e ≡ Write rd v next → (rest m : List ℕ)
    → Done t e x rest m x' rest m
wrote_does t rd v next x x' h e f rest m = rw (h.0, f) (refl, h.1, refl, refl)

-- an access was made at its place: what it does there
pub placed : (k : Access) (p : PlaceOrFault) (q : Physical) (rd a b ssp next : ℕ) (x rest m : List ℕ) (pc' : ℕ) (x' rest' m' : List ℕ) → p ≡ Ok q
    → Applied (done_of k q rd a b ssp next m) x rest m pc' x' rest' m'
    → Applied (at_of k p rd a b ssp next m) x rest m pc' x' rest' m'
unfolding at_of
placed k p q rd a b ssp next x rest m pc' x' rest' m' e h = rw e h

-- and a pop-check that found its value
pub popped : (p : PlaceOrFault) (q : Physical) (v ssp next : ℕ) (x rest m : List ℕ) (pc' : ℕ) (rest' : List ℕ) → p ≡ Ok q → read_of m q Double ≡ v
    → (pc' ≡ next) × (rest' ≡ rest but SSP ≔ sum_of ssp 8)
    → Applied (at_of Pop p 0 v 0 ssp next m) x rest m pc' x rest' m
unfolding done_of popped_of
popped p q v ssp next x rest m pc' rest' e f h =
    placed Pop p q 0 v 0 ssp next x rest m pc' x rest' m e (rw (eq-eqb _ _ f) (h.0, refl, h.1, refl))

-- one effect in two ways
pub does_as : (t : Option ℕ) (e f : Effect) (x rest m x' rest' m' : List ℕ) → e ≡ f → Done t f x rest m x' rest' m'
    → Done t e x rest m x' rest' m'
does_as t e f x rest m x' rest' m' h d = rw h d
