-- Rule 7.2 e: where masking is lifted, and that everywhere else the rest of rule 7.2 holds.
-- Assumes nothing.
use mathlib.Core.Bool.{Bool, true, false}
use mathlib.Core.Path.{◌≡◌, refl}
use Prim.Native.Nat.{ℕ}
use native.Mathlib.Omega.{arith}
use Rattle.word.specs.Choice.{pick}
use Rattle.address_page.specs.Kinds.{is_fetch_of}
use Rattle.isa.specs.declared.Kind.TheVariants.{Fetch, Load, Store, Push, Pop, Swap}
use Rattle.isa.specs.declared.Kind.{Kind}
use Rattle.isa.specs.declared.Mode.TheVariants.{User, Supervisor, Machine}
use Rattle.isa.specs.declared.Mode.{Mode}
use Rattle.address.specs.Control.{lifted_of}
use Rattle.address.specs.Mask.{masked_of, transformed_of}
use Rattle.address.specs.declared.control.Control.{Control}

no : {A : Type 0} → false ≡ true → A
no e = absurd (let z : ◌≡◌ {A = ℕ} 0 1 = cc in omega arith)

-- in M, and by both bits; one of them alone lifts nothing, and both lift nothing below M
pub lifted_exactly : (mode : Mode) (mprv mxr : Bool) → lifted_of mode mprv mxr ≡ true → (mode ≡ Machine) × (mprv ≡ true) × (mxr ≡ true)
lifted_exactly User mprv mxr e = no e
lifted_exactly Supervisor mprv mxr e = no e
lifted_exactly Machine true true e = (refl, refl, refl)
lifted_exactly Machine true false e = no e
lifted_exactly Machine false mxr e = no e

-- then the address of a load, a store or a swap stays whole, in every effective mode
module _ (c : Control) (m : Mode) (a : ℕ) (machine : c.mode ≡ Machine) (mprv : c.mprv ≡ true) (mxr : c.mxr ≡ true) where
  pub whole_load : transformed_of c m Load a ≡ a
  unfolding transformed_of
  whole_load = rw (machine, mprv, mxr)

  pub whole_store : transformed_of c m Store a ≡ a
  unfolding transformed_of
  whole_store = rw (machine, mprv, mxr)

  pub whole_swap : transformed_of c m Swap a ≡ a
  unfolding transformed_of
  whole_swap = rw (machine, mprv, mxr)

-- step 2 without rule 7.2 e of docs/HART.md: by the PMM of the effective mode, and not for fetch
abbrev pub before_a2 : Control → Mode → Kind → ℕ → ℕ
before_a2 c m k a = pick (is_fetch_of k) a (masked_of c m a)

-- everywhere else it stays
pub as_before : (c : Control) (m : Mode) (k : Kind) (a : ℕ) → lifted_of c.mode c.mprv c.mxr ≡ false
    → transformed_of c m k a ≡ before_a2 c m k a
unfolding transformed_of
as_before c m Fetch a e = refl
as_before c m Load a e = rw e
as_before c m Store a e = rw e
as_before c m Push a e = refl
as_before c m Pop a e = refl
as_before c m Swap a e = rw e
