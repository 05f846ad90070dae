-- `address::control::Control::flat` meets its contract: the three tests in their order. Assumes nothing.
use mathlib.Core.Bool.{Bool, true, false, ◌||◌, not}
use mathlib.Core.Path.{◌≡◌, refl, sym, ◌∙◌, ap}
use Prim.Native.Nat.{ℕ}
use borrow.Author.Tests.{eq-eqb, ne_eqb}
use Rattle.isa.specs.declared.Kind.TheVariants.{Load}
use Rattle.isa.specs.declared.Mode.{Mode}
use Rattle.address.specs.Control.{effective_mode_of, pmm_of, paged_of, unmasked_of, flat_of}
use Rattle.address.specs.declared.control.Control.{Control}
use Rattle.address.proofs.control.Control.flat.Goals as goal

or_true : (b : Bool) → (b || true) ≡ true
or_true true = refl
or_true false = refl

or-false : (b : Bool) → (b || false) ≡ b
or-false true = refl
or-false false = refl

-- m is the effective mode of loads
module _ (c : Control) (m : Mode) (e : m ≡ effective_mode_of c Load) where
  translated : paged_of m c.sv39 ≡ true → false ≡ flat_of c
  unfolding flat_of
  translated p = rw (← e, p)

  by_mask : (n : ℕ) → paged_of m c.sv39 ≡ false → n ≡ pmm_of m c.upmm c.spmm c.mpmm → n ≡ 0 → true ≡ flat_of c
  unfolding flat_of
  by_mask n p q z = let w : pmm_of m c.upmm c.spmm c.mpmm ≡ 0 = sym q ∙ z in rw (← e, p, w, or_true (unmasked_of c Load))

  by_lifting : (n : ℕ) → paged_of m c.sv39 ≡ false → n ≡ pmm_of m c.upmm c.spmm c.mpmm → (n ≡ 0 → ⊥) → unmasked_of c Load ≡ flat_of c
  unfolding flat_of
  by_lifting n p q z = rw (← e, p, ← q, ne_eqb n 0 z, or-false (unmasked_of c Load))

pub returns-else-not-paged : goal.returns-else-not-paged
returns-else-not-paged c =
    ap not c.if-not-paged.false ∙ translated _ _ c.effective-m.ensures (sym c.paged.ensures ∙ c.if-not-paged.false)

pub returns-then-pmm-eq0 : goal.returns-then-pmm-eq0
returns-then-pmm-eq0 c =
    eq-eqb _ 0 c.if-pmm-eq0.true
    ∙ by_mask _ _ c.effective-m.ensures _ (sym c.if-not-paged.ensures) c.pmm.ensures c.if-pmm-eq0.true

pub returns-else-pmm-eq0 : goal.returns-else-pmm-eq0
returns-else-pmm-eq0 c =
    c.unmasked.ensures
    ∙ by_lifting _ _ c.effective-m.ensures _ (sym c.if-not-paged.ensures) c.pmm.ensures c.if-pmm-eq0.false
