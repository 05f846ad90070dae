-- What a form does is a step: along the effect that it says it applied. And what a step of the fast path keeps: register 0 is 0, and pc a multiple of 4.
-- Assumes nothing.
use Rattle.std.specs.Prelude.{Ok, Err}
use Rattle.address_place.specs.Place.{PlaceOrFault, base}
use mathlib.Core.Bool.{Bool, true, false}
use mathlib.Core.List.{List, [], ◌∷◌}
use mathlib.Core.Logic.{⊎_elim}
use mathlib.Core.Path.{◌≡◌, refl, sym, subst}
use Prim.Native.Nat.{ℕ, ◌+◌, ◌-◌, ◌%◌, ◌^◌, ◌<◌}
use native.Mathlib.Omega.{arith}
use lib.Dec.{eqb}
use lib.ListN.{get_or, set}
use borrow.Author.Tests.{eqb-true}
use Rattle.word.specs.Choice.{pick}
use Rattle.word.specs.Sum.{sum_of}
use Rattle.isa.specs.Size.{width_of}
use Rattle.isa.specs.declared.Access.{Access}
use Rattle.isa.specs.declared.Access.TheVariants as access
use Rattle.decode.specs.Decode.{decode_of}
use Rattle.memory.specs.Bytes.{load_of}
use Rattle.address_place.specs.declared.Physical.{Physical}
use Rattle.address.specs.declared.control.Control.{Control}
use Rattle.step_effect.specs.Compute.{condition_of}
use Rattle.step_effect.specs.Jump.{even_of, jal_of, jalr_of, branch_of}
use Rattle.step_effect.specs.Register.{reg_of, put_of}
use Rattle.step_effect.specs.declared.Effect.{Effect}
use Rattle.step_effect.specs.declared.Effect.TheVariants as effect
use Rattle.step_effect.specs.declared.Privileged as kind
use Rattle.step_effect.specs.declared.Privileged.TheVariants as privileged
use Rattle.step_transfer.specs.Access.{read_of, popped_of, done_of, at_of}
use Rattle.step_meaning.specs.Instruction.{next_of, execute_of}
use Rattle.step_meaning.specs.Plan.{fetched_of}
use Rattle.isa.specs.Mode.{mode_of}
use Rattle.csr_setting.specs.Regime.{control_of}
use Rattle.csr_setting.specs.declared.Setting.{Setting}
use Rattle.csr_words.specs.Words.{◌of◌, MODE, SSP}
use Rattle.csr_words.specs.Setting.{setting_of}
use Rattle.run_done.specs.Moves.{Applied}
use Rattle.run_csrs.specs.Handler.{Carried, Handled, Handles}
use Rattle.run_form.specs.Form.{Shape, Compute, ComputeWord, Jal, Jalr, Branch, Memory, ReadSsp, Left, shape_of, shape_does, does_of}
use Rattle.run_form.specs.declared.Form.{Form}
use Rattle.run_form.specs.declared.Op.{Op}
use Rattle.run_form.specs.declared.Op.TheVariants as op
use Rattle.step_meaning.specs.declared.Source.TheVariants.{Fetch}
use Rattle.step_hart.specs.Run.{Run, Midway}
use Rattle.run_turn.specs.Glide.{hart_at, Straight, Fetches, Turned}
use Rattle.run_turn.proofs.Gliding.{quickly, by_handler}
use Rattle.run_fast.specs.Memo.{form_of, Read}
use Rattle.run_fast.specs.declared.Entry.{Entry}

-- the word that was read is the one that a fetch gives
pub fetches : (e : Entry) (w m map : List ℕ) → Read e (setting_of w) m map → Fetches (load_of m e.at 4) e.pc w m map
unfolding fetched_of
fetches e w m map r =
    let i : base + e.at - base ≡ e.at = omega arith in
    rw (r.place, i)

-- what is left is not done, and any other form does what the instruction does
module _ (e : Entry) (x w m map : List ℕ) (zero : reg_of x 0 ≡ 0) (r : Read e (setting_of w) m map)
    (fits : reg_of x e.rs2 < 2 ^ 64) (small : e.value < 2 ^ 64) (pc' : ℕ) (x' w' m' : List ℕ) where
  abbrev f : Form
  f = form_of e

  abbrev does : Effect
  does = does_of f.op f.rd (reg_of x f.rs1) (reg_of x f.rs2) f.value e.pc (SSP of w) (setting_of w).control m map

  abbrev executes : Effect
  executes = execute_of (decode_of (load_of m e.at 4)) (load_of m e.at 4) x e.pc (SSP of w) (setting_of w) m map

  undone : f.op ≡ op.Left → Applied does x w m pc' x' w' m' → Applied executes x w m pc' x' w' m'
  unfolding does_of
  undone l d = absurd (rw l at d)

  as_executed : Applied does x w m pc' x' w' m' → Applied executes x w m pc' x' w' m'
  as_executed d =
      ⊎_elim (λ l. undone l d) (λ g. subst (λ (h : Effect). Applied h x w m pc' x' w' m') (sym (g x (SSP of w) m map zero fits small)) d) r.means

  pub acted : Straight w → Applied does x w m pc' x' w' m' → Turned true e.pc x w m map pc' x' w' m'
  acted st d = quickly e.pc x w m st map (load_of m e.at 4) (fetches e w m map r) true pc' x' w' m' (as_executed d)

-- register 0
put_zero : (l : List ℕ) → get_or (set l 0 0) 0 0 ≡ 0
put_zero [] = refl
put_zero (a ∷ l) = refl

module _ (x w m : List ℕ) (zero : get_or x 0 0 ≡ 0) where
  pub applied_zero : (e : Effect) (pc' : ℕ) (x' w' m' : List ℕ) → Applied e x w m pc' x' w' m' → get_or x' 0 0 ≡ 0
  applied_zero (effect.Write rd v next) pc' x' w' m' a = rw a.1 (put_zero (set x (rd % 32) v))
  applied_zero (effect.Jump rd link next pad) pc' x' w' m' a = rw a.2 (put_zero (set x (rd % 32) link))
  applied_zero (effect.Pad next) pc' x' w' m' a = absurd a
  applied_zero (effect.Store q n v next) pc' x' w' m' a = rw a.1 zero
  applied_zero (effect.Push q v top next) pc' x' w' m' a = rw a.1 zero
  applied_zero (effect.Pop top next) pc' x' w' m' a = rw a.1 zero
  applied_zero (effect.Swap rd old q n v next) pc' x' w' m' a = absurd a
  applied_zero (effect.Privileged k) pc' x' w' m' a = absurd a
  applied_zero (effect.Trap cause tval) pc' x' w' m' a = absurd a

  carried_zero : (k : kind.Privileged) (next : ℕ) (x' w' : List ℕ) → Carried k x w next x' w' → get_or x' 0 0 ≡ 0
  carried_zero (privileged.Csr o n writes v rd to) next x' w' a = rw a.2 (put_zero (set x (rd % 32) _))
  carried_zero privileged.Mret next x' w' a = absurd a
  carried_zero privileged.Sret next x' w' a = absurd a

  pub handled_zero : (e : Effect) (next : ℕ) (x' w' : List ℕ) → Handled e x w next x' w' → get_or x' 0 0 ≡ 0
  handled_zero (effect.Write rd v to) next x' w' a = absurd a
  handled_zero (effect.Jump rd link to pad) next x' w' a = absurd a
  handled_zero (effect.Pad to) next x' w' a = absurd a
  handled_zero (effect.Store q n v to) next x' w' a = absurd a
  handled_zero (effect.Push q v top to) next x' w' a = absurd a
  handled_zero (effect.Pop top to) next x' w' a = absurd a
  handled_zero (effect.Swap rd old q n v to) next x' w' a = absurd a
  handled_zero (effect.Privileged k) next x' w' a = carried_zero k next x' w' a
  handled_zero (effect.Trap cause tval) next x' w' a = absurd a

-- pc: each effect goes on at a multiple of 4
abbrev Lands : Effect → Type 0
Lands (effect.Write rd v next) = next % 4 ≡ 0
Lands (effect.Jump rd link next pad) = next % 4 ≡ 0
Lands (effect.Pad next) = Unit {0}
Lands (effect.Store q n v next) = next % 4 ≡ 0
Lands (effect.Push q v top next) = next % 4 ≡ 0
Lands (effect.Pop top next) = next % 4 ≡ 0
Lands (effect.Swap rd old q n v next) = Unit {0}
Lands (effect.Privileged k) = Unit {0}
Lands (effect.Trap cause tval) = Unit {0}

landed : (e : Effect) (x w m : List ℕ) (pc' : ℕ) (x' w' m' : List ℕ) → Lands e → Applied e x w m pc' x' w' m' → pc' % 4 ≡ 0
landed (effect.Write rd v next) x w m pc' x' w' m' l a = rw a.0 l
landed (effect.Jump rd link next pad) x w m pc' x' w' m' l a = rw a.1 l
landed (effect.Pad next) x w m pc' x' w' m' l a = absurd a
landed (effect.Store q n v next) x w m pc' x' w' m' l a = rw a.0 l
landed (effect.Push q v top next) x w m pc' x' w' m' l a = rw a.0 l
landed (effect.Pop top next) x w m pc' x' w' m' l a = rw a.0 l
landed (effect.Swap rd old q n v next) x w m pc' x' w' m' l a = absurd a
landed (effect.Privileged k) x w m pc' x' w' m' l a = absurd a
landed (effect.Trap cause tval) x w m pc' x' w' m' l a = absurd a

chosen : (b : Bool) (e f : Effect) → (b ≡ true → Lands e) → Lands f → Lands (pick b e f)
chosen true e f p q = p refl
chosen false e f p q = q

jal_lands : (rd link target : ℕ) → Lands (jal_of rd link target)
unfolding jal_of
jal_lands rd link target = chosen (eqb (target % 4) 0) _ _ (eqb-true (target % 4) 0) tt

jalr_lands : (rd link target : ℕ) → Lands (jalr_of rd 0 link target false)
unfolding jalr_of
jalr_lands rd link target = chosen (eqb (even_of target % 4) 0) _ _ (eqb-true (even_of target % 4) 0) tt

branch_lands : (taken : Bool) (next target : ℕ) → next % 4 ≡ 0 → Lands (branch_of taken next target)
unfolding branch_of
branch_lands taken next target n = chosen taken _ _ (λ _. jal_lands 0 0 target) n

done_lands : (k : Access) (q : Physical) (rd a b ssp next : ℕ) (m : List ℕ) → next % 4 ≡ 0 → Lands (done_of k q rd a b ssp next m)
unfolding done_of popped_of
done_lands (access.Load n sign) q rd a b ssp next m z = z
done_lands (access.Store n) q rd a b ssp next m z = z
done_lands access.Push q rd a b ssp next m z = z
done_lands access.Pop q rd a b ssp next m z = chosen (eqb (read_of m q (width_of access.Pop)) a) _ _ (λ _. z) tt
done_lands (access.Swap n aq rl) q rd a b ssp next m z = tt

at_lands : (k : Access) (p : PlaceOrFault) (rd a b ssp next : ℕ) (m : List ℕ) → next % 4 ≡ 0 → Lands (at_of k p rd a b ssp next m)
unfolding at_of
at_lands k (Ok q) rd a b ssp next m z = done_lands k q rd a b ssp next m z
at_lands k (Err fault) rd a b ssp next m z = tt

module _ (rd a r v pc ssp : ℕ) (c : Control) (m map : List ℕ) (z : pc % 4 ≡ 0) where
  next_lands : next_of pc % 4 ≡ 0
  next_lands = omega (arith, z)

  shape_lands : (h : Shape) → Lands (shape_does h rd a r v pc ssp c m map)
  shape_lands (Compute o) = next_lands
  shape_lands (ComputeWord o) = next_lands
  shape_lands Jal = jal_lands rd (next_of pc) v
  shape_lands Jalr = jalr_lands rd (next_of pc) _
  shape_lands (Branch k) = branch_lands (condition_of k a r) (next_of pc) v next_lands
  shape_lands (Memory k) = at_lands k _ rd a r ssp (next_of pc) m next_lands
  shape_lands ReadSsp = next_lands
  shape_lands Left = tt

  pub acted_lands : (o : Op) (x w m' : List ℕ) (pc' : ℕ) (x' w' : List ℕ) → Applied (does_of o rd a r v pc ssp c m map) x w m pc' x' w' m'
      → pc' % 4 ≡ 0
  unfolding does_of
  acted_lands o x w m' pc' x' w' d = landed (shape_does (shape_of o) rd a r v pc ssp c m map) x w m pc' x' w' m' (shape_lands (shape_of o)) d

-- a form was carried out at pc, which is its entry's address
module _ (e : Entry) (x w m map : List ℕ) (s : Setting) (st : Straight w) (zero : reg_of x 0 ≡ 0) (es : setting_of w ≡ s)
    (r : Read e s m map) (hb : reg_of x e.rs2 < 2 ^ 64) (hv : e.value < 2 ^ 64) (pc' : ℕ) (x' w' m' : List ℕ) where
  abbrev does_at : (pc : ℕ) → Effect
  does_at pc = does_of e.op e.rd (reg_of x e.rs1) (reg_of x e.rs2) e.value pc (SSP of w) s.control m map

  abbrev Carries : (pc : ℕ) → Type 0
  Carries pc =
      pc % 4 ≡ 0 → Applied (does_at pc) x w m pc' x' w' m'
      → Turned true pc x w m map pc' x' w' m' × (get_or x' 0 0 ≡ 0) × (pc' % 4 ≡ 0)

  own : Carries e.pc
  own z d = (
    acted e x w m map zero (rw es r) hb hv pc' x' w' m' st (rw es d),
    applied_zero x w m zero (does_at e.pc) pc' x' w' m' d,
    acted_lands e.rd _ _ e.value e.pc (SSP of w) s.control m map z e.op x w m' pc' x' w' d,
  )

  pub carried : (pc : ℕ) → e.pc ≡ pc → Carries pc
  carried pc at = subst Carries at own

-- a form that adds was carried out by itself: its sum was written, and pc went on
module _ (e : Entry) (x w m map : List ℕ) (s : Setting) (st : Straight w) (zero : reg_of x 0 ≡ 0) (es : setting_of w ≡ s)
    (r : Read e s m map) (hb : reg_of x e.rs2 < 2 ^ 64) (hv : e.value < 2 ^ 64) (pc' : ℕ) (x' : List ℕ) (adds : e.op ≡ op.Add)
    (pc : ℕ) (d : (pc' ≡ next_of pc) × (x' ≡ put_of e.rd (sum_of (reg_of x e.rs1) (sum_of (reg_of x e.rs2) e.value)) x)) where
  does_sum : Applied (does_at e x w m map s st zero es r hb hv pc' x' w m pc) x w m pc' x' w m
  unfolding does_of
  does_sum = rw adds (d.0, d.1, refl, refl)

  pub summed : e.pc ≡ pc → pc % 4 ≡ 0 → Turned true pc x w m map pc' x' w m × (get_or x' 0 0 ≡ 0) × (pc' % 4 ≡ 0)
  summed at z = carried e x w m map s st zero es r hb hv pc' x' w m pc at z does_sum

-- the setting's mode is the words'
mode_said : (w : List ℕ) → (setting_of w).control.mode ≡ mode_of (MODE of w)
unfolding setting_of control_of
mode_said w = refl

-- a trap handler's CSR instruction was carried out, or nothing changed: x₁, w₁ and m₁ are what a form left, which was not carried out
module _ (e : Entry) (x w m map : List ℕ) (s : Setting) (st : Straight w) (zero : reg_of x 0 ≡ 0) (es : setting_of w ≡ s)
    (r : Read e s m map) (x₁ w₁ m₁ : List ℕ) (ex : x₁ ≡ x) (ew : w₁ ≡ w) (em : m₁ ≡ m) (done : Bool) (x' w' : List ℕ)
    (h : (p ssp : ℕ) (t : Setting) (n map' : List ℕ) → t.control.mode ≡ mode_of (MODE of w₁)
    → Handles done (execute_of (decode_of (load_of m₁ e.at 4)) (load_of m₁ e.at 4) x₁ p ssp t n map') x₁ w₁ (next_of p) x' w') where
  same_handled : Handles done (execute_of (decode_of (load_of m e.at 4)) (load_of m e.at 4) x e.pc (SSP of w) (setting_of w) m map) x w (next_of e.pc) x' w'
  same_handled = (rw (ex, ew, em) at h) e.pc (SSP of w) (setting_of w) m map (mode_said w)

  abbrev On : (pc : ℕ) → Type 0
  On pc = Turned true pc x w m map (next_of pc) x' w' m × (get_or x' 0 0 ≡ 0)

  own_handled : done ≡ true → On e.pc
  own_handled t =
      let d = rw t at same_handled in (
        by_handler e.pc x w m st map (load_of m e.at 4) (fetches e w m map (rw es r)) x' w' d,
        handled_zero x w m zero _ (next_of e.pc) x' w' d,
      )

  pub handled_on : (pc : ℕ) → e.pc ≡ pc → done ≡ true → On pc
  handled_on pc at t = subst On at (own_handled t)

  pub handled_off : done ≡ false → (x' ≡ x) × (w' ≡ w)
  handled_off t = rw t at same_handled

-- where nothing changed, what is left of the whole is what it was
pub returned : (whole : Run) (budget left pc : ℕ) (x w m x' w' m' map : List ℕ) (t : Setting) → x' ≡ x → w' ≡ w → m' ≡ m
    → Midway whole budget left Fetch (hart_at pc x w) m map → setting_of w ≡ t
    → Midway whole budget left Fetch (hart_at pc x' w') m' map × (setting_of w' ≡ t)
returned whole budget left pc x w m x' w' m' map t ex ew em d e = rw (ex, ew, em) (d, e)
