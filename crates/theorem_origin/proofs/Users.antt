-- User mode: what the regime in force is there, and that no completed step changes the mode or a CSR.
-- Assumes nothing.
use mathlib.Core.Bool.{Bool, true, false, true≢false}
use mathlib.Core.List.{List, [], ◌∷◌}
use mathlib.Core.Path.{◌≡◌, refl, sym, ap, ◌∙◌}
use Prim.Native.Nat.{ℕ, ◌/◌, ◌^◌}
use lib.ListN.{length, length-set}
use lib.Seq.{get_or-set_other}
use borrow.Author.Tests.{eq-eqb}
use Rattle.isa.specs.declared.CsrOperation.{CsrOperation}
use Rattle.isa.specs.declared.Kind.{Kind}
use Rattle.isa.specs.declared.Kind.TheVariants.{Fetch, Load, Store, Push, Pop, Swap}
use Rattle.isa.specs.declared.Mode.TheVariants.{User}
use Rattle.address.specs.Control as control
use Rattle.address.specs.Control.{paged_of}
use Rattle.address.specs.declared.control.Control.{Control}
use Rattle.isa.specs.Mode.{mode_of}
use Rattle.csr.specs.declared.Csr.{Csr}
use Rattle.csr.specs.declared.Csr.TheVariants.{Ssp}
use Rattle.step_effect.specs.declared.Effect.{Effect}
use Rattle.step_effect.specs.declared.Effect.TheVariants as effect
use Rattle.step_effect.specs.declared.Privileged.{Privileged}
use Rattle.step_effect.specs.declared.Privileged.TheVariants as privileged
use Rattle.step_meaning.specs.declared.Source.{Source}
use Rattle.csr_setting.specs.Regime.{control_of}
use Rattle.csr_words.specs.Words.{◌of◌, ◌but◌≔◌, PC, MODE, ELP, SSP, SATP, MSTATUS, MENVCFG, SENVCFG, MSECCFG}
use Rattle.csr_words.specs.Setting.{setting_of}
use Rattle.csr_words.proofs.Stored.{among}
use Rattle.step_hart.specs.Step.{csr_of, privileged_of, apply_of, traps_of, plan_of}
use Rattle.step_hart.specs.declared.Hart.{Hart}
use Rattle.theorem_origin.specs.Force.{in_force}
use Rattle.theorem_origin.proofs.Origins.{Origin, PrivilegedOrigin, origin}

-- the mode of a hart in user mode
pub in_user : (h : Hart) → MODE of h.words ≡ 0 → (in_force h).mode ≡ User
unfolding setting_of control_of mode_of
in_user h e = rw e

-- satp.MODE 8 is Sv39
pub sv39_on : (h : Hart) → SATP of h.words / 2 ^ 60 ≡ 8 → (in_force h).sv39 ≡ true
unfolding setting_of control_of
sv39_on h e = eq-eqb (SATP of h.words / 2 ^ 60) 8 e

-- in user mode MPRV changes no access
pub user_mode : (c : Control) (k : Kind) → c.mode ≡ User → control.effective_mode_of c k ≡ User
unfolding control.effective_mode_of
user_mode c Fetch u = u
user_mode c Load u = rw u
user_mode c Store u = rw u
user_mode c Push u = u
user_mode c Pop u = u
user_mode c Swap u = rw u

-- so under Sv39 every access goes by the map
pub user_paged : (c : Control) (k : Kind) → c.mode ≡ User → c.sv39 ≡ true → paged_of (control.effective_mode_of c k) c.sv39 ≡ true
user_paged c k u s = rw (user_mode c k u, s)

-- pc, elp and ssp, which are not the mode and no other CSR
abbrev pub moves : (k : ℕ) → Bool
moves k = among k (PC ∷ ELP ∷ SSP ∷ [])

-- v has the mode and the CSRs of w
pub record Same (w v : List ℕ) : Type 0 where
  pub long : length v ≡ length w
  pub kept : (k : ℕ) → moves k ≡ false → k of v ≡ k of w

pub same : (w : List ℕ) → Same w w
same w = record { long = refl; kept = λ k off. refl }

pub same_on : (u v w : List ℕ) → Same u v → Same v w → Same u w
same_on u v w s t = record { long = t.long ∙ s.long; kept = λ k off. t.kept k off ∙ s.kept k off }

-- and so its regime
pub same_force : (h g : Hart) → Same h.words g.words → in_force g ≡ in_force h
unfolding setting_of
same_force h g s =
    rw (s.kept MODE refl, s.kept MSTATUS refl, s.kept SATP refl, s.kept MENVCFG refl, s.kept SENVCFG refl, s.kept MSECCFG refl)

-- pc, elp or ssp, stored
put : (k n : ℕ) → moves k ≡ true → {w v : List ℕ} → Same w v → Same w (v but k ≔ n)
put k n on {w} {v} s = record {
  long = rw length-set s.long;
  kept = λ j off. get_or-set_other v k j n 0 (λ e. true≢false (sym on ∙ (ap moves (sym e) ∙ off))) ∙ s.kept j off;
}

module _ (source : Source) (h : Hart) (m map : List ℕ) (user : (in_force h).mode ≡ User) where
  abbrev to : (next : ℕ) → Same h.words (h.words but PC ≔ next)
  to next = put PC next refl (same h.words)

  -- a CSR instruction that names ssp changes no other CSR
  pointer_keeps : (o : CsrOperation) (n : Csr) (writes : Bool) (v rd next : ℕ) → n ≡ Ssp → Same h.words (csr_of o n writes v rd next h).words
  unfolding csr_of
  pointer_keeps o n true v rd next e = rw e (put PC next refl (put SSP _ refl (same h.words)))
  pointer_keeps o n false v rd next e = to next

  privileged_keeps : (k : Privileged) → PrivilegedOrigin source h m map k → Same h.words (privileged_of k h).words
  unfolding privileged_of
  privileged_keeps (privileged.Csr o n writes v rd next) w = pointer_keeps o n writes v rd next (w.0 user)
  privileged_keeps privileged.Mret w = absurd (w user)
  privileged_keeps privileged.Sret w = absurd (w user)

  effect_keeps : (e : Effect) → Origin source h m map e → traps_of e ≡ false → Same h.words (apply_of e h).words
  effect_keeps (effect.Write rd v next) o t = to next
  effect_keeps (effect.Jump rd link next elp) o t = put ELP _ refl (to next)
  effect_keeps (effect.Pad next) o t = put ELP 0 refl (to next)
  effect_keeps (effect.Store q w v next) o t = to next
  effect_keeps (effect.Push q v ssp next) o t = put SSP ssp refl (to next)
  effect_keeps (effect.Pop ssp next) o t = put SSP ssp refl (to next)
  effect_keeps (effect.Swap rd old q w v next) o t = to next
  effect_keeps (effect.Privileged k) o t = privileged_keeps k o
  effect_keeps (effect.Trap cause tval) o t = absurd (true≢false t)

  -- a step in user mode that does not trap keeps the mode and the CSRs
  pub user_keeps : traps_of (plan_of source h m map) ≡ false → Same h.words (apply_of (plan_of source h m map) h).words
  user_keeps t = effect_keeps (plan_of source h m map) (origin source h m map) t
