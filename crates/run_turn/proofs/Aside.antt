-- pc kept aside: the effect of the step at pc, and what is stored beside it.
-- Assumes nothing.
use mathlib.Core.List.{List}
use mathlib.Core.Path.{◌≡◌, refl, sym, ap, ◌∙◌}
use mathlib.Core.Bool.{Bool, true, false}
use Prim.Native.Nat.{ℕ, ◌≤◌}
use native.Mathlib.Omega.{arith}
use lib.ListN.{length, length-set}
use lib.Seq.{get_or-set_same, get_or-set_other, set-get_or, set-set, set_comm}
use Rattle.word.specs.Choice.{pick}
use Rattle.csr.specs.declared.Csr.{Csr}
use Rattle.step_meaning.specs.Plan.{effect_of}
use Rattle.step_meaning.specs.declared.Source.{Source}
use Rattle.csr_words.specs.Words.{◌of◌, ◌but◌≔◌, expected, csr_slot_of, PC, ELP, SSP, MENVCFG, COUNT}
use Rattle.csr_words.specs.Warl.{shown_of, written_of, csr_write_of}
use Rattle.csr_words.specs.Setting.{setting_of}
use Rattle.csr_words.proofs.Lawful.{placed}
use Rattle.csr_words.proofs.Stored.{setting_kept}
use Rattle.step_hart.specs.Step.{plan_of}
use Rattle.run_turn.specs.Glide.{hart_at, Straight}

module _ (pc : ℕ) (x w : List ℕ) where
  -- the effect of the step at pc
  pub planned_at : length w ≡ COUNT → (source : Source) (m map : List ℕ)
      → plan_of source (hart_at pc x w) m map ≡ effect_of source x pc (expected w) (SSP of w) (setting_of w) m map
  planned_at size source m map =
      rw (
        get_or-set_same w PC pc 0 (rw size (omega arith)),
        get_or-set_other w PC ELP pc 0 (omega arith),
        get_or-set_other w PC SSP pc 0 (omega arith),
        setting_kept PC pc w refl,
      )

  -- another pc, and another word
  pub moved : (k v next : ℕ) → (PC ≡ k → ⊥) → (w but PC ≔ pc but PC ≔ next but k ≔ v) ≡ (w but k ≔ v but PC ≔ next)
  moved k v next n = ap (λ (l : List ℕ). l but k ≔ v) (set-set w PC pc next) ∙ set_comm w PC k next v n

  -- elp stays 0
  pub still : (next : ℕ) → Straight w → (w but PC ≔ pc but PC ≔ next but ELP ≔ 0) ≡ (w but PC ≔ next)
  still next st =
      moved ELP 0 next (omega arith) ∙ ap (λ (l : List ℕ). l but PC ≔ next) (ap (λ (v : ℕ). w but ELP ≔ v) (sym st.1) ∙ set-get_or w ELP 0)

  -- a CSR's word does not depend on pc: what it shows, what a write leaves, and where that is stored
  module _ (n : Csr) where
    behind : 3 ≤ csr_slot_of n
    behind = (placed n).behind

    pub shown_at : shown_of n (w but PC ≔ pc) ≡ shown_of n w
    unfolding shown_of
    shown_at = rw (get_or-set_other w PC MENVCFG pc 0 (omega arith), get_or-set_other w PC (csr_slot_of n) pc 0 (omega (arith, behind)))

    written_at : (v : ℕ) → written_of n v (w but PC ≔ pc) ≡ written_of n v w
    unfolding written_of
    written_at v = rw (get_or-set_other w PC MENVCFG pc 0 (omega arith), get_or-set_other w PC (csr_slot_of n) pc 0 (omega (arith, behind)))

    pub csr_at_lem : (writes : Bool) (v next : ℕ)
        → (pick writes (csr_write_of n v (w but PC ≔ pc)) (w but PC ≔ pc) but PC ≔ next) ≡ (pick writes (csr_write_of n v w) w but PC ≔ next)
    csr_at_lem true v next =
        ap (λ (u : ℕ). w but PC ≔ pc but csr_slot_of n ≔ u but PC ≔ next) (written_at v)
        ∙ ap (λ (l : List ℕ). l but PC ≔ next) (set_comm w PC (csr_slot_of n) pc (written_of n v w) (omega (arith, behind)))
        ∙ set-set (csr_write_of n v w) PC pc next
    csr_at_lem false v next = set-set w PC pc next

-- no landing pad is expected after a store of any other word
pub still_straight : (w : List ℕ) → Straight w → (k v : ℕ) → 3 ≤ k → Straight (w but k ≔ v)
still_straight w st k v le = (rw length-set st.0, rw (get_or-set_other w k ELP v 0 (omega (arith, le))) st.1)
