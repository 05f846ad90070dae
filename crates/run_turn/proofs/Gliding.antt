-- What the quick way and a handler's CSR instruction do, is a step: along the cases of the effect that they say they applied.
-- Assumes nothing.
use mathlib.Core.Bool.{Bool, true, false}
use mathlib.Core.List.{List}
use mathlib.Core.Path.{◌≡◌, refl, sym, ap, subst, ◌∙◌}
use Prim.Native.Nat.{ℕ}
use native.Mathlib.Omega.{arith}
use lib.Seq.{set-set}
use Rattle.word.specs.Choice.{pick}
use Rattle.decode.specs.Decode.{decode_of}
use Rattle.csr.specs.declared.Csr.{Csr}
use Rattle.step_transfer.specs.Commit.{memory_of}
use Rattle.step_effect.specs.Csrs.{merged_of}
use Rattle.step_effect.specs.Register.{put_of}
use Rattle.step_effect.specs.declared.Effect.{Effect}
use Rattle.step_effect.specs.declared.Effect.TheVariants.{Write, Jump, Pad, Store, Push, Pop, Swap, Privileged, Trap}
use Rattle.step_effect.specs.declared.Privileged as kind
use Rattle.step_effect.specs.declared.Privileged.TheVariants as privileged
use Rattle.step_meaning.specs.Instruction.{execute_of, next_of}
use Rattle.step_meaning.specs.Plan.{landed_of, arrived_of, effect_of}
use Rattle.step_meaning.specs.declared.Source.TheVariants.{Fetch}
use Rattle.csr_words.specs.Words.{◌of◌, ◌but◌≔◌, csr_slot_of, PC, SSP}
use Rattle.csr_words.specs.Warl.{shown_of, written_of, csr_write_of}
use Rattle.csr_words.specs.Setting.{setting_of, switches}
use Rattle.csr_words.proofs.Lawful.{placed}
use Rattle.csr_words.proofs.Stored.{setting_kept}
use Rattle.run_done.specs.Moves.{Applied, Does}
use Rattle.run_csrs.specs.Handler.{Carried, Handled, Handles}
use Rattle.step_hart.specs.Hart.{hart}
use Rattle.step_hart.specs.Step.{csr_of, privileged_of, apply_of, traps_of, plan_of, step_from}
use Rattle.run_turn.specs.Glide.{hart_at, Straight, Fetches, Turned}
use Rattle.run_turn.proofs.Aside.{planned_at, moved, still, shown_at, csr_at_lem, still_straight}

module _ (pc : ℕ) (x w m : List ℕ) (st : Straight w) where
  -- a step's effect e was applied
  abbrev Did : Effect → (pc' : ℕ) → (x' w' m' : List ℕ) → Type 0
  Did e pc' x' w' m' =
      (traps_of e ≡ false)
      × (apply_of e (hart_at pc x w) ≡ hart_at pc' x' w')
      × (memory_of e m ≡ m')
      × Straight w'
      × (setting_of w' ≡ setting_of w)

  -- ssp moved
  moved_ssp : (e : Effect) (top next : ℕ) → traps_of e ≡ false → apply_of e (hart_at pc x w) ≡ hart x (w but PC ≔ pc but PC ≔ next but SSP ≔ top)
      → Did e next x (w but SSP ≔ top) (memory_of e m)
  moved_ssp e top next t a =
      (t, a ∙ ap (hart x) (moved pc x w SSP top next (omega arith)), refl, still_straight w st SSP top (omega arith), setting_kept SSP top w refl)

  applied : (e : Effect) (pc' : ℕ) (x' w' m' : List ℕ) → Applied e x w m pc' x' w' m' → Did e pc' x' w' m'
  applied (Write rd v next) pc' x' w' m' a = rw (a.0, a.1, a.2, a.3) (refl, ap (hart (put_of rd v x)) (set-set w PC pc next), refl, st, refl)
  applied (Jump rd link next pad) pc' x' w' m' a =
      rw (a.0, a.1, a.2, a.3, a.4) (refl, ap (hart (put_of rd link x)) (still pc x w next st), refl, st, refl)
  applied (Pad next) pc' x' w' m' a = absurd a
  applied (Store q k v next) pc' x' w' m' a = rw (a.0, a.1, a.2, a.3) (refl, ap (hart x) (set-set w PC pc next), refl, st, refl)
  applied (Push q v top next) pc' x' w' m' a = rw (a.0, a.1, a.2, a.3) (moved_ssp (Push q v top next) top next refl refl)
  applied (Pop top next) pc' x' w' m' a = rw (a.0, a.1, a.2, a.3) (moved_ssp (Pop top next) top next refl refl)
  applied (Swap rd old q k v next) pc' x' w' m' a = absurd a
  applied (Privileged k) pc' x' w' m' a = absurd a
  applied (Trap cause tval) pc' x' w' m' a = absurd a

  -- a CSR that no setting depends on, where the instruction writes
  module _ (n : Csr) (v : ℕ) where
    changed_straight : (writes : Bool) → Straight (pick writes (csr_write_of n v w) w)
    changed_straight true = still_straight w st (csr_slot_of n) (written_of n v w) (placed n).behind
    changed_straight false = st

    changed_setting : (writes : Bool) → switches (csr_slot_of n) ≡ false → setting_of (pick writes (csr_write_of n v w) w) ≡ setting_of w
    changed_setting true off = setting_kept (csr_slot_of n) (written_of n v w) w off
    changed_setting false off = refl

  carried_out : (k : kind.Privileged) (next : ℕ) (x' w' : List ℕ) → Carried k x w next x' w' → Did (Privileged k) next x' w' m
  unfolding privileged_of csr_of
  carried_out (privileged.Csr o n writes v rd to) next x' w' a =
      rw (← a.0, a.2, a.3) (
        refl,
        rw (shown_at pc x w n) (ap (hart (put_of rd (shown_of n w) x)) (csr_at_lem pc x w n writes (merged_of o (shown_of n w) v) to)),
        refl,
        changed_straight n (merged_of o (shown_of n w) v) writes,
        changed_setting n (merged_of o (shown_of n w) v) writes a.1,
      )
  carried_out privileged.Mret next x' w' a = absurd a
  carried_out privileged.Sret next x' w' a = absurd a

  handled : (e : Effect) (next : ℕ) (x' w' : List ℕ) → Handled e x w next x' w' → Did e next x' w' m
  handled (Write rd v to) next x' w' a = absurd a
  handled (Jump rd link to pad) next x' w' a = absurd a
  handled (Pad to) next x' w' a = absurd a
  handled (Store q k v to) next x' w' a = absurd a
  handled (Push q v top to) next x' w' a = absurd a
  handled (Pop top to) next x' w' a = absurd a
  handled (Swap rd old q k v to) next x' w' a = absurd a
  handled (Privileged k) next x' w' a = carried_out k next x' w' a
  handled (Trap cause tval) next x' w' a = absurd a

  module _ (map : List ℕ) (word : ℕ) (at : Fetches word pc w m map) where
    -- the effect of the step is that of the word's instruction
    abbrev effect : Effect
    effect = execute_of (decode_of word) word x pc (SSP of w) (setting_of w) m map

    planned : plan_of Fetch (hart_at pc x w) m map ≡ effect
    unfolding effect_of arrived_of landed_of
    planned = planned_at pc x w st.0 Fetch m map ∙ rw (st.1, at)

    told : (pc' : ℕ) (x' w' m' : List ℕ) → Did effect pc' x' w' m' → Turned true pc x w m map pc' x' w' m'
    unfolding step_from
    told pc' x' w' m' d = subst (λ (e : Effect). Did e pc' x' w' m') (sym planned) d

    pub quickly : (done : Bool) (pc' : ℕ) (x' w' m' : List ℕ) → Does done effect x w m pc' x' w' m' → Turned done pc x w m map pc' x' w' m'
    quickly true pc' x' w' m' d = told pc' x' w' m' (applied effect pc' x' w' m' d)
    quickly false pc' x' w' m' d = d

    pub by_handler : (x' w' : List ℕ) → Handles true effect x w (next_of pc) x' w' → Turned true pc x w m map (next_of pc) x' w' m
    by_handler x' w' d = told (next_of pc) x' w' m (handled effect (next_of pc) x' w' d)
