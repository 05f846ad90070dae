-- Reading back what was written, for every CSR: a read after a write shows what each field took; every other word stays as it
-- was stored. And what U may do to a CSR.
-- Assumes nothing.
use mathlib.Core.Path.{◌≡◌, refl, ap, ◌∙◌}
use mathlib.Core.Bool.{Bool, true, false, ◌&&◌}
use mathlib.Core.List.{List}
use Prim.Native.Nat.{ℕ, ◌^◌, ◌<◌}
use lib.Dec.{eqb}
use lib.ListN.{length}
use lib.Seq.{get_or-set_same, get_or-set_other}
use borrow.Author.Tests.{eqb-true, eqb-false}
use Rattle.isa.specs.declared.Mode.TheVariants.{User}
use Rattle.word.specs.Choice.{pick}
use Rattle.word.specs.Row.{Field, row_write_of, row_read_of}
use Rattle.word.proofs.Rows.{all_seen_of, back_of, back, shown}
use Rattle.isa.specs.Mode.{mode_of}
use Rattle.csr.specs.Row.{row_of}
use Rattle.csr.specs.declared.Csr.{Csr}
use Rattle.csr.specs.declared.Csr.TheVariants.{Ssp}
use Rattle.csr.proofs.Made.{all_fit_lem, sixty_four, alike}
use Rattle.csr_access.specs.Enable.{sse_of, permits_of}
use Rattle.csr_access.specs.Reach.{reach_of}
use Rattle.std.specs.Prelude.{Some, None}
use Rattle.csr_access.proofs.Users.{user_ssp}
use Rattle.csr_setting.specs.Reach.{csr_named_of}
use Rattle.csr_setting.specs.Regime.{control_of}
use Rattle.csr_words.specs.Words.{◌of◌, ◌but◌≔◌, csr_slot_of, COUNT, MODE, SSP, SENVCFG, MENVCFG}
use Rattle.csr_words.specs.Warl.{shown_of, written_of, csr_write_of}
use Rattle.csr_words.specs.Legal.{holds}
use Rattle.csr_words.specs.Setting.{setting_of}
use Rattle.csr_words.proofs.Lawful.{placed, left_by_write}

-- a write does not change the row of its own CSR: menvcfg's is always the same, and no other changes menvcfg.SSE
row_stays : (n : Csr) (v : ℕ) (w : List ℕ) → row_of n (sse_of (MENVCFG of (w but csr_slot_of n ≔ v))) ≡ row_of n (sse_of (MENVCFG of w))
row_stays n v w = at (eqb MENVCFG (csr_slot_of n)) refl
  where
    at : (b : Bool) → eqb MENVCFG (csr_slot_of n) ≡ b → row_of n (sse_of (MENVCFG of (w but csr_slot_of n ≔ v))) ≡ row_of n (sse_of (MENVCFG of w))
    at true e = (placed n).own (eqb-true MENVCFG (csr_slot_of n) e) _ _
    at false e = ap (λ (m : ℕ). row_of n (sse_of m)) (get_or-set_other w (csr_slot_of n) MENVCFG v 0 (eqb-false MENVCFG (csr_slot_of n) e))

module _ (n : Csr) (v : ℕ) (w : List ℕ) (size : length w ≡ COUNT) where
  abbrev row : List Field
  row = row_of n (sse_of (MENVCFG of w))

  -- a read after a write of v shows what each field took
  pub read_back : shown_of n (csr_write_of n v w) ≡ back_of row (csr_slot_of n of w) v
  unfolding written_of shown_of
  read_back =
      let old : ℕ = csr_slot_of n of w in
      let new : ℕ = row_write_of row old v in
      rw (row_stays n new w, get_or-set_same w (csr_slot_of n) new 0 (rw size (placed n).small)) (back row old v (all_fit_lem n (sse_of (MENVCFG of w))))

  -- a value that the CSR can hold is read back as it was written, where nothing of the CSR is hidden
  pub same_back : all_seen_of row ≡ true → v < 2 ^ 64 → holds n v ≡ true → shown_of n (csr_write_of n v w) ≡ v
  unfolding shown_of
  same_back e l t =
      let sse : Bool = sse_of (MENVCFG of w) in
      ap (λ (fs : List Field). row_read_of fs (csr_slot_of n of csr_write_of n v w)) (row_stays n (written_of n v w) w)
      ∙ ap (λ (m : ℕ). row_read_of row m) (left_by_write n w v size e l t)
      ∙ shown row v e (rw (sixty_four n sse) l) (alike n sse v ∙ t)

-- a write of one CSR leaves every other word as it was; sstatus and mstatus have one word
pub others_stay : (j : ℕ) (n : Csr) (v : ℕ) (w : List ℕ) → (j ≡ csr_slot_of n → ⊥) → j of csr_write_of n v w ≡ j of w
others_stay j n v w d = get_or-set_other w (csr_slot_of n) j (written_of n v w) 0 d

-- in U no address names a CSR but ssp's
pub user_reaches : (menvcfg senvcfg address : ℕ) (n : Csr) → csr_named_of 0 menvcfg senvcfg address ≡ Some n → n ≡ Ssp
unfolding csr_named_of mode_of
user_reaches menvcfg senvcfg address n e = user_ssp (permits_of User menvcfg senvcfg) address n e

-- so a CSR write that U may make changes ssp and nothing else
pub user_write : (menvcfg senvcfg address : ℕ) (n : Csr) (v : ℕ) (w : List ℕ) → csr_named_of 0 menvcfg senvcfg address ≡ Some n
    → csr_write_of n v w ≡ (w but SSP ≔ written_of Ssp v w)
user_write menvcfg senvcfg address n v w e = rw (user_reaches menvcfg senvcfg address n e)

-- and U reaches ssp exactly where both SSE are 1
pub user_pointer : (menvcfg senvcfg : ℕ) → csr_named_of 0 menvcfg senvcfg 0x011 ≡ pick (sse_of menvcfg && sse_of senvcfg) (Some Ssp) None
unfolding csr_named_of mode_of reach_of
user_pointer menvcfg senvcfg = refl

-- what a step's CSR instruction asks, with the setting of the step, is this
pub reached_by_a_step : (w : List ℕ) (address : ℕ)
    → reach_of (setting_of w).control.mode (setting_of w).permitted address ≡ csr_named_of (MODE of w) (MENVCFG of w) (SENVCFG of w) address
unfolding csr_named_of setting_of control_of
reached_by_a_step w address = refl
