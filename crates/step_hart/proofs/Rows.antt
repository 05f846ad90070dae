-- The worked cases of docs/HART.md, 14.2 (row 5), 14.3 (6 and 7) and 14.4 (8 and 9), as steps of any hart that they speak of: the whole
-- outcome. (14.1, rows 1 to 4, and 14.5, row 10, are address/proofs/Rows.antt.)
-- Assumes nothing.
use mathlib.Core.Bool.{Bool, true, false, ◌&&◌}
use mathlib.Core.List.{List}
use mathlib.Core.Path.{◌≡◌}
use Prim.Native.Nat.{ℕ}
use Rattle.decode.proofs.Examples.{row_5, row_8, row_9}
use Rattle.step_meaning.specs.Instruction.{next_of, execute_of}
use Rattle.step_effect.specs.Jump.{jalr_of}
use Rattle.step_meaning.specs.declared.Source.TheVariants.{Given}
use Rattle.step_meaning.specs.Plan.{fetched_of, landed_of, arrived_of, effect_of}
use Rattle.step_effect.specs.Register.{reg_of, put_of}
use Rattle.csr_setting.specs.Regime.{shadow_on, pad_on}
use Rattle.csr_words.specs.Words.{◌of◌, ◌but◌≔◌, expected, PC, MODE, ELP, SSP, SENVCFG, MENVCFG, MSECCFG}
use Rattle.csr_words.specs.Setting.{setting_of}
use Rattle.csr_words.specs.Trap.{trap_of}
use Rattle.step_hart.specs.Hart.{hart}
use Rattle.step_hart.specs.Step.{Outcome, step_from}
use Rattle.step_hart.specs.declared.Hart.{Hart}

-- the step that takes a given word as if it had been fetched there
abbrev step_word_of : (word : ℕ) → Hart → (m map : List ℕ) → Outcome
step_word_of word h m map = step_from (Given word) h m map

-- a step that did not trap and left memory as it was
abbrev went : (x w m : List ℕ) → Outcome
went x w m = record { hart = hart x w; memory = m; trapped = false; cause = 0 }

module _ (x w m map : List ℕ) where
  -- the pad enable and the active shadow enable of the hart
  abbrev pads : Bool
  pads = pad_on (MODE of w) (MENVCFG of w) (SENVCFG of w) (MSECCFG of w)

  abbrev shadow : Bool
  shadow = shadow_on (MODE of w) (MENVCFG of w) (SENVCFG of w)

  -- 0xCDC04573, shadow enable on: reads ssp into x10 (where no landing pad is expected, which the row leaves unsaid)
  pub step_5 : shadow ≡ true → expected w && pads ≡ false
      → step_word_of 0xCDC04573 (hart x w) m map ≡ went (put_of 10 (SSP of w) x) (w but PC ≔ next_of (PC of w)) m
  unfolding step_from effect_of fetched_of arrived_of landed_of execute_of setting_of
  step_5 on skipped = rw (skipped, row_5, on)

  -- 0x12345017, x7 = 0x12345FFF, expected: passes
  pub step_6 : ELP of w ≡ 1 → pads ≡ true → reg_of x 7 ≡ 0x12345FFF
      → step_word_of 0x12345017 (hart x w) m map ≡ went x (w but PC ≔ next_of (PC of w) but ELP ≔ 0) m
  unfolding step_from effect_of fetched_of arrived_of landed_of setting_of
  step_6 elp on x7 = rw (elp, on, x7)

  -- the same, x7 = 0x12346000: 18, tval 2
  pub step_7 : ELP of w ≡ 1 → pads ≡ true → reg_of x 7 ≡ 0x12346000
      → step_word_of 0x12345017 (hart x w) m map ≡ record { hart = hart x (trap_of w 18 2); memory = m; trapped = true; cause = 18 }
  unfolding step_from effect_of fetched_of arrived_of landed_of setting_of
  step_7 elp on x7 = rw (elp, on, x7)

  -- 0x000500E7, pads on, ELP 0, x10 = 0: ELP 1
  pub step_8 : ELP of w ≡ 0 → pads ≡ true → reg_of x 10 ≡ 0
      → step_word_of 0x000500E7 (hart x w) m map ≡ went (put_of 1 (next_of (PC of w)) x) (w but PC ≔ 0 but ELP ≔ 1) m
  unfolding step_from effect_of fetched_of arrived_of landed_of execute_of jalr_of setting_of
  step_8 elp on x10 = rw (elp, row_8, on, x10)

  -- 0x00038067, pads on, ELP 0, x7 = 0: ELP 0
  pub step_9 : ELP of w ≡ 0 → pads ≡ true → reg_of x 7 ≡ 0
      → step_word_of 0x00038067 (hart x w) m map ≡ went (put_of 0 (next_of (PC of w)) x) (w but PC ≔ 0 but ELP ≔ 0) m
  unfolding step_from effect_of fetched_of arrived_of landed_of execute_of jalr_of setting_of
  step_9 elp on x7 = rw (elp, row_9, on, x7)
