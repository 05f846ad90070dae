-- What a mode and the CSRs say about an instruction. Rule 5.22 of docs/HART.md.
use Rattle.std.specs.Prelude.{Bool, true, false, List, ℕ}
use Rattle.word.specs.Choice.{Table, ◌⇒◌¦◌, otherwise, look}
use Rattle.isa.specs.Mode.{mode_of}
use Rattle.csr_access.specs.Enable.{permits_of}
use Rattle.csr_setting.specs.Regime.{control_of, shadow_on, pad_on}
use Rattle.csr_setting.specs.declared.Setting.{Setting}
use Rattle.csr_words.specs.Words.{◌of◌, MODE, MSTATUS, SATP, MENVCFG, SENVCFG, MSECCFG}

unfoldable pub setting_of : (w : List ℕ) → Setting
setting_of w = record {
  control = control_of (MODE of w) (MSTATUS of w) (SATP of w) (MENVCFG of w) (SENVCFG of w) (MSECCFG of w);
  shadow = shadow_on (MODE of w) (MENVCFG of w) (SENVCFG of w);
  permitted = permits_of (mode_of (MODE of w)) (MENVCFG of w) (SENVCFG of w);
  pad = pad_on (MODE of w) (MENVCFG of w) (SENVCFG of w) (MSECCFG of w);
}

-- whether a setting depends on word k
abbrev pub switching : Table Bool
switching = MODE ⇒ true ¦ SENVCFG ⇒ true ¦ SATP ⇒ true ¦ MSTATUS ⇒ true ¦ MENVCFG ⇒ true ¦ MSECCFG ⇒ true ¦ otherwise false

abbrev pub switches : (k : ℕ) → Bool
switches k = look k switching
