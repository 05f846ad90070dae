-- `apply::apply` meets its contract: no setting depends on pc, ELP or ssp. Assumes nothing.
use mathlib.Core.Path.{refl, ◌∙◌}
use Rattle.csr_words.specs.Words.{PC, ELP, SSP}
use Rattle.csr_words.proofs.Stored.{setting_kept}
use Rattle.step_hart.proofs.apply.apply.Goals as goal

pub returns-in-Write-clause-setting : goal.returns-in-Write-clause-setting
returns-in-Write-clause-setting c = λ z. setting_kept PC _ _ refl

pub returns-in-Jump-clause-setting : goal.returns-in-Jump-clause-setting
returns-in-Jump-clause-setting c = λ z. setting_kept ELP _ _ refl ∙ setting_kept PC _ _ refl

pub returns-in-Pad-clause-setting : goal.returns-in-Pad-clause-setting
returns-in-Pad-clause-setting c = λ z. setting_kept ELP _ _ refl ∙ setting_kept PC _ _ refl

pub returns-in-Store-clause-setting : goal.returns-in-Store-clause-setting
returns-in-Store-clause-setting c = λ z. setting_kept PC _ _ refl

pub returns-in-Push-clause-setting : goal.returns-in-Push-clause-setting
returns-in-Push-clause-setting c = λ z. setting_kept SSP _ _ refl ∙ setting_kept PC _ _ refl

pub returns-in-Pop-clause-setting : goal.returns-in-Pop-clause-setting
returns-in-Pop-clause-setting c = λ z. setting_kept SSP _ _ refl ∙ setting_kept PC _ _ refl

pub returns-in-Swap-clause-setting : goal.returns-in-Swap-clause-setting
returns-in-Swap-clause-setting c = λ z. setting_kept PC _ _ refl
