-- What is known beforehand about a stretch of steps.
use Rattle.std.specs.Prelude.{◌≡◌}
use Rattle.address.specs.Control.{flat_of}
use Rattle.csr_setting.specs.declared.Setting.{Setting}
use Rattle.step_meaning.specs.declared.Context.{Context}

-- k knows this setting, and what follows from it
abbrev pub Knows : Context → Setting → Type 0
Knows k s = (k.setting ≡ s) × (k.flat ≡ flat_of s.control)
