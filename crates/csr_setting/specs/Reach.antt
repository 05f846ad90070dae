-- Which CSR an address names. Rules 5.1 to 5.4 of docs/HART.md.
use Rattle.std.specs.Prelude.{ℕ, Option}
use Rattle.csr_access.specs.Enable.{permits_of}
use Rattle.csr_access.specs.Reach.{reach_of}
use Rattle.csr.specs.declared.Csr.{Csr}
use Rattle.isa.specs.Mode.{mode_of}

-- the CSR that an address names, or none, which is illegal, in a mode with these menvcfg and senvcfg
unfoldable pub csr_named_of : (mode menvcfg senvcfg address : ℕ) → Option Csr
csr_named_of mode menvcfg senvcfg address = reach_of (mode_of mode) (permits_of (mode_of mode) menvcfg senvcfg) address
