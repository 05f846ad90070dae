-- The CSR instructions: which CSR, with which operand, and whether it is written. Rules 4.27 and 4.28 of docs/HART.md.
use Rattle.std.specs.Prelude.{Bool, true, not, List, ℕ, ◌-◌, ◌^◌, eqb, Option, Some, None}
use Rattle.std.specs.Int.Bits.{bit_and, bit_or}
use Rattle.isa.specs.declared.CsrOperation.{CsrOperation}
use Rattle.isa.specs.declared.CsrOperation.TheVariants.{Write, Set, Clear}
use Rattle.isa.specs.declared.CsrSource.{CsrSource}
use Rattle.isa.specs.declared.CsrSource.TheVariants.{Register, Immediate}
use Rattle.isa.specs.declared.Mode.{Mode}
use Rattle.csr_access.specs.Reach.{reach_of}
use Rattle.csr.specs.declared.Csr.{Csr}
use Rattle.step_effect.specs.Register.{reg_of}
use Rattle.step_effect.specs.System.{trap_with}
use Rattle.csr_access.specs.Exception.{illegal_of}
use Rattle.step_effect.specs.declared.Effect.{Effect}
use Rattle.step_effect.specs.declared.Effect.TheVariants as effect
use Rattle.step_effect.specs.declared.Privileged.TheVariants as privileged

-- CSRRS and CSRRC with x0 or 0 do not write
abbrev pub writes_of : CsrOperation → (field : ℕ) → Bool
writes_of Write field = true
writes_of Set field = not (eqb field 0)
writes_of Clear field = not (eqb field 0)

-- the register's number, or the number itself
abbrev pub field_of : CsrSource → ℕ
field_of (Register n) = n
field_of (Immediate n) = n

abbrev pub operand_of : CsrSource → (x : List ℕ) → ℕ
operand_of (Register n) x = reg_of x n
operand_of (Immediate n) x = n

-- what is written to a CSR that shows old: the operand; its bits set; its bits cleared
abbrev pub merged_of : CsrOperation → (old v : ℕ) → ℕ
merged_of Write old v = v
merged_of Set old v = bit_or old v
merged_of Clear old v = bit_and old (2 ^ 64 - 1 - v)

unfoldable pub csr_reached_of : Option Csr → CsrOperation → CsrSource → (rd word : ℕ) → (x : List ℕ) → (next : ℕ) → Effect
csr_reached_of (Some n) o source rd word x next = effect.Privileged (privileged.Csr o n (writes_of o (field_of source)) (operand_of source x) rd next)
csr_reached_of None o source rd word x next = trap_with (illegal_of word)

unfoldable pub csr_effect_of : CsrOperation → CsrSource → (rd address word : ℕ) → (x : List ℕ) → (next : ℕ) → Mode → (permitted : Bool) → Effect
csr_effect_of o source rd address word x next m permitted = csr_reached_of (reach_of m permitted address) o source rd word x next
