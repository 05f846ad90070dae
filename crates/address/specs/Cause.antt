-- The causes of an access's faults. Rules 7.3 and 7.10 of docs/HART.md.
use Rattle.std.specs.Prelude.{ℕ}
use Rattle.isa.specs.declared.Exception.{Exception}
use Rattle.isa.specs.declared.Fault.TheVariants.{Misaligned, Access, Page}
use Rattle.isa.specs.declared.Fault.{Fault}
use Rattle.isa.specs.declared.Kind.TheVariants.{Fetch, Load, Store, Push, Pop, Swap}
use Rattle.isa.specs.declared.Kind.{Kind}

-- step 3: misaligned load, store or jump target: causes 4, 6, 0; misaligned swap: cause 7. A push or pop cannot be
-- misaligned, since ssp is a multiple of 8; the manual's cause for it is 7 too
abbrev pub misaligned_of : Kind → ℕ
misaligned_of Fetch = 0
misaligned_of Load = 4
misaligned_of Store = 6
misaligned_of Push = 7
misaligned_of Pop = 7
misaligned_of Swap = 7

-- fetch faults are 1 and 12, load 5 and 13, store and every shadow access 7 and 15
abbrev pub access_fault_of : Kind → ℕ
access_fault_of Fetch = 1
access_fault_of Load = 5
access_fault_of Store = 7
access_fault_of Push = 7
access_fault_of Pop = 7
access_fault_of Swap = 7

abbrev pub page_fault_of : Kind → ℕ
page_fault_of Fetch = 12
page_fault_of Load = 13
page_fault_of Store = 15
page_fault_of Push = 15
page_fault_of Pop = 15
page_fault_of Swap = 15

abbrev pub fault_cause_of : Fault → Kind → ℕ
fault_cause_of Misaligned k = misaligned_of k
fault_cause_of Access k = access_fault_of k
fault_cause_of Page k = page_fault_of k

-- its cause and its tval, which is the transformed address t
abbrev pub fault_of : Fault → Kind → (t : ℕ) → Exception
fault_of f k t = record { cause = fault_cause_of f k; tval = t }
