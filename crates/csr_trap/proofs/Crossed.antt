-- mstatus after a trap and after a return: a word that it can hold, and its fields.
-- Assumes nothing.
use mathlib.Core.Path.{◌≡◌, refl}
use mathlib.Core.Bool.{Bool, true}
use Prim.Native.Nat.{ℕ, ◌<◌}
use native.Mathlib.Omega.{arith}
use Rattle.isa.specs.declared.Mode.{Mode}
use Rattle.isa.specs.declared.Mode.TheVariants.{User, Supervisor, Machine}
use Rattle.word.specs.Row.{row_legal_of}
use Rattle.csr_status.specs.Fields.{is_mpp, mstatus}
use Rattle.isa.specs.Mode.{number_of}
use Rattle.csr_status.specs.Status.{status_of}
use Rattle.csr_status.proofs.Packed.{unpacked, packed, modes}
use Rattle.csr_trap.specs.Trap.{is_supervisor_of, trapped_m_of, trapped_s_of, enter_m_of, enter_s}
use Rattle.csr_trap.specs.Return.{returned_m_of, returned_s_of, leave_m_of, leave_s}

number_small : (m : Mode) → number_of m < 4
number_small User = omega arith
number_small Supervisor = omega arith
number_small Machine = omega arith

number_mode : (m : Mode) → is_mpp (number_of m) ≡ true
number_mode User = refl
number_mode Supervisor = refl
number_mode Machine = refl

-- a trap to M leaves a word that mstatus can hold, whatever was there
pub enter_m_legal : (m : ℕ) (from : Mode) (elp : Bool) → row_legal_of mstatus (enter_m_of m from elp) ≡ true
unfolding enter_m_of
enter_m_legal m from elp =
    packed (trapped_m_of (status_of m) (number_of from) elp) (number_small from) (number_mode from)

-- a trap to S, MRET and SRET leave one where one was
pub enter_s_legal : (m : ℕ) (from : Mode) (elp : Bool) → row_legal_of mstatus m ≡ true → row_legal_of mstatus (enter_s m from elp) ≡ true
unfolding enter_s
enter_s_legal m from elp h = packed (trapped_s_of (status_of m) (is_supervisor_of from) elp) (omega arith) (modes m h)

pub leave_m_legal : (m : ℕ) → row_legal_of mstatus (leave_m_of m) ≡ true
unfolding leave_m_of
leave_m_legal m = packed (returned_m_of (status_of m)) (omega arith) refl

pub leave_s_legal : (m : ℕ) → row_legal_of mstatus m ≡ true → row_legal_of mstatus (leave_s m) ≡ true
unfolding leave_s
leave_s_legal m h = packed (returned_s_of (status_of m)) (omega arith) (modes m h)

-- and their fields are those of the struct
pub enter_m_fields : (m : ℕ) (from : Mode) (elp : Bool) → status_of (enter_m_of m from elp) ≡ trapped_m_of (status_of m) (number_of from) elp
unfolding enter_m_of
enter_m_fields m from elp = unpacked (trapped_m_of (status_of m) (number_of from) elp) (number_small from)

pub enter_s_fields : (m : ℕ) (from : Mode) (elp : Bool) → status_of (enter_s m from elp) ≡ trapped_s_of (status_of m) (is_supervisor_of from) elp
unfolding enter_s
enter_s_fields m from elp = unpacked (trapped_s_of (status_of m) (is_supervisor_of from) elp) (omega arith)

pub leave_m_fields : (m : ℕ) → status_of (leave_m_of m) ≡ returned_m_of (status_of m)
unfolding leave_m_of
leave_m_fields m = unpacked (returned_m_of (status_of m)) (omega arith)

pub leave_s_fields : (m : ℕ) → status_of (leave_s m) ≡ returned_s_of (status_of m)
unfolding leave_s
leave_s_fields m = unpacked (returned_s_of (status_of m)) (omega arith)
