-- Trap entry: save pc, cause, tval, and in mstatus the mode, the interrupt enable and ELP (to MPELP or SPELP); clear ELP; go to tvec.
-- Rules 6.1 to 6.4 of docs/HART.md.
use Rattle.std.specs.Prelude.{List, ℕ}
use Rattle.word.specs.Choice.{pick}
use Rattle.isa.specs.Mode.{mode_of}
use Rattle.csr_trap.specs.Trap.{enter_m_of, enter_s}
use Rattle.csr_trap.specs.Route.{delegated_of, to_s_of}
use Rattle.csr_words.specs.Words.{◌of◌, ◌but◌≔◌, expected, PC, MODE, ELP, STVEC, SEPC, SCAUSE, STVAL, MSTATUS, MEDELEG, MTVEC, MEPC, MCAUSE, MTVAL}

unfoldable pub trap_m : (w : List ℕ) → (cause tval : ℕ) → List ℕ
trap_m w cause tval =
    w but MSTATUS ≔ enter_m_of (MSTATUS of w) (mode_of (MODE of w)) (expected w)
    but MEPC ≔ PC of w
    but MCAUSE ≔ cause
    but MTVAL ≔ tval
    but ELP ≔ 0
    but MODE ≔ 3
    but PC ≔ MTVEC of w

unfoldable pub trap_s : (w : List ℕ) → (cause tval : ℕ) → List ℕ
trap_s w cause tval =
    w but MSTATUS ≔ enter_s (MSTATUS of w) (mode_of (MODE of w)) (expected w)
    but SEPC ≔ PC of w
    but SCAUSE ≔ cause
    but STVAL ≔ tval
    but ELP ≔ 0
    but MODE ≔ 1
    but PC ≔ STVEC of w

unfoldable pub trap_of : (w : List ℕ) → (cause tval : ℕ) → List ℕ
trap_of w cause tval = pick (to_s_of (mode_of (MODE of w)) (delegated_of (MEDELEG of w) cause)) (trap_s w cause tval) (trap_m w cause tval)
