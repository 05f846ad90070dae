-- MRET and SRET. Rules 6.7 to 6.9 of docs/HART.md.
use Rattle.std.specs.Prelude.{Bool, ◌&&◌, List, ℕ}
use Rattle.isa.specs.declared.Mode.{Mode}
use Rattle.isa.specs.Mode.{number_of}
use Rattle.csr_status.specs.Status.{status_of}
use Rattle.csr_trap.specs.Return.{leave_m_of, leave_s, mpp_mode_of, spp_mode_of}
use Rattle.csr_access.specs.Enable.{pad_of}
use Rattle.csr_words.specs.Words.{◌of◌, ◌but◌≔◌, flag_of, PC, MODE, ELP, SEPC, MSTATUS, MEPC, MENVCFG, SENVCFG, MSECCFG}

-- in mode `new` at `to`, with mstatus m; the saved ELP if the new mode's pad enable is set, else 0
unfoldable pub back_in : (w : List ℕ) → (new : Mode) → (saved : Bool) → (m to : ℕ) → List ℕ
back_in w new saved m to =
    w but ELP ≔ flag_of (pad_of new (MENVCFG of w) (SENVCFG of w) (MSECCFG of w) && saved)
    but MODE ≔ number_of new
    but MSTATUS ≔ m
    but PC ≔ to

-- MRET: to MPP at mepc, with MPELP
unfoldable pub mret_of : (w : List ℕ) → List ℕ
mret_of w = back_in w (mpp_mode_of (MSTATUS of w)) (status_of (MSTATUS of w)).mpelp (leave_m_of (MSTATUS of w)) (MEPC of w)

-- SRET: to SPP at sepc, with SPELP
unfoldable pub sret_of : (w : List ℕ) → List ℕ
sret_of w = back_in w (spp_mode_of (MSTATUS of w)) (status_of (MSTATUS of w)).spelp (leave_s (MSTATUS of w)) (SEPC of w)
