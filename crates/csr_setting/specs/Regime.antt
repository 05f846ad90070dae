-- What the hart's mode and CSRs switch on: the enables, and what translation needs to know. Rules 7.1, 7.2, 8.1 and 9.1 of docs/HART.md.
use Rattle.std.specs.Prelude.{Bool, ℕ, ◌/◌, ◌^◌, eqb}
use Rattle.word.specs.Row.{digit}
use Rattle.address.specs.declared.control.Control.{Control}
use Rattle.isa.specs.Mode.{mode_of}
use Rattle.csr_status.specs.Status.{status_of}
use Rattle.csr_trap.specs.Return.{mpp_mode_of}
use Rattle.csr_access.specs.Enable.{sse_of, shadow_of, pad_of}

-- PMM 33:32 of menvcfg, senvcfg or mseccfg
abbrev pub pmm_bits : ℕ → ℕ
pmm_bits w = digit 32 2 w

-- what a mode and these CSRs say about accesses: MPRV, MPP, SUM and MXR of mstatus, satp's MODE 8, menvcfg.SSE, and the three PMMs
unfoldable pub control_of : (mode mstatus satp menvcfg senvcfg mseccfg : ℕ) → Control
control_of mode mstatus satp menvcfg senvcfg mseccfg = record {
  mode = mode_of mode;
  mprv = (status_of mstatus).mprv;
  mpp = mpp_mode_of mstatus;
  sv39 = eqb (satp / 2 ^ 60) 8;
  sum = (status_of mstatus).sum;
  mxr = (status_of mstatus).mxr;
  sse = sse_of menvcfg;
  upmm = pmm_bits senvcfg;
  spmm = pmm_bits menvcfg;
  mpmm = pmm_bits mseccfg;
}

-- the active shadow enable in a mode
unfoldable pub shadow_on : (mode menvcfg senvcfg : ℕ) → Bool
shadow_on mode menvcfg senvcfg = shadow_of (mode_of mode) menvcfg senvcfg

-- the pad enable in a mode
unfoldable pub pad_on : (mode menvcfg senvcfg mseccfg : ℕ) → Bool
pad_on mode menvcfg senvcfg mseccfg = pad_of (mode_of mode) menvcfg senvcfg mseccfg
