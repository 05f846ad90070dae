-- What a trap makes of mstatus. Rules 6.2 and 6.3 of docs/HART.md.
use Rattle.std.specs.Prelude.{Bool, true, false, ℕ}
use Rattle.isa.specs.declared.Mode.{Mode}
use Rattle.isa.specs.declared.Mode.TheVariants.{User, Supervisor, Machine}
use Rattle.isa.specs.Mode.{number_of}
use Rattle.csr_status.specs.Status.{status_of, status_word_of}
use Rattle.csr_status.specs.declared.Status.{Status}

-- a trap to M saves the mode, the interrupt enable and ELP, and clears the enable
abbrev pub trapped_m_of : Status → (mode : ℕ) → (elp : Bool) → Status
trapped_m_of s mode elp = record {
  sie = s.sie;
  mie = false;
  spie = s.spie;
  mpie = s.mie;
  spp = s.spp;
  mpp = mode;
  mprv = s.mprv;
  sum = s.sum;
  mxr = s.mxr;
  spelp = s.spelp;
  mpelp = elp;
}

-- a trap to S saves the mode, the interrupt enable and ELP, and clears the enable
abbrev pub trapped_s_of : Status → (supervisor elp : Bool) → Status
trapped_s_of s supervisor elp = record {
  sie = false;
  mie = s.mie;
  spie = s.sie;
  mpie = s.mpie;
  spp = supervisor;
  mpp = s.mpp;
  mprv = s.mprv;
  sum = s.sum;
  mxr = s.mxr;
  spelp = elp;
  mpelp = s.mpelp;
}

-- SPP is one bit: a trap to S comes from S or from U
abbrev pub is_supervisor_of : Mode → Bool
is_supervisor_of User = false
is_supervisor_of Supervisor = true
is_supervisor_of Machine = false

-- the same of the word, which is what a hart holds
unfoldable pub enter_m_of : ℕ → Mode → (elp : Bool) → ℕ
enter_m_of m mode elp = status_word_of (trapped_m_of (status_of m) (number_of mode) elp)

unfoldable pub enter_s : ℕ → Mode → (elp : Bool) → ℕ
enter_s m mode elp = status_word_of (trapped_s_of (status_of m) (is_supervisor_of mode) elp)
