-- What a return makes of mstatus, and the mode that it goes to. Rules 6.7 to 6.10 of docs/HART.md.
use Rattle.std.specs.Prelude.{true, false, ◌&&◌, ℕ, eqb}
use Rattle.word.specs.Choice.{pick}
use Rattle.isa.specs.declared.Mode.{Mode}
use Rattle.isa.specs.declared.Mode.TheVariants.{User, Supervisor}
use Rattle.isa.specs.Mode.{mode_of}
use Rattle.csr_status.specs.Status.{status_of, status_word_of}
use Rattle.csr_status.specs.declared.Status.{Status}

-- MRET takes the enable back from MPIE, and by the manual leaves MPIE 1 and MPP U; it clears the saved ELP, and MPRV if the
-- new mode isn't M
abbrev pub returned_m_of : Status → Status
returned_m_of s = record {
  sie = s.sie;
  mie = s.mpie;
  spie = s.spie;
  mpie = true;
  spp = s.spp;
  mpp = 0;
  mprv = eqb s.mpp 3 && s.mprv;
  sum = s.sum;
  mxr = s.mxr;
  spelp = s.spelp;
  mpelp = false;
}

-- SRET takes the enable back from SPIE, and by the manual leaves SPIE 1 and SPP U; it clears the saved ELP, and MPRV,
-- since the new mode is never M
abbrev pub returned_s_of : Status → Status
returned_s_of s = record {
  sie = s.spie;
  mie = s.mie;
  spie = true;
  mpie = s.mpie;
  spp = false;
  mpp = s.mpp;
  mprv = false;
  sum = s.sum;
  mxr = s.mxr;
  spelp = false;
  mpelp = s.mpelp;
}

-- the same of the word, which is what a hart holds
unfoldable pub leave_m_of : ℕ → ℕ
leave_m_of m = status_word_of (returned_m_of (status_of m))

unfoldable pub leave_s : ℕ → ℕ
leave_s m = status_word_of (returned_s_of (status_of m))

-- the mode that MRET goes to, and SRET
unfoldable pub mpp_mode_of : ℕ → Mode
mpp_mode_of m = mode_of (status_of m).mpp

unfoldable pub spp_mode_of : ℕ → Mode
spp_mode_of m = pick (status_of m).spp Supervisor User
