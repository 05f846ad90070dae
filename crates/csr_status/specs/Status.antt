-- mstatus as a struct of its fields, and what a write makes of it. Rules 5.5 to 5.8 of docs/HART.md.
use Rattle.std.specs.Prelude.{Bool, true, false, ℕ, ◌+◌, ◌*◌, ◌/◌, ◌%◌, ◌^◌}
use Rattle.word.specs.Row.{bit_of}
use Rattle.csr_status.specs.declared.Status.{Status}

abbrev pub num : Bool → ℕ
num true = 1
num false = 0

abbrev pub status_of : ℕ → Status
status_of m = record {
  sie = bit_of m 1;
  mie = bit_of m 3;
  spie = bit_of m 5;
  mpie = bit_of m 7;
  spp = bit_of m 8;
  mpp = m / 2 ^ 11 % 4;
  mprv = bit_of m 17;
  sum = bit_of m 18;
  mxr = bit_of m 19;
  spelp = bit_of m 23;
  mpelp = bit_of m 41;
}

-- UXL and SXL read 2
abbrev pub status_word_of : Status → ℕ
status_word_of s =
    num s.sie * 2 ^ 1 + num s.mie * 2 ^ 3 + num s.spie * 2 ^ 5 + num s.mpie * 2 ^ 7 + num s.spp * 2 ^ 8 + s.mpp * 2 ^ 11
    + num s.mprv * 2 ^ 17 + num s.sum * 2 ^ 18 + num s.mxr * 2 ^ 19 + num s.spelp * 2 ^ 23 + 2 * 2 ^ 32 + 2 * 2 ^ 34 + num
    s.mpelp * 2 ^ 41

abbrev pub with_mpp_of : Status → ℕ → Status
with_mpp_of s mode = record {
  sie = s.sie;
  mie = s.mie;
  spie = s.spie;
  mpie = s.mpie;
  spp = s.spp;
  mpp = mode;
  mprv = s.mprv;
  sum = s.sum;
  mxr = s.mxr;
  spelp = s.spelp;
  mpelp = s.mpelp;
}

-- a write of v to sstatus over s
abbrev pub sstatus_written_of : (s v : Status) → Status
sstatus_written_of s v = record {
  sie = v.sie;
  mie = s.mie;
  spie = v.spie;
  mpie = s.mpie;
  spp = v.spp;
  mpp = s.mpp;
  mprv = s.mprv;
  sum = v.sum;
  mxr = v.mxr;
  spelp = v.spelp;
  mpelp = s.mpelp;
}
