-- What menvcfg, senvcfg and mseccfg switch on, by the mode. Rules 5.4, 5.18, 8.1, 8.7 and 9.1 of docs/HART.md.
use Rattle.std.specs.Prelude.{Bool, true, false, ◌&&◌, ℕ}
use Rattle.isa.specs.declared.Mode.{Mode}
use Rattle.isa.specs.declared.Mode.TheVariants.{User, Supervisor, Machine}
use Rattle.word.specs.Row.{bit_of}

-- SSE of an envcfg
abbrev pub sse_of : (envcfg : ℕ) → Bool
sse_of envcfg = bit_of envcfg 3

-- LPE of an envcfg
abbrev pub lpe_of : (envcfg : ℕ) → Bool
lpe_of envcfg = bit_of envcfg 2

-- by the mode, where msse is menvcfg.SSE and ssse the stored senvcfg.SSE: while the one is 0, the other acts as 0
abbrev pub by_sse_of : Mode → (machine msse ssse : Bool) → Bool
by_sse_of Machine machine msse ssse = machine
by_sse_of Supervisor machine msse ssse = msse
by_sse_of User machine msse ssse = msse && ssse

-- active shadow enable: M 0, S menvcfg.SSE, U senvcfg.SSE
abbrev pub shadow_of : Mode → (menvcfg senvcfg : ℕ) → Bool
shadow_of m menvcfg senvcfg = by_sse_of m false (sse_of menvcfg) (sse_of senvcfg)

-- ssp as a CSR (and the swap) below M needs menvcfg.SSE, and in U also senvcfg.SSE
abbrev pub permits_of : Mode → (menvcfg senvcfg : ℕ) → Bool
permits_of m menvcfg senvcfg = by_sse_of m true (sse_of menvcfg) (sse_of senvcfg)

abbrev pub by_mode_of : Mode → (machine supervisor user : Bool) → Bool
by_mode_of Machine machine supervisor user = machine
by_mode_of Supervisor machine supervisor user = supervisor
by_mode_of User machine supervisor user = user

-- pad enable: M mseccfg.MLPE, S menvcfg.LPE, U senvcfg.LPE
abbrev pub pad_of : Mode → (menvcfg senvcfg mseccfg : ℕ) → Bool
pad_of m menvcfg senvcfg mseccfg = by_mode_of m (bit_of mseccfg 10) (lpe_of menvcfg) (lpe_of senvcfg)
