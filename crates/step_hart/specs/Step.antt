-- One step: the effect of the instruction, applied to the hart and to memory. `step_from Fetch` fetches, `step_from (Given word)` takes a word.
-- Rules 10.1 to 10.3 and 4.32 of docs/HART.md.
--
-- Below, h is the hart, m memory, e the effect.
use Rattle.std.specs.Prelude.{Bool, true, false, Option, Some, None, List, ℕ}
use Rattle.word.specs.Choice.{pick}
use Rattle.isa.specs.declared.CsrOperation.{CsrOperation}
use Rattle.csr.specs.declared.Csr.{Csr}
use Rattle.step_effect.specs.Csrs.{merged_of}
use Rattle.step_meaning.specs.Plan.{effect_of}
use Rattle.step_effect.specs.Register.{put_of}
use Rattle.step_transfer.specs.Commit.{memory_of}
use Rattle.step_effect.specs.declared.Effect.{Effect}
use Rattle.step_effect.specs.declared.Effect.TheVariants.{Write, Jump, Pad, Store, Push, Pop, Swap, Trap}
use Rattle.step_effect.specs.declared.Effect.TheVariants as effect
use Rattle.step_meaning.specs.declared.Source.{Source}
use Rattle.step_effect.specs.declared.Privileged.{Privileged}
use Rattle.step_effect.specs.declared.Privileged.TheVariants as privileged
use Rattle.csr_words.specs.Words.{◌of◌, ◌but◌≔◌, expected, flag_of, PC, ELP, SSP}
use Rattle.csr_words.specs.Warl.{shown_of, csr_write_of}
use Rattle.csr_words.specs.Setting.{setting_of}
use Rattle.csr_words.specs.Return.{mret_of, sret_of}
use Rattle.csr_words.specs.Trap.{trap_of}
use Rattle.step_hart.specs.Hart.{hart}
use Rattle.step_hart.specs.declared.Hart.{Hart}
use Rattle.step_hart.specs.declared.methods.Stepped.{Stepped}

-- a CSR instruction: rd takes what the CSR showed
unfoldable pub csr_of : CsrOperation → Csr → (writes : Bool) → (v rd next : ℕ) → Hart → Hart
csr_of o n writes v rd next h =
    hart (put_of rd (shown_of n h.words) h.x)
    (pick writes (csr_write_of n (merged_of o (shown_of n h.words) v) h.words) h.words but PC ≔ next)

unfoldable pub privileged_of : Privileged → Hart → Hart
privileged_of (privileged.Csr o n writes v rd next) h = csr_of o n writes v rd next h
privileged_of privileged.Mret h = hart h.x (mret_of h.words)
privileged_of privileged.Sret h = hart h.x (sret_of h.words)

-- the hart after an effect
abbrev pub apply_of : Effect → Hart → Hart
apply_of (Write rd v next) h = hart (put_of rd v h.x) (h.words but PC ≔ next)
apply_of (Jump rd link next elp) h = hart (put_of rd link h.x) (h.words but PC ≔ next but ELP ≔ flag_of elp)
apply_of (Pad next) h = hart h.x (h.words but PC ≔ next but ELP ≔ 0)
apply_of (Store q w v next) h = hart h.x (h.words but PC ≔ next)
apply_of (Push q v ssp next) h = hart h.x (h.words but PC ≔ next but SSP ≔ ssp)
apply_of (Pop ssp next) h = hart h.x (h.words but PC ≔ next but SSP ≔ ssp)
apply_of (Swap rd old q w v next) h = hart (put_of rd old h.x) (h.words but PC ≔ next)
apply_of (effect.Privileged k) h = privileged_of k h
apply_of (Trap cause tval) h = hart h.x (trap_of h.words cause tval)

-- whether an effect is a trap
abbrev pub traps_of : Effect → Bool
traps_of (Write rd v next) = false
traps_of (Jump rd link next elp) = false
traps_of (Pad next) = false
traps_of (Store q w v next) = false
traps_of (Push q v ssp next) = false
traps_of (Pop ssp next) = false
traps_of (Swap rd old q w v next) = false
traps_of (effect.Privileged k) = false
traps_of (Trap cause tval) = true

-- its cause, and 0 where it is none
abbrev pub cause_of : Effect → ℕ
cause_of (Write rd v next) = 0
cause_of (Jump rd link next elp) = 0
cause_of (Pad next) = 0
cause_of (Store q w v next) = 0
cause_of (Push q v ssp next) = 0
cause_of (Pop ssp next) = 0
cause_of (Swap rd old q w v next) = 0
cause_of (effect.Privileged k) = 0
cause_of (Trap cause tval) = cause

-- what a step gives: the next hart and memory, and whether it trapped and with which cause
pub record Outcome : Type 0 where
  pub hart : Hart
  pub memory : List ℕ
  pub trapped : Bool
  pub cause : ℕ

abbrev pub outcome_of : Effect → Hart → (m : List ℕ) → Outcome
outcome_of e h m = record { hart = apply_of e h; memory = memory_of e m; trapped = traps_of e; cause = cause_of e }

-- the effect of the instruction
abbrev pub plan_of : Source → Hart → (m map : List ℕ) → Effect
plan_of source h m map = effect_of source h.x (PC of h.words) (expected h.words) (SSP of h.words) (setting_of h.words) m map

unfoldable pub step_from : Source → Hart → (m map : List ℕ) → Outcome
step_from source h m map = outcome_of (plan_of source h m map) h m

-- a trap as the code tells it: its cause, if there was one
abbrev pub trap_told : (trapped : Bool) → (cause : ℕ) → Option ℕ
trap_told true cause = Some cause
trap_told false cause = None

-- an outcome as the code hands it back, memory apart
abbrev pub stepped_of : Outcome → Stepped
stepped_of o = record { hart = o.hart; trap = trap_told o.trapped o.cause }
