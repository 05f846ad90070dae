-- What the quick way does with a CSR instruction on a trap handler's registers: it does all that the instruction's effect says, or it leaves
-- everything as it was. It never makes a trap, and never changes a CSR that a setting depends on: whoever keeps a hart's setting at hand need not
-- make it again. Rule 10.10 of docs/HART.md.
--
-- Below, x are the registers, rest the hart's other words; a name with ' is what it is afterwards. next is the instruction after this one: none of
-- these goes elsewhere.
use Rattle.std.specs.Prelude.{Bool, true, false, List, ◌≡◌, ℕ}
use Rattle.word.specs.Choice.{pick}
use Rattle.step_effect.specs.Csrs.{merged_of}
use Rattle.step_effect.specs.Register.{put_of}
use Rattle.step_effect.specs.declared.Effect.{Effect}
use Rattle.step_effect.specs.declared.Effect.TheVariants.{Write, Jump, Pad, Store, Push, Pop, Swap, Privileged, Trap}
use Rattle.step_effect.specs.declared.Privileged as kind
use Rattle.step_effect.specs.declared.Privileged.TheVariants as privileged
use Rattle.csr_words.specs.Warl.{shown_of, csr_write_of}
use Rattle.csr_words.specs.Setting.{switches}
use Rattle.csr_words.specs.Words.{csr_slot_of}

-- a CSR instruction was carried out: rd takes what the CSR showed, and where it writes, the CSR's word is what a write leaves; no CSR of these
-- changes what the hart's mode and CSRs say
abbrev pub Carried : kind.Privileged → (x rest : List ℕ) → (next : ℕ) → (x' rest' : List ℕ) → Type 0
Carried (privileged.Csr o n writes v rd to) x rest next x' rest' =
    (to ≡ next)
    × (switches (csr_slot_of n) ≡ false)
    × (x' ≡ put_of rd (shown_of n rest) x)
    × (rest' ≡ pick writes (csr_write_of n (merged_of o (shown_of n rest) v) rest) rest)
Carried privileged.Mret x rest next x' rest' = ⊥
Carried privileged.Sret x rest next x' rest' = ⊥

-- an effect was carried out: it is a CSR instruction's
abbrev pub Handled : Effect → (x rest : List ℕ) → (next : ℕ) → (x' rest' : List ℕ) → Type 0
Handled (Write rd v to) x rest next x' rest' = ⊥
Handled (Jump rd link to pad) x rest next x' rest' = ⊥
Handled (Pad to) x rest next x' rest' = ⊥
Handled (Store q w v to) x rest next x' rest' = ⊥
Handled (Push q v top to) x rest next x' rest' = ⊥
Handled (Pop top to) x rest next x' rest' = ⊥
Handled (Swap rd old q w v to) x rest next x' rest' = ⊥
Handled (Privileged k) x rest next x' rest' = Carried k x rest next x' rest'
Handled (Trap cause tval) x rest next x' rest' = ⊥

-- done, or nothing changed
abbrev pub Handles : (done : Bool) → Effect → (x rest : List ℕ) → (next : ℕ) → (x' rest' : List ℕ) → Type 0
Handles true e x rest next x' rest' = Handled e x rest next x' rest'
Handles false e x rest next x' rest' = (x' ≡ x) × (rest' ≡ rest)
