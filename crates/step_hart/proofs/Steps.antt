-- A step and a run of a hart that refusal 1 lets pass leave one that it lets pass, and keep the length of memory: along the
-- cases of the step's effect. No number needs a bound, so that both iterate as they stand.
-- Assumes nothing.
use mathlib.Core.Bool.{Bool, true, false}
use mathlib.Core.List.{List, [], ◌∷◌}
use mathlib.Core.Path.{◌≡◌, refl, ◌∙◌}
use Prim.Native.Nat.{ℕ, zero, suc, ◌-◌, ◌%◌}
use native.Mathlib.Omega.{arith}
use lib.Dec.{eqb}
use lib.ListN.{length, get_or, set}
use borrow.Author.Tests.{eq-eqb, eqb-true}
use Rattle.word.specs.Choice.{pick}
use Rattle.word.proofs.Bools.{both}
use Rattle.isa.specs.Size.{size_of}
use Rattle.isa.specs.declared.Width.{Width}
use Rattle.isa.specs.declared.Width.TheVariants.{Double}
use Rattle.memory.proofs.Stores.{length_store}
use Rattle.address_place.specs.Place.{base, Within}
use Rattle.address_place.specs.declared.Physical.{Physical}
use Rattle.csr.specs.declared.Csr.{Csr}
use Rattle.step_effect.specs.Csrs.{merged_of}
use Rattle.step_effect.specs.Effect.{Stays}
use Rattle.step_effect.specs.declared.Effect.{Effect}
use Rattle.step_effect.specs.declared.Effect.TheVariants.{Write, Jump, Pad, Store, Push, Pop, Swap, Trap}
use Rattle.step_effect.specs.declared.Effect.TheVariants as effect
use Rattle.step_effect.specs.declared.Privileged.{Privileged}
use Rattle.step_effect.specs.declared.Privileged.TheVariants as privileged
use Rattle.step_transfer.specs.Commit.{memory_of}
use Rattle.step_meaning.proofs.Aligned.{PrivilegedAligned, Aligned, effect_aligned}
use Rattle.step_meaning.proofs.Stays.{effect_stays}
use Rattle.step_meaning.specs.declared.Source.{Source}
use Rattle.step_meaning.specs.declared.Source.TheVariants.{Fetch}
use Rattle.csr_words.specs.Words.{◌of◌, ◌but◌≔◌, expected, flag_of, PC, ELP, SSP}
use Rattle.csr_words.specs.Warl.{shown_of, csr_write_of}
use Rattle.csr_words.specs.Legal.{words_legal}
use Rattle.csr_words.specs.Setting.{setting_of}
use Rattle.csr_words.proofs.Lawful.{Lawful, lawful, legal_of, put, flag_fits, pc_four, ssp_eight, write_lawful, trap_lawful, mret_lawful, sret_lawful}
use Rattle.step_hart.specs.Hart.{hart, legal}
use Rattle.step_hart.specs.Run.{Run, followed, run_from}
use Rattle.step_hart.specs.Step.{Outcome, csr_of, privileged_of, apply_of, plan_of, step_from}
use Rattle.step_hart.specs.declared.Hart.{Hart}

-- what refusal 1 asks of a hart
pub record LawfulHart (h : Hart) : Type 0 where
  pub zero : get_or h.x 0 0 ≡ 0
  pub words : Lawful h.words

pub lawful_hart : (h : Hart) → legal h ≡ true → LawfulHart h
unfolding legal
lawful_hart h e =
    let (z, w) = both (eqb (get_or h.x 0 0) 0) (words_legal h.words) e in
    record { zero = eqb-true (get_or h.x 0 0) 0 z; words = lawful h.words w }

pub legal_hart : (h : Hart) → LawfulHart h → legal h ≡ true
unfolding legal
legal_hart h l = rw (eq-eqb (get_or h.x 0 0) 0 l.zero) (legal_of h.words l.words)

-- so what leaves lawful words (a CSR write, a trap, a return: `Rattle.csr_words.proofs.Lawful`) leaves a hart that refusal 1 lets pass
pub words_legal_lem : (h : Hart) (w : List ℕ) → (Lawful h.words → Lawful w) → legal h ≡ true → legal (hart h.x w) ≡ true
words_legal_lem h w f e =
    let l = lawful_hart h e in
    legal_hart (hart h.x w) (record { zero = l.zero; words = f l.words })

-- register 0 is 0, whatever was put, and into however long a list
first_zero : (x : List ℕ) → get_or (set x 0 0) 0 0 ≡ 0
first_zero [] = refl
first_zero (a ∷ x) = refl

module _ (h : Hart) (l : LawfulHart h) where
  -- the words at a next pc
  at_next : (next : ℕ) → next % 4 ≡ 0 → Lawful (h.words but PC ≔ next)
  at_next next a = put PC next (eq-eqb (next % 4) 0 a) l.words

  changed : (writes : Bool) (n : Csr) (v : ℕ) → Lawful (pick writes (csr_write_of n v h.words) h.words)
  changed true n v = write_lawful n v h.words l.words
  changed false n v = l.words

  privileged_lawful : (k : Privileged) → PrivilegedAligned k → LawfulHart (privileged_of k h)
  unfolding privileged_of csr_of
  privileged_lawful (privileged.Csr o n writes v rd next) a = record {
    zero = first_zero (set h.x (rd % 32) (shown_of n h.words));
    words = put PC next (eq-eqb (next % 4) 0 a) (changed writes n (merged_of o (shown_of n h.words) v));
  }
  privileged_lawful privileged.Mret a = record { zero = l.zero; words = mret_lawful h.words l.words }
  privileged_lawful privileged.Sret a = record { zero = l.zero; words = sret_lawful h.words l.words }

  apply_lawful : (e : Effect) → Aligned e → LawfulHart (apply_of e h)
  apply_lawful (Write rd v next) a = record { zero = first_zero (set h.x (rd % 32) v); words = at_next next a }
  apply_lawful (Jump rd link next elp) a =
      record { zero = first_zero (set h.x (rd % 32) link); words = put ELP (flag_of elp) (flag_fits elp) (at_next next a) }
  apply_lawful (Pad next) a = record { zero = l.zero; words = put ELP 0 refl (at_next next a) }
  apply_lawful (Store q w v next) a = record { zero = l.zero; words = at_next next a }
  apply_lawful (Push q v ssp next) a = record { zero = l.zero; words = put SSP ssp (eq-eqb (ssp % 8) 0 a.0) (at_next next a.1) }
  apply_lawful (Pop ssp next) a = record { zero = l.zero; words = put SSP ssp (eq-eqb (ssp % 8) 0 a.0) (at_next next a.1) }
  apply_lawful (Swap rd old q w v next) a = record { zero = first_zero (set h.x (rd % 32) old); words = at_next next a }
  apply_lawful (effect.Privileged k) a = privileged_lawful k a
  apply_lawful (Trap cause tval) a = record { zero = l.zero; words = trap_lawful h.words cause tval l.words }

pub step_lawful : (source : Source) (h : Hart) (m map : List ℕ) → LawfulHart h → LawfulHart (step_from source h m map).hart
unfolding step_from
step_lawful source h m map l =
    let w : List ℕ = h.words in
    apply_lawful h l (plan_of source h m map)
    (effect_aligned h.x (PC of w) (SSP of w) (setting_of w) m map (pc_four w l.words) (ssp_eight w l.words) source (expected w))

-- a step of a hart that refusal 1 lets pass leaves one that it lets pass
pub step_legal : (source : Source) (h : Hart) (m map : List ℕ) → legal h ≡ true → legal (step_from source h m map).hart ≡ true
step_legal source h m map e = legal_hart (step_from source h m map).hart (step_lawful source h m map (lawful_hart h e))

-- a store of a width keeps the length, where it stays in memory
stored_length : (m : List ℕ) (q : Physical) (w : Width) (v : ℕ) → Within (length m) w q.0
    → length (memory_of (Store q w v 0) m) ≡ length m
stored_length m q w v s = length_store m (q.0 - base) (size_of w) v (omega (arith, s.0, s.1))

memory_length : (e : Effect) (m : List ℕ) → Stays e (length m) → length (memory_of e m) ≡ length m
memory_length (Write rd v next) m s = refl
memory_length (Jump rd link next elp) m s = refl
memory_length (Pad next) m s = refl
memory_length (Store q w v next) m s = stored_length m q w v s
memory_length (Push q v ssp next) m s = stored_length m q Double v s
memory_length (Pop ssp next) m s = refl
memory_length (Swap rd old q w v next) m s = stored_length m q w v s
memory_length (effect.Privileged k) m s = refl
memory_length (Trap cause tval) m s = refl

-- every step keeps memory's length
pub step_length : (source : Source) (h : Hart) (m map : List ℕ) → length (step_from source h m map).memory ≡ length m
unfolding step_from
step_length source h m map =
    let w : List ℕ = h.words in
    memory_length (plan_of source h m map) m (effect_stays source h.x (PC of w) (expected w) (SSP of w) (setting_of w) m map)

-- a run's hart and memory are its last step's
followed_all : (P : Hart → List ℕ → Type 0) (t : Bool) (o : Outcome) (rest : Run) → P o.hart o.memory → P rest.hart rest.memory
    → P (followed t o rest).hart (followed t o rest).memory
followed_all P true o rest a b = a
followed_all P false o rest a b = b

-- so does a run, of any number of steps
pub run_legal : (source : Source) (n : ℕ) (h : Hart) (m map : List ℕ) → legal h ≡ true → legal (run_from source n h m map).hart ≡ true
unfolding run_from
run_legal source zero h m map e = e
run_legal source (suc n) h m map e =
    let o : Outcome = step_from source h m map in
    let s = step_legal source h m map e in
    followed_all (λ g k. legal g ≡ true) o.trapped o (run_from Fetch n o.hart o.memory map) s (run_legal Fetch n o.hart o.memory map s)

pub run_length : (source : Source) (n : ℕ) (h : Hart) (m map : List ℕ) → length (run_from source n h m map).memory ≡ length m
unfolding run_from
run_length source zero h m map = refl
run_length source (suc n) h m map =
    let o : Outcome = step_from source h m map in
    let s = step_length source h m map in
    followed_all (λ g k. length k ≡ length m) o.trapped o (run_from Fetch n o.hart o.memory map) s
    (run_length Fetch n o.hart o.memory map ∙ s)
