-- What counts as a push, a pop and a pop-check is what the step's definition executes as one: each word that is one, that no pad check
-- stops and whose access is permitted has that effect while the shadow stack is on, and no other step has it. What a stretch may
-- not have, a swap and a CSR write of ssp, comes from such an instruction alone.
-- Assumes nothing.
use Rattle.std.specs.Prelude.{Ok}
use mathlib.Core.Bool.{Bool, true, false, ◌&&◌, not}
use mathlib.Core.List.{List}
use mathlib.Core.Path.{◌≡◌, refl, sym, subst, ◌∙◌}
use Prim.Native.Nat.{ℕ, ◌%◌, ◌^◌}
use lib.Dec.{eqb}
use lib.ListN.{length}
use native.Mathlib.Omega.{arith}
use borrow.Author.Tests.{eqb-true, eq-eqb, ne_eqb, not-true}
use Rattle.word.proofs.Bools.{both}
use Rattle.word.specs.Choice.{pick}
use Rattle.word.specs.Field.{fields_of}
use Rattle.word.specs.Immediate.{imm_u_of}
use Rattle.word.specs.Sum.{sum_of}
use Rattle.decode.specs.Decode.{decode_of}
use Rattle.isa.specs.declared.Access.{Access}
use Rattle.isa.specs.declared.Access.TheVariants as access
use Rattle.isa.specs.declared.Instruction.TheVariants.{Auipc, Memory}
use Rattle.isa.specs.declared.CsrOperation.{CsrOperation}
use Rattle.isa.specs.declared.Width.{Width}
use Rattle.isa.specs.declared.Width.TheVariants.{Double}
use Rattle.isa.specs.declared.Kind.TheVariants as kind
use Rattle.csr.specs.declared.Csr.TheVariants.{Ssp}
use Rattle.address.specs.Stack.{push_of}
use Rattle.address_place.specs.Place.{place_of}
use Rattle.address_place.specs.declared.Physical.{Physical}
use Rattle.step_transfer.specs.Access.{read_of, popped_of, done_of, at_of, passed_of, access_of}
use Rattle.step_transfer.specs.declared.access.Gate.TheVariants as gate
use Rattle.step_meaning.specs.Instruction.{next_of, execute_of}
use Rattle.step_meaning.specs.Plan.{fetched_of, is_pad_of, landed_of, arrived_of, effect_of}
use Rattle.step_effect.specs.Register.{reg_of}
use Rattle.step_effect.specs.declared.Effect.TheVariants.{Push, Pop, Swap, Trap}
use Rattle.step_effect.specs.declared.Effect.TheVariants as effect
use Rattle.step_meaning.specs.declared.Source.{Source}
use Rattle.step_effect.specs.declared.Privileged.TheVariants as privileged
use Rattle.csr_words.specs.Words.{◌of◌, expected, PC, SSP}
use Rattle.csr_words.specs.Setting.{setting_of}
use Rattle.step_hart.specs.Step.{plan_of}
use Rattle.step_hart.specs.declared.Hart.{Hart}
use Rattle.theorem_origin.proofs.Origins.{AccessStep, CsrStep, Origin, origin}
use Rattle.theorem_origin.specs.Force.{in_force}
use Rattle.theorem_shadow.specs.Promise.{pad_stops, PopCheck, Permitted}

-- a push that the definition executes as one: the word that the step fetches or is given is a push of a register that holds v, no pad
-- check stops it, the shadow stack is on, and its access to the eight bytes below the pointer is permitted, at q
pub record PushStep (source : Source) (h : Hart) (m map : List ℕ) (v : ℕ) (q : Physical) : Type 0 where
  pub word : ℕ
  pub rd : ℕ
  pub rs1 : ℕ
  pub rs2 : ℕ
  pub off : ℕ
  pub arrives : fetched_of source (in_force h) (PC of h.words) m map ≡ Ok word
  pub passes : pad_stops h word ≡ false
  pub reads : decode_of word ≡ Memory access.Push rd rs1 rs2 off
  pub register : v ≡ reg_of h.x rs2
  pub on : (setting_of h.words).shadow ≡ true
  pub place : place_of (in_force h) kind.Push Double (push_of (SSP of h.words)) map (length m) ≡ Ok q

-- a pop-check that the definition completes
pub record PopStep (source : Source) (h : Hart) (m map : List ℕ) (v : ℕ) (q : Physical) : Type 0 where
  pub check : PopCheck source h m map v
  pub on : (setting_of h.words).shadow ≡ true
  pub place : Permitted h m map q
  pub equal : v ≡ read_of m q Double

-- a push or pop-check is done where the shadow stack is on
open_on : (b : Bool) → pick b gate.Open gate.Off ≡ gate.Open → b ≡ true
open_on true e = refl
open_on false e = absurd (let z : ◌≡◌ {A = ℕ} 0 1 = cc in omega arith)

-- a pad check that is not made stops nothing
unstopped : (h : Hart) (w : ℕ) → (expected h.words && (setting_of h.words).pad) ≡ false → pad_stops h w ≡ false
unstopped h w e = rw e

-- a landing pad is an AUIPC
pad_auipc : (w x7 : ℕ) → is_pad_of w x7 ≡ true → decode_of w ≡ Auipc (fields_of w).rd (imm_u_of w)
unfolding decode_of
pad_auipc w x7 e =
    let (low, high) = both (eqb (w % 2 ^ 12) 0b00000_0010111) _ e in
    let a : w % 2 ^ 12 ≡ 23 = eqb-true (w % 2 ^ 12) 23 low in
    let o : w % 2 ^ 7 ≡ 23 = omega (arith, a) in
    rw o

auipc_memory : {A : Type 0} (rd v : ℕ) (k : Access) (d a b o : ℕ) → Auipc rd v ≡ Memory k d a b o → A
auipc_memory rd v k d a b o e = absurd (let z : ◌≡◌ {A = ℕ} 0 1 = cc in omega arith)

-- a memory instruction is no landing pad: where no check stops it, none was made
module _ (h : Hart) (w : ℕ) (k : Access) (rd rs1 rs2 off : ℕ) (reads : decode_of w ≡ Memory k rd rs1 rs2 off) (passes : pad_stops h w ≡ false) where
  unchecked : (expected h.words && (setting_of h.words).pad) ≡ false
  unchecked = go (expected h.words && (setting_of h.words).pad) (is_pad_of w (reg_of h.x 7)) refl refl passes
    where
      go : (t p : Bool) → (expected h.words && (setting_of h.words).pad) ≡ t → is_pad_of w (reg_of h.x 7) ≡ p → (t && not p) ≡ false
          → (expected h.words && (setting_of h.words).pad) ≡ false
      go false p e f n = e
      go true true e f n = auipc_memory _ _ k rd rs1 rs2 off (sym (pad_auipc w (reg_of h.x 7) f) ∙ reads)
      go true false e f n = cc

module _ (source : Source) (h : Hart) (m map : List ℕ) (v : ℕ) (q : Physical) where
  -- a push has the effect `Push`
  pub push_does : PushStep source h m map v q → plan_of source h m map ≡ Push q v (push_of (SSP of h.words)) (next_of (PC of h.words))
  unfolding effect_of arrived_of landed_of execute_of access_of passed_of at_of done_of
  push_does p =
      rw (
        p.arrives,
        unchecked h p.word access.Push p.rd p.rs1 p.rs2 p.off p.reads p.passes,
        p.reads,
        p.on,
        p.place,
        p.register,
      )

  -- and nothing else has
  pub push_is : (ssp next : ℕ) → plan_of source h m map ≡ Push q v ssp next → PushStep source h m map v q
  push_is ssp next e =
      let (moved, S, holds) = subst (Origin source h m map) e (origin source h m map) in
      record {
        word = S.word;
        rd = S.rd;
        rs1 = S.rs1;
        rs2 = S.rs2;
        off = S.off;
        arrives = S.arrives;
        passes = unstopped h S.word S.unchecked;
        reads = S.reads;
        register = holds;
        on = open_on _ S.opened;
        place = S.place;
      }

  -- a pop-check compares what stands at the pointer with its register
  pub check_does : PopCheck source h m map v → (setting_of h.words).shadow ≡ true → Permitted h m map q
      → plan_of source h m map ≡ popped_of (read_of m q Double) v (SSP of h.words) (next_of (PC of h.words))
  unfolding effect_of arrived_of landed_of execute_of access_of passed_of at_of done_of
  check_does p on place =
      rw (
        p.arrives,
        unchecked h p.word access.Pop p.rd p.rs1 p.rs2 p.off p.reads p.passes,
        p.reads,
        on,
        place,
        p.register,
      )

  -- and where they are equal it has the effect `Pop`
  pub pop_does : PopStep source h m map v q → plan_of source h m map ≡ Pop (sum_of (SSP of h.words) 8) (next_of (PC of h.words))
  unfolding popped_of
  pop_does p = check_does p.check p.on p.place ∙ rw (eq-eqb (read_of m q Double) v (sym p.equal))

  -- and where they differ it is a shadow stack fault
  pub mismatch_does : PopCheck source h m map v → (setting_of h.words).shadow ≡ true → Permitted h m map q
      → (v ≡ read_of m q Double → ⊥) → plan_of source h m map ≡ Trap 18 3
  unfolding popped_of
  mismatch_does p on place n = check_does p on place ∙ rw (ne_eqb (read_of m q Double) v (λ e. n (sym e)))

-- a word that a pad check stops is the pad check's fault
pub pad_stops_lem : (source : Source) (h : Hart) (m map : List ℕ) (w : ℕ) → fetched_of source (in_force h) (PC of h.words) m map ≡ Ok w
    → pad_stops h w ≡ true → plan_of source h m map ≡ Trap 18 2
unfolding effect_of arrived_of landed_of
pad_stops_lem source h m map w a s =
    let (on, off) = both (expected h.words && (setting_of h.words).pad) _ s in
    rw (a, on, not-true (is_pad_of w (reg_of h.x 7)) off)

-- an effect `Swap` is a swap's
pub swap_is : (source : Source) (h : Hart) (m map : List ℕ) (rd old : ℕ) (q : Physical) (w : Width) (v next : ℕ)
    → plan_of source h m map ≡ Swap rd old q w v next → (aq rl : Bool) × AccessStep source h m map (access.Swap w aq rl) q
swap_is source h m map rd old q w v next e = subst (Origin source h m map) e (origin source h m map)

-- and one that writes ssp is that of a CSR instruction that writes
pub pointer_write_is : (source : Source) (h : Hart) (m map : List ℕ) (o : CsrOperation) (v rd next : ℕ)
    → plan_of source h m map ≡ effect.Privileged (privileged.Csr o Ssp true v rd next) → CsrStep source h m map o Ssp true rd
pointer_write_is source h m map o v rd next e = (subst (Origin source h m map) e (origin source h m map)).1

-- no other step has the effect `Pop`
pub pop_is : (source : Source) (h : Hart) (m map : List ℕ) (ssp next : ℕ) → plan_of source h m map ≡ Pop ssp next
    → (v : ℕ) × (q : Physical) × PopStep source h m map v q
pop_is source h m map ssp next e =
    let (moved, q, S, equal) = subst (Origin source h m map) e (origin source h m map) in (
      reg_of h.x S.rs1,
      q,
      record {
        check = record {
          word = S.word;
          rd = S.rd;
          rs1 = S.rs1;
          rs2 = S.rs2;
          off = S.off;
          arrives = S.arrives;
          passes = unstopped h S.word S.unchecked;
          reads = S.reads;
          register = refl;
        };
        on = open_on _ S.opened;
        place = S.place;
        equal = equal;
      },
    )
