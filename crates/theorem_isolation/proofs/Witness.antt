-- The theorem is not empty: a hart, a map and two memories that meet the hypotheses and do differ, and a run from there that loads, stores and
-- is stopped at the other supplier's page. It is computed in the one memory; what it answers in the other one the theorem says.
-- The map has every odd kind of entry too: one whose frame lies outside memory, one with V and U and no right, and one without U that
-- names a frame which another one names with U.
-- Assumes nothing.
use mathlib.Core.Bool.{true, false, false≢true}
use mathlib.Core.List.{List, [], ◌∷◌, ◌++◌}
use mathlib.Core.Path.{◌≡◌, refl, sym, ap, ◌∙◌}
use Prim.Native.Nat.{ℕ, zero, suc, ◌+◌, ◌*◌, ◌/◌, ◌^◌, ◌<◌, ◌≤◌}
use native.Mathlib.Omega.{arith}
use lib.ListN.{get_or, length, replicate, get_or-append, get_or-eq_default}
use lib.Seq.{get_or_at}
use Rattle.decode_base.specs.Base as base
use Rattle.decode.specs.Decode.{decode_of}
use Rattle.isa.specs.declared.Width.TheVariants.{Double}
use Rattle.memory.specs.Bytes.{bytes_of, number, load_of, store_of}
use Rattle.memory.specs.Extend.{extend_of}
use Rattle.memory.specs.Refusal as memory
use Rattle.address_judge.specs.Judge.{judge_of}
use Rattle.address_page.specs.Map as page
use Rattle.address.specs.Align.{aligned_of}
use Rattle.address.specs.Control as control
use Rattle.address.specs.Mask.{mask_of, transformed_of}
use Rattle.address.specs.declared.control.Control.{Control}
use Rattle.address_place.specs.Place as place
use Rattle.address_place.specs.Place.{frame_of, within_of, inside_of, settle_of, through_of, paged_place_of, reached_of, place_of}
use Rattle.isa.specs.Mode.{mode_of}
use Rattle.step_transfer.specs.Access.{done_of, at_of, passed_of, access_of}
use Rattle.step_meaning.specs.Instruction.{execute_of}
use Rattle.step_meaning.specs.Plan.{fetched_of, landed_of, arrived_of, effect_of}
use Rattle.step_effect.specs.declared.Effect.{Effect}
use Rattle.step_effect.specs.declared.Effect.TheVariants.{Write, Store, Trap}
use Rattle.step_meaning.specs.declared.Source.TheVariants.{Fetch, Given}
use Rattle.csr_words.specs.Words.{◌but◌≔◌, PC, MODE, SATP}
use Rattle.csr_words.specs.Legal.{words_legal}
use Rattle.csr_words.specs.Setting.{setting_of}
use Rattle.csr_words.specs.Trap.{trap_of}
use Rattle.step_effect.specs.Register.{put_of}
use Rattle.csr_setting.specs.Regime.{control_of, shadow_on, pad_on}
use Rattle.step_hart.specs.Hart.{hart, legal, start_of}
use Rattle.step_hart.specs.Run.{Run, after, stayed, once, run_from, run_of}
use Rattle.step_hart.specs.Step.{outcome_of, plan_of, step_from}
use Rattle.step_hart.specs.declared.Hart.{Hart}
use Rattle.run_call.specs.Call.{refusal_of, run_refusal_of, taken_with, run_call_of}
use Rattle.std.specs.Prelude.{Some, None}
use Rattle.run_call.specs.declared.Answer.{Answer}
use Rattle.theorem_origin.specs.Force.{in_force, leaf_at, Entry}
use Rattle.step_hart.proofs.Longer.{run_longer}
use Rattle.theorem_isolation.specs.Unseen.{Taken, Marked, Seen, Alike, run, session_of, IsolationStarts}
use Rattle.theorem_isolation.proofs.Isolation.{by_step_5}

-- ld x5, 0(x2); sd x5, 8(x2); ld x6, 0(x3)
abbrev program : List ℕ
program = bytes_of 4 0x00013283 ++ bytes_of 4 0x00513423 ++ bytes_of 4 0x0001B303

-- the program's page, and a page with 0x1111 at its start
unfoldable pub front : List ℕ
front = program ++ replicate 4084 0 ++ bytes_of 8 0x1111 ++ replicate 4088 0

-- a third page, the other supplier's, with a secret byte at its start
unfoldable pub memory_with : (secret : ℕ) → List ℕ
memory_with secret = front ++ secret ∷ replicate 4095 0

-- page 0 is frame 0x80000 with V, X, U and A; page 1 is frame 0x80001 with V, R, W, U, A and D; page 2 is frame 0x80002, the other
-- supplier's, with V, R, W, A and D and without U
abbrev pub pages : List ℕ
pages = 0 ∷ 0x20000059 ∷ 1 ∷ 0x200004D7 ∷ 2 ∷ 0x200008C7 ∷ []

-- and the odd ones: page 3 is frame 0x90000, outside memory, with V, R, W, U, A and D; page 4 is frame 0x80001 once more, without U;
-- page 5 is the other supplier's frame with V and U, and no right
abbrev pub map₀ : List ℕ
map₀ = 0 ∷ 0x20000059 ∷ 1 ∷ 0x200004D7 ∷ 2 ∷ 0x200008C7 ∷ 3 ∷ 0x240000D7 ∷ 4 ∷ 0x200004C7 ∷ 5 ∷ 0x20000811 ∷ []

-- in user mode with Sv39; x2 is page 1, x3 page 2
abbrev pub hart₀ : Hart
hart₀ = hart (0 ∷ 0 ∷ 0x1000 ∷ 0x2000 ∷ replicate 28 0) (start_of.words but MODE ≔ 0 but SATP ≔ 8 * 2 ^ 60)

-- a hart with another word in place of one, or another register
abbrev pub with_word : (k v : ℕ) → Hart → Hart
with_word k v h = hart h.x (h.words but k ≔ v)

abbrev pub with_reg : (rd v : ℕ) → Hart → Hart
with_reg rd v h = hart (put_of rd v h.x) h.words

-- the two memories differ
pub front_long : length front ≡ 0x2000
unfolding front bytes_of
front_long = refl

pub secret_at : (secret : ℕ) → get_or (memory_with secret) 0x2000 0 ≡ secret
unfolding memory_with
secret_at secret = get_or_at front secret (replicate 4095 0) 0 0x2000 front_long

pub differ : memory_with 0xAA ≡ memory_with 0xBB → ⊥
differ e = omega (arith, sym (secret_at 0xAA) ∙ (ap (λ (m : List ℕ). get_or m 0x2000 0) e ∙ secret_at 0xBB))

-- below the third page they do not
same_below : (o : ℕ) → o < 0x2000 → get_or (memory_with 0xAA) o 0 ≡ get_or (memory_with 0xBB) o 0
unfolding memory_with
same_below o l =
    let b : o < length front = omega (arith, front_long) in
    get_or-append front _ 0 o b ∙ sym (get_or-append front _ 0 o b)

pub memory_long : (secret : ℕ) → length (memory_with secret) ≡ 0x3000
unfolding memory_with front bytes_of
memory_long secret = refl

-- nor above memory's end, where there is no byte
same_above : (o : ℕ) → 0x3000 ≤ o → get_or (memory_with 0xAA) o 0 ≡ get_or (memory_with 0xBB) o 0
same_above o l =
    get_or-eq_default (memory_with 0xAA) 0 (omega (arith, memory_long 0xAA))
    ∙ sym (get_or-eq_default (memory_with 0xBB) 0 (omega (arith, memory_long 0xBB)))

-- a valid entry with its U bit names a frame below the third page's, or one that lies above memory
named_below : (c : Control) (o : ℕ) (i : ℕ) → Entry map₀ i → Taken c (leaf_at map₀ i) → frame_of (leaf_at map₀ i) ≡ (place.base + o) / 4096
    → get_or (memory_with 0xAA) o 0 ≡ get_or (memory_with 0xBB) o 0
named_below c o zero s t f = same_below o (omega (arith, f))
named_below c o (suc zero) s t f = same_below o (omega (arith, f))
named_below c o (suc (suc zero)) s t f = absurd (false≢true t.1)
named_below c o (suc (suc (suc zero))) s t f = same_above o (omega (arith, f))
named_below c o (suc (suc (suc (suc zero)))) s t f = absurd (false≢true t.1)
named_below c o (suc (suc (suc (suc (suc zero))))) s t f = absurd (false≢true t.0)
named_below c o (suc (suc (suc (suc (suc (suc i)))))) s t f = absurd (omega (arith, s))

-- whatever the regime is
pub alike₀ : (c : Control) → Alike (Seen Taken c map₀) (memory_with 0xAA) (memory_with 0xBB)
alike₀ c = record {
  long = memory_long 0xAA ∙ sym (memory_long 0xBB);
  bytes = λ o N. named_below c o N.entry N.stands N.valid N.names;
}

-- the hypotheses
pub starts : IsolationStarts Taken map₀ hart₀ (memory_with 0xAA) (memory_with 0xBB)
starts = record { user = refl; sv39 = refl; alike = alike₀ (in_force hart₀) }

-- by the bits alone page 5 names the other supplier's frame, and then the memories may not differ there
pub not_by_bits : IsolationStarts Marked map₀ hart₀ (memory_with 0xAA) (memory_with 0xBB) → ⊥
not_by_bits S =
    omega (
      arith,
      sym (secret_at 0xAA)
          ∙ (S.alike.bytes 0x2000 (record { entry = 5; stands = omega arith; valid = (refl, refl); names = refl }) ∙ secret_at 0xBB),
    )

-- where no such page stands in the map, they may
marked_below : (o : ℕ) (i : ℕ) → Entry pages i → Marked (in_force hart₀) (leaf_at pages i) → frame_of (leaf_at pages i) ≡ (place.base + o) / 4096
    → get_or (memory_with 0xAA) o 0 ≡ get_or (memory_with 0xBB) o 0
marked_below o zero s t f = same_below o (omega (arith, f))
marked_below o (suc zero) s t f = same_below o (omega (arith, f))
marked_below o (suc (suc zero)) s t f = absurd (false≢true t.1)
marked_below o (suc (suc (suc i))) s t f = absurd (omega (arith, s))

pub starts_by_bits : IsolationStarts Marked pages hart₀ (memory_with 0xAA) (memory_with 0xBB)
starts_by_bits = record {
  user = refl;
  sv39 = refl;
  alike = record {
    long = memory_long 0xAA ∙ sym (memory_long 0xBB);
    bytes = λ o N. marked_below o N.entry N.stands N.valid N.names;
  };
}

-- the harts after the load, the store, and the load that is a page fault
abbrev pub hart₁ : Hart
hart₁ = with_word PC 4 (with_reg 5 0x1111 hart₀)

abbrev pub hart₂ : Hart
hart₂ = with_word PC 8 hart₁

abbrev pub hart₃ : Hart
hart₃ = hart hart₂.x (trap_of hart₂.words 13 0x2000)

-- memory after the store
abbrev pub stored : (secret : ℕ) → List ℕ
stored secret = store_of (memory_with secret) 0x1008 8 0x1111

-- what each step does, computed in the one memory; and what an access through an odd page does: outside memory it is an access fault;
-- without U, or without a right, a page fault, whatever else names the frame
pub record Computed : Type 0 where
  pub accepted : refusal_of hart₀ (memory_with 0xAA) map₀ ≡ None
  pub first : plan_of Fetch hart₀ (memory_with 0xAA) map₀ ≡ Write 5 0x1111 4
  pub second : plan_of Fetch hart₁ (memory_with 0xAA) map₀ ≡ Store (record { 0 = 0x80001008 }) Double 0x1111 8
  pub third : plan_of Fetch hart₂ (stored 0xAA) map₀ ≡ Trap 13 0x2000
  pub outside : plan_of (Given 0x0001B303) (with_reg 3 0x3000 hart₀) (memory_with 0xAA) map₀ ≡ Trap 5 0x3000
  pub twice : plan_of (Given 0x0001B303) (with_reg 3 0x4000 hart₀) (memory_with 0xAA) map₀ ≡ Trap 13 0x4000
  pub pointer : plan_of (Given 0x0001B303) (with_reg 3 0x5000 hart₀) (memory_with 0xAA) map₀ ≡ Trap 13 0x5000

pub computed : Computed
unfolding refusal_of legal words_legal memory.memory_refused_of page.map_refused_of page.pages_of page.any_large page.rise_from page.strictly_rise effect_of fetched_of
    arrived_of landed_of execute_of decode_of base.decode_load_of base.decode_store_of access_of passed_of at_of done_of place_of reached_of control.effective_mode_of transformed_of
    mask_of aligned_of paged_place_of through_of page.lookup_of settle_of judge_of inside_of within_of setting_of control_of shadow_on pad_on mode_of memory_with
    front bytes_of number load_of store_of extend_of
computed = record { accepted = refl; first = refl; second = refl; third = refl; outside = refl; twice = refl; pointer = refl }

-- k steps in the one memory
abbrev steps : ℕ → Run
steps k = run_of k hart₀ (memory_with 0xAA) map₀

further : (k : ℕ) (r : Run) (e : Effect) → steps k ≡ r → r.trapped ≡ false → plan_of Fetch r.hart r.memory map₀ ≡ e
    → steps (suc k) ≡ after r.count (once (outcome_of e r.hart r.memory))
unfolding step_from
further k r e a t p = run_longer k hart₀ (memory_with 0xAA) map₀ ∙ rw (a, t, p)

ran₀ : steps 0 ≡ stayed hart₀ (memory_with 0xAA)
unfolding run_from
ran₀ = refl

ran₁ : steps 1 ≡ record { hart = hart₁; memory = memory_with 0xAA; count = 1; trapped = false; cause = 0 }
ran₁ = further 0 _ _ ran₀ refl computed.first

ran₂ : steps 2 ≡ record { hart = hart₂; memory = stored 0xAA; count = 2; trapped = false; cause = 0 }
ran₂ = further 1 _ _ ran₁ refl computed.second

ran₃ : steps 3 ≡ record { hart = hart₃; memory = stored 0xAA; count = 3; trapped = true; cause = 13 }
ran₃ = further 2 _ _ ran₂ refl computed.third

-- a call with a budget of 3
pub called : run_call_of 3 hart₀ (memory_with 0xAA) map₀
    ≡ taken_with (record { hart = hart₃; memory = stored 0xAA; count = 3; trapped = true; cause = 13 })
unfolding run_call_of run_refusal_of
called = rw computed.accepted (ap taken_with ran₃)

-- its answer
abbrev pub answer₃ : Answer
answer₃ = record { refusal = None; hart = hart₃; count = 3; trap = Some 13 }

pub one_answer : (session_of (run 3 ∷ []) hart₀ (memory_with 0xAA) map₀).answers ≡ answer₃ ∷ []
unfolding session_of
one_answer = rw called

-- and the memory that it leaves
pub one_memory : (session_of (run 3 ∷ []) hart₀ (memory_with 0xAA) map₀).memory ≡ stored 0xAA
unfolding session_of
one_memory = rw called

-- in the other memory the theorem, and not the computation, gives the answer
pub same_answer : (session_of (run 3 ∷ []) hart₀ (memory_with 0xBB) map₀).answers ≡ answer₃ ∷ []
same_answer = sym (by_step_5 map₀ hart₀ (memory_with 0xAA) (memory_with 0xBB) starts (run 3 ∷ [])).answers ∙ one_answer

-- what the run stored
stored_byte : get_or (stored 0xAA) 0x1008 0 ≡ 0x11
unfolding memory_with front bytes_of store_of
stored_byte = refl

pub same_byte : get_or (session_of (run 3 ∷ []) hart₀ (memory_with 0xBB) map₀).memory 0x1008 0 ≡ 0x11
same_byte =
    sym ((by_step_5 map₀ hart₀ (memory_with 0xAA) (memory_with 0xBB) starts (run 3 ∷ [])).named.bytes 0x1008
    (record { entry = 1; stands = omega arith; valid = (refl, refl); names = refl }))
    ∙ (ap (λ (m : List ℕ). get_or m 0x1008 0) one_memory ∙ stored_byte)

-- and the secret, which it left alone: no valid entry with its U bit names that frame, or the hypotheses would not hold
hidden : Seen Taken (in_force hart₀) map₀ 0x2000 → ⊥
hidden N = omega (arith, sym (secret_at 0xAA) ∙ (starts.alike.bytes 0x2000 N ∙ secret_at 0xBB))

pub kept_secret : get_or (session_of (run 3 ∷ []) hart₀ (memory_with 0xBB) map₀).memory 0x2000 0 ≡ 0xBB
kept_secret =
    (by_step_5 map₀ hart₀ (memory_with 0xAA) (memory_with 0xBB) starts (run 3 ∷ [])).own'.bytes 0x2000 hidden ∙ secret_at 0xBB
