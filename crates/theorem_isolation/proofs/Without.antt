-- Each hypothesis of the theorem earns its place: a start that meets the others and not this one, and a call after which a register of the one
-- hart holds what the other's does not. The word is ld x6, 0(x3).
-- Assumes nothing.
use mathlib.Core.List.{List, [], ◌∷◌}
use mathlib.Core.Path.{◌≡◌, refl, sym, ap, ◌∙◌}
use Prim.Native.Nat.{ℕ, ◌+◌, ◌/◌, ◌^◌}
use native.Mathlib.Omega.{arith}
use lib.ListN.{get_or, length, replicate, length-replicate, get_or-replicate, get_or-eq_default}
use Rattle.word.proofs.Either.{either}
use Rattle.decode_base.specs.Base as base
use Rattle.decode.specs.Decode.{decode_of}
use Rattle.decode.specs.System as system
use Rattle.memory.specs.Bytes.{bytes_of, number, load_of, store_of}
use Rattle.memory.specs.Extend.{extend_of}
use Rattle.memory.specs.Refusal as memory
use Rattle.address_judge.specs.Judge.{judge_of}
use Rattle.address_page.specs.Map as page
use Rattle.address.specs.Align.{aligned_of}
use Rattle.address.specs.Control as control
use Rattle.address.specs.Mask.{mask_of, transformed_of}
use Rattle.address_place.specs.Place.{within_of, inside_of, settle_of, through_of, paged_place_of, plain_place_of, reached_of, place_of}
use Rattle.isa.specs.Mode.{mode_of}
use Rattle.csr_trap.specs.Trap.{enter_m_of}
use Rattle.step_transfer.specs.Access.{done_of, at_of, passed_of, access_of}
use Rattle.step_meaning.specs.Instruction.{execute_of}
use Rattle.step_meaning.specs.Plan.{fetched_of, landed_of, arrived_of, effect_of}
use Rattle.csr_words.specs.Words.{◌of◌, MODE, MSTATUS, SATP}
use Rattle.csr_words.specs.Legal.{words_legal}
use Rattle.csr_words.specs.Setting.{setting_of}
use Rattle.csr_words.specs.Trap.{trap_of, trap_m}
use Rattle.csr_setting.specs.Regime.{control_of, shadow_on, pad_on}
use Rattle.step_hart.specs.Hart.{hart, legal}
use Rattle.step_hart.specs.Step.{step_from}
use Rattle.step_hart.specs.declared.Hart.{Hart}
use Rattle.run_call.specs.Call.{refusal_of, step_from_call, step_word_call}
use Rattle.std.specs.Prelude.{Some, None}
use Rattle.run_call.specs.declared.Answer.{Answer}
use Rattle.theorem_origin.specs.Force.{in_force}
use Rattle.theorem_isolation.specs.Unseen.{Taken, Seen, Alike, Call, step_given_word, session_of, IsolationStarts, Unseen}
use Rattle.theorem_isolation.proofs.Witness.{front, memory_with, map₀, hart₀, with_word, with_reg, alike₀}

-- ld x6, 0(x3), as a row of one call
abbrev pub look : List Call
look = step_given_word 0x0001B303 ∷ []

-- register 6 after the first call
abbrev pub sixth : List Answer → ℕ
sixth [] = 0
sixth (a ∷ rest) = get_or a.hart.x 6 0

-- the hypotheses, one by one
abbrev pub InUser : Hart → Type 0
InUser h = MODE of h.words ≡ 0

abbrev pub Sv39 : Hart → Type 0
Sv39 h = SATP of h.words / 2 ^ 60 ≡ 8

abbrev pub Agree : Hart → Type 0
Agree h = Alike (Seen Taken (in_force h) map₀) (memory_with 0xAA) (memory_with 0xBB)

-- these are all
pub together : (h : Hart) → InUser h → Sv39 h → Agree h → IsolationStarts Taken map₀ h (memory_with 0xAA) (memory_with 0xBB)
together h user sv39 alike = record { user = user; sv39 = sv39; alike = alike }

abbrev pub Breaks : Hart → Type 0
Breaks h = Unseen Taken map₀ h (memory_with 0xAA) (memory_with 0xBB) look → ⊥

-- without user mode: in S, with SUM, a page without U is S's
abbrev pub supervisor : Hart
supervisor = with_word MODE 1 (with_word MSTATUS (0xA00000000 + 2 ^ 18) hart₀)

-- without Sv39: in Bare there are no pages
abbrev pub bare : Hart
bare = with_word SATP 0 (with_reg 3 0x80002000 hart₀)

-- past the first trap: ecall, to M
abbrev pub ecall : ℕ
ecall = 0x00000073

abbrev pub aimed : Hart
aimed = with_reg 3 0x80002000 hart₀

abbrev pub trapped : Hart
trapped = hart aimed.x (trap_of aimed.words 8 0)

-- memories of two lengths, of which no byte differs, and a map that names a frame which only the longer one has: page 0 is frame 0x80001
-- with V, R, W, U, A and D
abbrev pub zeroed : (k : ℕ) → List ℕ
zeroed k = replicate k 0

abbrev pub map_above : List ℕ
map_above = 0 ∷ 0x200004D7 ∷ []

abbrev pub hart_above : Hart
hart_above = with_reg 6 1 (with_reg 3 0 hart₀)

-- a memory that differs in a named frame: 0x22 in place of 0x11 at the start of page 1
abbrev pub touched : List ℕ
touched = store_of (memory_with 0xAA) 0x1000 1 0x22

abbrev pub reading : Hart
reading = with_reg 3 0x1000 hart₀

record Computed : Type 0 where
  supervisor_one : sixth (session_of look supervisor (memory_with 0xAA) map₀).answers ≡ 0xAA
  supervisor_other : sixth (session_of look supervisor (memory_with 0xBB) map₀).answers ≡ 0xBB
  bare_one : sixth (session_of look bare (memory_with 0xAA) map₀).answers ≡ 0xAA
  bare_other : sixth (session_of look bare (memory_with 0xBB) map₀).answers ≡ 0xBB
  trap_one : (step_word_call ecall aimed (memory_with 0xAA) map₀).answer
      ≡ record { refusal = None; hart = trapped; count = 1; trap = Some 8 }
  trap_other : (step_word_call ecall aimed (memory_with 0xBB) map₀).answer
      ≡ record { refusal = None; hart = trapped; count = 1; trap = Some 8 }
  past_one : sixth (session_of look trapped (memory_with 0xAA) map₀).answers ≡ 0xAA
  past_other : sixth (session_of look trapped (memory_with 0xBB) map₀).answers ≡ 0xBB
  touched_long : length (memory_with 0xAA) ≡ length touched
  touched_one : sixth (session_of look reading (memory_with 0xAA) map₀).answers ≡ 0x1111
  touched_other : sixth (session_of look reading touched map₀).answers ≡ 0x1122
  above_one : sixth (session_of look hart_above (zeroed 8192) map_above).answers ≡ 0
  above_other : sixth (session_of look hart_above (zeroed 4096) map_above).answers ≡ 1

computed : Computed
unfolding session_of step_from_call refusal_of legal words_legal memory.memory_refused_of page.map_refused_of page.pages_of page.any_large page.rise_from
    page.strictly_rise step_from effect_of fetched_of arrived_of landed_of execute_of decode_of base.decode_load_of system.system_of access_of passed_of at_of done_of
    place_of reached_of control.effective_mode_of transformed_of mask_of aligned_of paged_place_of plain_place_of through_of page.lookup_of settle_of judge_of inside_of
    within_of setting_of control_of shadow_on pad_on mode_of memory_with front bytes_of number load_of store_of extend_of trap_of trap_m enter_m_of
computed = record {
  supervisor_one = refl;
  supervisor_other = refl;
  bare_one = refl;
  bare_other = refl;
  trap_one = refl;
  trap_other = refl;
  past_one = refl;
  past_other = refl;
  touched_long = refl;
  touched_one = refl;
  touched_other = refl;
  above_one = refl;
  above_other = refl;
}

-- "from the same user-mode hart"
pub needs_user : Sv39 supervisor × Agree supervisor × Breaks supervisor
needs_user = (
  refl,
  alike₀ (in_force supervisor),
  (λ u. omega (arith, sym computed.supervisor_one ∙ (ap sixth u.answers ∙ computed.supervisor_other))),
)

-- "with Sv39 on"
pub needs_sv39 : InUser bare × Agree bare × Breaks bare
needs_sv39 = (
  refl,
  alike₀ (in_force bare),
  (λ u. omega (arith, sym computed.bare_one ∙ (ap sixth u.answers ∙ computed.bare_other))),
)

-- "Up to and including the first trap": from a start that meets all, one step traps, with one answer in both memories; a step from the hart that
-- it leaves breaks it
pub needs_stop :
    IsolationStarts Taken map₀ aimed (memory_with 0xAA) (memory_with 0xBB)
    × ((step_word_call ecall aimed (memory_with 0xAA) map₀).answer ≡ record { refusal = None; hart = trapped; count = 1; trap = Some 8 })
    × ((step_word_call ecall aimed (memory_with 0xBB) map₀).answer ≡ record { refusal = None; hart = trapped; count = 1; trap = Some 8 })
    × Breaks trapped
needs_stop = (
  together aimed refl refl (alike₀ (in_force aimed)),
  computed.trap_one,
  computed.trap_other,
  (λ u. omega (arith, sym computed.past_one ∙ (ap sixth u.answers ∙ computed.past_other))),
)

-- every byte of such a memory is 0, and there is none above its end
zeros : (k o : ℕ) → get_or (zeroed k) o 0 ≡ 0
zeros k o =
    either o k (λ l. get_or-replicate k o 0 0 l)
    (λ l. get_or-eq_default (zeroed k) 0 (rw (length-replicate k) l))

-- "of the same length"
pub needs_length :
    InUser hart_above × Sv39 hart_above
    × ((o : ℕ) → get_or (zeroed 8192) o 0 ≡ get_or (zeroed 4096) o 0)
    × (Unseen Taken map_above hart_above (zeroed 8192) (zeroed 4096) look → ⊥)
needs_length = (
  refl,
  refl,
  (λ o. zeros 8192 o ∙ sym (zeros 4096 o)),
  (λ u. omega (arith, sym computed.above_one ∙ (ap sixth u.answers ∙ computed.above_other))),
)

-- "that differ only in frames that no valid entry with its U bit names"
pub needs_agreement :
    InUser reading × Sv39 reading × (length (memory_with 0xAA) ≡ length touched)
    × (Unseen Taken map₀ reading (memory_with 0xAA) touched look → ⊥)
needs_agreement = (
  refl,
  refl,
  computed.touched_long,
  (λ u. omega (arith, sym computed.touched_one ∙ (ap sixth u.answers ∙ computed.touched_other))),
)
