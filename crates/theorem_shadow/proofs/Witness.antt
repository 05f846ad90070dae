-- The promise is not empty: a hart, memory and map that meet its hypotheses, and a stretch from there with pushes, pops that match them, a pop
-- below the start and a mismatch, which traps. Every step fetches, so the stretch is also a run (WitnessRun.antt). All of it is computed.
-- Assumes nothing.
use mathlib.Core.Bool.{true, false, false≢true, and-false}
use mathlib.Core.List.{List, [], ◌∷◌, ◌++◌}
use mathlib.Core.Logic.{◌≢◌}
use mathlib.Core.Path.{◌≡◌, refl, sym, ap, ◌∙◌}
use Prim.Native.Nat.{ℕ, zero, suc, ◌*◌, ◌^◌}
use native.Mathlib.Omega.{arith}
use lib.ListN.{replicate}
use Rattle.decode.specs.Cfi.{zimop_of}
use Rattle.decode.specs.System.{system_of, decode_csr_of}
use Rattle.decode.specs.Decode.{decode_of}
use Rattle.memory.specs.Bytes.{bytes_of, number, load_of, store_of}
use Rattle.memory.specs.Refusal as memory
use Rattle.address_judge.specs.Judge.{judge_of}
use Rattle.address_page.specs.Map as page
use Rattle.address.specs.Align.{aligned_of}
use Rattle.address.specs.Control as control
use Rattle.address.specs.Mask.{mask_of, transformed_of}
use Rattle.address_place.specs.Place.{within_of, inside_of, settle_of, through_of, paged_place_of, reached_of, place_of}
use Rattle.address.specs.declared.control.Control.{Control}
use Rattle.isa.specs.Mode.{mode_of}
use Rattle.step_transfer.specs.Access.{popped_of, done_of, at_of, passed_of, access_of}
use Rattle.step_meaning.specs.Instruction.{execute_of}
use Rattle.step_meaning.specs.Plan.{fetched_of, landed_of, arrived_of, effect_of}
use Rattle.step_effect.specs.declared.Effect.{Effect}
use Rattle.step_effect.specs.declared.Effect.TheVariants.{Write, Jump, Pad, Store, Push, Pop, Swap, Trap}
use Rattle.step_effect.specs.declared.Effect.TheVariants as effect
use Rattle.step_meaning.specs.declared.Source.{Source}
use Rattle.step_meaning.specs.declared.Source.TheVariants.{Fetch}
use Rattle.step_hart.specs.Hart.{hart, legal, start_of}
use Rattle.csr_setting.specs.Regime.{control_of, shadow_on, pad_on}
use Rattle.csr_words.specs.Words.{◌of◌, ◌but◌≔◌, PC, MODE, SSP, SENVCFG, SATP, MENVCFG, MCAUSE, MTVAL}
use Rattle.csr_words.specs.Legal.{words_legal}
use Rattle.csr_words.specs.Setting.{setting_of}
use Rattle.csr_words.specs.Trap.{trap_of, trap_m}
use Rattle.step_transfer.specs.Commit.{memory_of}
use Rattle.step_hart.specs.Step.{apply_of, traps_of, plan_of, step_from}
use Rattle.step_hart.specs.declared.Hart.{Hart}
use Rattle.run_call.specs.Call.{refusal_of}
use Rattle.theorem_origin.specs.Force.{in_force}
use Rattle.theorem_shadow.specs.Promise.{StandsOnce, ShadowStarts, Event, pushed, popped, quiet, event_of, NoSwap, NoPointerWrite, Stretch, start, step}
use Rattle.theorem_shadow.specs.Promise.{Shadow, PopCheck, Permitted, unmatched, match_of}
use Rattle.theorem_shadow.proofs.Demand.{shadow_stack}

-- sspush x1, sspush x5, sspopchk x5, sspopchk x1, sspopchk x1, sspush x5, sspopchk x1
abbrev program : List ℕ
program =
    bytes_of 4 0xCE104073
    ++ bytes_of 4 0xCE504073
    ++ bytes_of 4 0xCDC2C073
    ++ bytes_of 4 0xCDC0C073
    ++ bytes_of 4 0xCDC0C073
    ++ bytes_of 4 0xCE504073
    ++ bytes_of 4 0xCDC0C073

-- two pages: the program's, and the stack's, where 0x1111 stands at index 0x1010
unfoldable pub memory₀ : List ℕ
memory₀ = program ++ replicate 4084 0 ++ bytes_of 8 0x1111 ++ replicate 4072 0

-- page 0 is frame 0x80000 with V, X, U and A; page 1 is frame 0x80001 with V, W, U, A and D, a shadow page
abbrev pub map₀ : List ℕ
map₀ = 0 ∷ 0x20000059 ∷ 1 ∷ 0x200004D5 ∷ []

-- in user mode with Sv39 and both enables; x1 is 0x1111 and x5 is 0x2222; the pointer is at the 0x1111 in memory
abbrev pub hart₀ : Hart
hart₀ =
    hart (0 ∷ 0x1111 ∷ 0 ∷ 0 ∷ 0 ∷ 0x2222 ∷ replicate 26 0)
    (start_of.words but MODE ≔ 0 but SSP ≔ 0x1010 but SATP ≔ 8 * 2 ^ 60 but MENVCFG ≔ 8 but SENVCFG ≔ 8)

-- the map's two frames differ, so whatever the regime is, each stands in one entry
pub once₀ : (c : Control) → StandsOnce c map₀
once₀ c zero zero a b v w f = refl
once₀ c zero (suc j) a b v w f = absurd (false≢true (sym (and-false c.sse) ∙ v.0))
once₀ c (suc zero) zero a b v w f = absurd (omega (arith, f))
once₀ c (suc zero) (suc zero) a b v w f = refl
once₀ c (suc zero) (suc (suc j)) a b v w f = absurd (omega (arith, b))
once₀ c (suc (suc i)) j a b v w f = absurd (omega (arith, a))

-- the hypotheses
pub starts : ShadowStarts map₀ hart₀ memory₀
unfolding refusal_of legal words_legal memory.memory_refused_of page.map_refused_of page.pages_of page.any_large page.rise_from page.strictly_rise memory₀ bytes_of
starts = record { accepted = refl; user = refl; sv39 = refl; menvcfg = refl; senvcfg = refl; once = once₀ (in_force hart₀) }

-- the hart after each step: the pointer and pc have moved
abbrev moved : (pc ssp : ℕ) → Hart
moved pc ssp = hart hart₀.x (hart₀.words but PC ≔ pc but SSP ≔ ssp)

abbrev pub hart₁ : Hart
hart₁ = moved 4 0x1008

abbrev pub hart₂ : Hart
hart₂ = moved 8 0x1000

abbrev pub hart₃ : Hart
hart₃ = moved 12 0x1008

abbrev pub hart₄ : Hart
hart₄ = moved 16 0x1010

abbrev pub hart₅ : Hart
hart₅ = moved 20 0x1018

abbrev pub hart₆ : Hart
hart₆ = moved 24 0x1010

abbrev pub hart₇ : Hart
hart₇ = hart hart₆.x (trap_of hart₆.words 18 3)

-- memory after each push
abbrev pub memory₁ : List ℕ
memory₁ = store_of memory₀ 0x1008 8 0x1111

abbrev pub memory₂ : List ℕ
memory₂ = store_of memory₁ 0x1000 8 0x2222

abbrev pub memory₃ : List ℕ
memory₃ = store_of memory₂ 0x1010 8 0x2222

-- what each step does
pub record Effects : Type 0 where
  pub first : plan_of Fetch hart₀ memory₀ map₀ ≡ Push (record { 0 = 0x80001008 }) 0x1111 0x1008 4
  pub second : plan_of Fetch hart₁ memory₁ map₀ ≡ Push (record { 0 = 0x80001000 }) 0x2222 0x1000 8
  -- the pops of the two, last in first out
  pub third : plan_of Fetch hart₂ memory₂ map₀ ≡ Pop 0x1008 12
  pub fourth : plan_of Fetch hart₃ memory₂ map₀ ≡ Pop 0x1010 16
  -- below the start: x1 is what memory started with
  pub fifth : plan_of Fetch hart₄ memory₂ map₀ ≡ Pop 0x1018 20
  pub sixth : plan_of Fetch hart₅ memory₂ map₀ ≡ Push (record { 0 = 0x80001010 }) 0x2222 0x1010 24
  -- x5 was pushed, and x1 is not that
  pub seventh : plan_of Fetch hart₆ memory₃ map₀ ≡ Trap 18 3

pub effects : Effects
unfolding effect_of fetched_of arrived_of landed_of execute_of decode_of system_of decode_csr_of zimop_of access_of passed_of at_of done_of popped_of place_of reached_of
    control.effective_mode_of transformed_of mask_of aligned_of paged_place_of through_of page.lookup_of settle_of judge_of inside_of within_of setting_of control_of
    shadow_on pad_on mode_of memory₀ bytes_of number load_of store_of
effects = record { first = refl; second = refl; third = refl; fourth = refl; fifth = refl; sixth = refl; seventh = refl }

-- 1 is a swap, 2 a CSR instruction or a return from a trap, 0 any other effect: so tells apart what a stretch may not have from what it surely may
abbrev pub sort_of : Effect → ℕ
sort_of (Write rd v to) = 0
sort_of (Jump rd link to elp) = 0
sort_of (Pad to) = 0
sort_of (Store q w v to) = 0
sort_of (Push q v ssp to) = 0
sort_of (Pop ssp to) = 0
sort_of (Swap rd old q w v to) = 1
sort_of (effect.Privileged k) = 2
sort_of (Trap cause tval) = 0

module _ (e : Effect) where
  pub no_swap : sort_of e ≢ 1 → NoSwap e
  no_swap n rd old q w v to is = absurd (n (ap sort_of is))

  pub no_pointer_write : sort_of e ≢ 2 → NoPointerWrite e
  no_pointer_write n o v rd to is = absurd (n (ap sort_of is))

-- a stretch goes on with a step whose effect is known
module _ {map : List ℕ} {h₀ : Hart} {m₀ : List ℕ} {es : List Event} {h : Hart} {m : List ℕ} (source : Source) (e : Effect) where
  pub then : Stretch map h₀ m₀ es h m false → plan_of source h m map ≡ e → sort_of e ≡ 0
      → Stretch map h₀ m₀ (event_of e ∷ es) (apply_of e h) (memory_of e m) (traps_of e)
  unfolding step_from
  then before is z =
      rw is at (step before source
      (rw is (no_swap e (λ o. absurd (omega (arith, z, o)))))
      (rw is (no_pointer_write e (λ o. absurd (omega (arith, z, o))))))

-- six steps, the newest event first
abbrev pub events₆ : List Event
events₆ = pushed 0x80001010 0x2222 ∷ popped ∷ popped ∷ popped ∷ pushed 0x80001000 0x2222 ∷ pushed 0x80001008 0x1111 ∷ []

pub before : Stretch map₀ hart₀ memory₀ events₆ hart₆ memory₃ false
before =
    then Fetch _
    (then Fetch _
    (then Fetch _
    (then Fetch _
    (then Fetch _
    (then Fetch _ start effects.first refl)
    effects.second refl)
    effects.third refl)
    effects.fourth refl)
    effects.fifth refl)
    effects.sixth refl

-- and the seventh, which traps
pub stretch : Stretch map₀ hart₀ memory₀ (quiet ∷ events₆) hart₇ memory₃ true
stretch = then Fetch _ before effects.seventh refl

-- its end: a shadow stack fault to M, where the pointer did not move
pub ended :
    (SSP of hart₇.words ≡ 0x1010) × (MODE of hart₇.words ≡ 3) × (MCAUSE of hart₇.words ≡ 18) × (MTVAL of hart₇.words ≡ 3)
unfolding trap_of trap_m mode_of
ended = (refl, refl, refl, refl)

-- the statement's words apply to it: three of its steps are pop-checks, of x5, x1 and x1, and their accesses are permitted; and the byte at
-- 0x1010 is a shadow byte
pub record Applies : Type 0 where
  pub third : PopCheck Fetch hart₂ memory₂ map₀ 0x2222
  pub third_at : Permitted hart₂ memory₂ map₀ (record { 0 = 0x80001000 })
  pub fifth : PopCheck Fetch hart₄ memory₂ map₀ 0x1111
  pub fifth_at : Permitted hart₄ memory₂ map₀ (record { 0 = 0x80001010 })
  pub seventh : PopCheck Fetch hart₆ memory₃ map₀ 0x1111
  pub seventh_at : Permitted hart₆ memory₃ map₀ (record { 0 = 0x80001010 })
  pub byte : Shadow (in_force hart₀) map₀ 0x1010

pub applies : Applies
unfolding fetched_of decode_of system_of decode_csr_of zimop_of place_of reached_of control.effective_mode_of transformed_of mask_of aligned_of paged_place_of through_of
    page.lookup_of settle_of judge_of inside_of within_of setting_of control_of shadow_on pad_on mode_of memory₀ bytes_of number load_of store_of
applies = record {
  third = record { word = 0xCDC2C073; rd = 0; rs1 = 5; rs2 = 0; off = 0; arrives = refl; passes = refl; reads = refl; register = refl };
  third_at = refl;
  fifth = record { word = 0xCDC0C073; rd = 0; rs1 = 1; rs2 = 0; off = 0; arrives = refl; passes = refl; reads = refl; register = refl };
  fifth_at = refl;
  seventh = record { word = 0xCDC0C073; rd = 0; rs1 = 1; rs2 = 0; off = 0; arrives = refl; passes = refl; reads = refl; register = refl };
  seventh_at = refl;
  byte = record { entry = 1; stands = omega arith; valid = (refl, refl); frame = refl };
}

-- what each pop-check is to find, by the statement: x5 and x1, last in first out; below the start what memory started with; and at last x5
pub matches :
    (match_of (pushed 0x80001000 0x2222 ∷ pushed 0x80001008 0x1111 ∷ []) memory₀ (record { 0 = 0x80001000 }) ≡ 0x2222)
    × (match_of (popped ∷ pushed 0x80001000 0x2222 ∷ pushed 0x80001008 0x1111 ∷ []) memory₀ (record { 0 = 0x80001008 }) ≡ 0x1111)
    × (match_of (popped ∷ popped ∷ pushed 0x80001000 0x2222 ∷ pushed 0x80001008 0x1111 ∷ []) memory₀ (record { 0 = 0x80001010 }) ≡ 0x1111)
    × (match_of events₆ memory₀ (record { 0 = 0x80001010 }) ≡ 0x2222)
unfolding unmatched memory₀ bytes_of number load_of
matches = (refl, refl, refl, refl)

-- so that the theorem, and not the computation, says that the seventh step traps
pub caught : (step_from Fetch hart₆ memory₃ map₀).trapped ≡ true
caught =
    ((shadow_stack map₀ hart₀ memory₀ starts _ _ _ _ before).checks refl Fetch 0x1111 (record { 0 = 0x80001010 })
    applies.seventh applies.seventh_at).1
    (λ e. absurd (omega (arith, e, matches.3)))
