-- Each hypothesis of the promise earns its place: a start that meets all the others and not this one, and a step from there, or none, after
-- which the promise is broken. The starts are the witness's, changed in one thing (and x2, where the word needs an address); a step
-- has a given word. Not here: menvcfg's enable, since the theorem does without it.
-- Assumes nothing.
use mathlib.Core.Bool.{true, false, false≢true}
use mathlib.Core.List.{List, [], ◌∷◌}
use mathlib.Core.Path.{◌≡◌, refl, sym, ◌∙◌}
use Prim.Native.Nat.{ℕ, ◌/◌, ◌^◌}
use native.Mathlib.Omega.{arith}
use Rattle.decode_base.specs.Base as base
use Rattle.decode.specs.Cfi.{swap_of, zimop_of}
use Rattle.decode.specs.System as system
use Rattle.decode.specs.Decode.{decode_of}
use Rattle.isa.specs.declared.CsrOperation.TheVariants as operation
use Rattle.isa.specs.declared.Width.TheVariants.{Double}
use Rattle.memory.specs.Bytes.{bytes_of, number, load_of, store_of}
use Rattle.memory.specs.Extend.{extend_of}
use Rattle.memory.specs.Refusal as memory
use Rattle.address_judge.specs.Judge.{judge_of}
use Rattle.address_page.specs.Map as page
use Rattle.address.specs.Align.{aligned_of}
use Rattle.address.specs.Control as control
use Rattle.address.specs.Mask.{mask_of, transformed_of}
use Rattle.address_place.specs.Place.{within_of, inside_of, settle_of, through_of, paged_place_of, plain_place_of, reached_of, place_of}
use Rattle.address_place.specs.declared.Physical.{Physical}
use Rattle.isa.specs.Mode.{mode_of}
use Rattle.csr_access.specs.Enable.{sse_of}
use Rattle.csr_access.specs.Reach.{reach_of}
use Rattle.csr.specs.declared.Csr.TheVariants.{Ssp}
use Rattle.step_transfer.specs.Access.{done_of, at_of, passed_of, access_of}
use Rattle.step_effect.specs.Csrs as csrs
use Rattle.step_meaning.specs.Instruction.{execute_of}
use Rattle.step_meaning.specs.Plan.{fetched_of, landed_of, arrived_of, effect_of}
use Rattle.step_effect.specs.declared.Effect.{Effect}
use Rattle.step_effect.specs.declared.Effect.TheVariants.{Store, Swap, Privileged}
use Rattle.step_meaning.specs.declared.Source.TheVariants.{Given}
use Rattle.step_effect.specs.declared.Privileged.TheVariants.{Csr}
use Rattle.csr_setting.specs.Regime.{control_of, shadow_on, pad_on}
use Rattle.csr_words.specs.Words.{◌of◌, ◌but◌≔◌, PC, MODE, SSP, SENVCFG, SATP, MENVCFG}
use Rattle.csr_words.specs.Warl.{shown_of, written_of}
use Rattle.csr_words.specs.Legal.{words_legal}
use Rattle.csr_words.specs.Setting.{setting_of}
use Rattle.step_effect.specs.Register.{put_of}
use Rattle.step_hart.specs.Hart.{hart, legal}
use Rattle.step_hart.specs.Step.{Outcome, csr_of, privileged_of, plan_of, step_from}
use Rattle.step_hart.specs.declared.Hart.{Hart}
use Rattle.std.specs.Prelude.{None}
use Rattle.run_call.specs.Call.{refusal_of}
use Rattle.theorem_origin.specs.Force.{in_force}
use Rattle.theorem_shadow.specs.Promise.{StandsOnce, ShadowStarts, quiet, NoSwap, NoPointerWrite, Stretch, start, pushes, pops, Shadow, latest, PopCheck}
use Rattle.theorem_shadow.specs.Promise.{Permitted, unmatched, Promise}
use Rattle.theorem_shadow.proofs.Witness.{memory₀, map₀, hart₀, once₀, no_swap, no_pointer_write, then}

-- the hypotheses on the start, one by one
abbrev pub Accepted : (map : List ℕ) → Hart → Type 0
Accepted map h = refusal_of h memory₀ map ≡ None

abbrev pub InUser : Hart → Type 0
InUser h = MODE of h.words ≡ 0

abbrev pub Sv39 : Hart → Type 0
Sv39 h = SATP of h.words / 2 ^ 60 ≡ 8

abbrev pub Menvcfg : Hart → Type 0
Menvcfg h = sse_of (MENVCFG of h.words) ≡ true

abbrev pub Senvcfg : Hart → Type 0
Senvcfg h = sse_of (SENVCFG of h.words) ≡ true

abbrev pub Once : (map : List ℕ) → Hart → Type 0
Once map h = StandsOnce (in_force h) map

-- these are all
pub together : (map : List ℕ) (h : Hart) → Accepted map h → InUser h → Sv39 h → Menvcfg h → Senvcfg h → Once map h → ShadowStarts map h memory₀
together map h accepted user sv39 menvcfg senvcfg once =
    record { accepted = accepted; user = user; sv39 = sv39; menvcfg = menvcfg; senvcfg = senvcfg; once = once }

-- the eight shadow bytes at the witness's pointer: 0x1111 at the start
abbrev pub there : Physical
there = record { 0 = 0x80001010 }

-- memory with 0x2222 there, which x5 holds
abbrev pub changed : List ℕ
changed = store_of memory₀ 0x1010 8 0x2222

-- a hart with another word in place of one
abbrev pub with_word : (k v : ℕ) → Hart → Hart
with_word k v h = hart h.x (h.words but k ≔ v)

-- what a step leaves that goes on to the next word
abbrev pub left : Hart → (m : List ℕ) → Outcome
left h m = record { hart = with_word PC 4 h; memory = m; trapped = false; cause = 0 }

-- a stretch of one step that changed them and pushed nothing
abbrev pub Changes : (map : List ℕ) → Hart → Type 0
Changes map h = Stretch map h memory₀ (quiet ∷ []) (with_word PC 4 h) changed false

-- and what is promised of it does not hold
abbrev pub Breaks : (map : List ℕ) → Hart → Type 0
Breaks map h = Promise map h memory₀ (quiet ∷ []) (with_word PC 4 h) changed false → ⊥

-- the witness's hart with an address in x2
abbrev pub aimed : (x2 : ℕ) → Hart
aimed x2 = hart (put_of 2 x2 hart₀.x) hart₀.words

-- sd x5, 0(x2), where it reaches the shadow bytes
abbrev pub sd : ℕ
sd = 0x00513023

abbrev pub stores : Effect
stores = Store there Double 0x2222 4

-- without "one entry only": the frame of the shadow page is page 2's too, which has V, R, W, U, A and D
abbrev pub twice : List ℕ
twice = 0 ∷ 0x20000059 ∷ 1 ∷ 0x200004D5 ∷ 2 ∷ 0x200004D7 ∷ []

abbrev pub alias : Hart
alias = aimed 0x2010

-- without Sv39: in Bare there are no pages to protect
abbrev pub bare : Hart
bare = with_word SATP 0 (aimed 0x80001010)

-- without user mode: in M there are none either
abbrev pub in_machine : Hart
in_machine = with_word MODE 3 (aimed 0x80001010)

-- without "no swap": ssamoswap.d x0, x5, (x2) writes the shadow bytes and is no push
abbrev pub ssamoswap : ℕ
ssamoswap = 0x4851302F

abbrev pub swapping : Hart
swapping = aimed 0x1010

-- without "no write of the pointer by a CSR instruction": csrrw x0, ssp, x2 moves it and is no pop
abbrev pub csrrw : ℕ
csrrw = 0x01111073

abbrev pub pointing : Hart
pointing = aimed 0x1020

-- without the enable of senvcfg: sspopchk x5 only writes 0 to x0, whatever stands on the stack
abbrev pub sspopchk : ℕ
sspopchk = 0xCDC2C073

abbrev pub disabled : Hart
disabled = with_word SENVCFG 0 hart₀

-- what the definitions give for these, computed
record Computed : Type 0 where
  alias_accepted : Accepted twice alias
  alias_shadow : Shadow (in_force alias) twice 0x1010
  alias_stores : plan_of (Given sd) alias memory₀ twice ≡ stores
  bare_accepted : Accepted map₀ bare
  bare_shadow : Shadow (in_force bare) map₀ 0x1010
  bare_stores : plan_of (Given sd) bare memory₀ map₀ ≡ stores
  in_machine_accepted : Accepted map₀ in_machine
  in_machine_shadow : Shadow (in_force in_machine) map₀ 0x1010
  in_machine_stores : plan_of (Given sd) in_machine memory₀ map₀ ≡ stores
  swapping_accepted : Accepted map₀ swapping
  swapping_shadow : Shadow (in_force swapping) map₀ 0x1010
  swapping_swaps : plan_of (Given ssamoswap) swapping memory₀ map₀ ≡ Swap 0 0x1111 there Double 0x2222 4
  swapping_leaves : step_from (Given ssamoswap) swapping memory₀ map₀ ≡ left swapping changed
  pointing_accepted : Accepted map₀ pointing
  pointing_writes : plan_of (Given csrrw) pointing memory₀ map₀ ≡ Privileged (Csr operation.Write Ssp true 0x1020 0 4)
  pointing_leaves : step_from (Given csrrw) pointing memory₀ map₀ ≡ left (with_word SSP 0x1020 pointing) memory₀
  disabled_accepted : Accepted map₀ disabled
  disabled_checks : PopCheck (Given sspopchk) disabled memory₀ map₀ 0x2222
  disabled_permitted : Permitted disabled memory₀ map₀ there
  disabled_goes_on : (step_from (Given sspopchk) disabled memory₀ map₀).trapped ≡ false

computed : Computed
unfolding refusal_of legal words_legal memory.memory_refused_of page.map_refused_of page.pages_of page.any_large page.rise_from page.strictly_rise step_from privileged_of
    csr_of written_of shown_of effect_of fetched_of arrived_of landed_of execute_of decode_of base.decode_store_of swap_of system.system_of system.decode_csr_of zimop_of
    csrs.csr_effect_of csrs.csr_reached_of reach_of access_of passed_of at_of done_of place_of reached_of control.effective_mode_of transformed_of mask_of aligned_of paged_place_of
    plain_place_of through_of page.lookup_of settle_of judge_of inside_of within_of setting_of control_of shadow_on pad_on mode_of memory₀ bytes_of number
    load_of extend_of
computed = record {
  alias_accepted = refl;
  alias_shadow = record { entry = 1; stands = omega arith; valid = (refl, refl); frame = refl };
  alias_stores = refl;
  bare_accepted = refl;
  bare_shadow = record { entry = 1; stands = omega arith; valid = (refl, refl); frame = refl };
  bare_stores = refl;
  in_machine_accepted = refl;
  in_machine_shadow = record { entry = 1; stands = omega arith; valid = (refl, refl); frame = refl };
  in_machine_stores = refl;
  swapping_accepted = refl;
  swapping_shadow = record { entry = 1; stands = omega arith; valid = (refl, refl); frame = refl };
  swapping_swaps = refl;
  swapping_leaves = refl;
  pointing_accepted = refl;
  pointing_writes = refl;
  pointing_leaves = refl;
  disabled_accepted = refl;
  disabled_checks = record { word = sspopchk; rd = 0; rs1 = 5; rs2 = 0; off = 0; arrives = refl; passes = refl; reads = refl; register = refl };
  disabled_permitted = refl;
  disabled_goes_on = refl;
}

breaks : (map : List ℕ) (h : Hart) → Shadow (in_force h) map 0x1010 → Breaks map h
unfolding memory₀ bytes_of store_of latest
breaks map h shadow p = absurd (omega (arith, p.bytes 0x1010 shadow))

-- "let each frame of a valid shadow page stand in one entry of the map only"
pub needs_once :
    Accepted twice alias × InUser alias × Sv39 alias × Menvcfg alias × Senvcfg alias × Changes twice alias × Breaks twice alias
needs_once = (
  computed.alias_accepted,
  refl,
  refl,
  refl,
  refl,
  then (Given sd) stores start computed.alias_stores refl,
  breaks twice alias computed.alias_shadow,
)

-- "with Sv39"
pub needs_sv39 : Accepted map₀ bare × InUser bare × Menvcfg bare × Senvcfg bare × Once map₀ bare × Changes map₀ bare × Breaks map₀ bare
needs_sv39 = (
  computed.bare_accepted,
  refl,
  refl,
  refl,
  once₀ (in_force bare),
  then (Given sd) stores start computed.bare_stores refl,
  breaks map₀ bare computed.bare_shadow,
)

-- "in user mode"
pub needs_user :
    Accepted map₀ in_machine × Sv39 in_machine × Menvcfg in_machine × Senvcfg in_machine × Once map₀ in_machine
    × Changes map₀ in_machine × Breaks map₀ in_machine
needs_user = (
  computed.in_machine_accepted,
  refl,
  refl,
  refl,
  once₀ (in_force in_machine),
  then (Given sd) stores start computed.in_machine_stores refl,
  breaks map₀ in_machine computed.in_machine_shadow,
)

-- "without a shadow swap"
pub needs_no_swap :
    ShadowStarts map₀ swapping memory₀
    × NoPointerWrite (plan_of (Given ssamoswap) swapping memory₀ map₀)
    × (plan_of (Given ssamoswap) swapping memory₀ map₀ ≡ Swap 0 0x1111 there Double 0x2222 4)
    × (step_from (Given ssamoswap) swapping memory₀ map₀ ≡ left swapping changed)
    × Breaks map₀ swapping
needs_no_swap = (
  together map₀ swapping computed.swapping_accepted refl refl refl refl (once₀ (in_force swapping)),
  rw computed.swapping_swaps (no_pointer_write _ (λ e. absurd (omega (arith, e)))),
  computed.swapping_swaps,
  computed.swapping_leaves,
  breaks map₀ swapping computed.swapping_shadow,
)

-- "without a write of the shadow pointer by a CSR instruction"
pub needs_no_pointer_write :
    ShadowStarts map₀ pointing memory₀
    × NoSwap (plan_of (Given csrrw) pointing memory₀ map₀)
    × (plan_of (Given csrrw) pointing memory₀ map₀ ≡ Privileged (Csr operation.Write Ssp true 0x1020 0 4))
    × (step_from (Given csrrw) pointing memory₀ map₀ ≡ left (with_word SSP 0x1020 pointing) memory₀)
    × (Promise map₀ pointing memory₀ (quiet ∷ []) (with_word PC 4 (with_word SSP 0x1020 pointing)) memory₀ false → ⊥)
unfolding pushes pops
needs_no_pointer_write = (
  together map₀ pointing computed.pointing_accepted refl refl refl refl (once₀ (in_force pointing)),
  rw computed.pointing_writes (no_swap _ (λ e. absurd (omega (arith, e)))),
  computed.pointing_writes,
  computed.pointing_leaves,
  (λ p. absurd (omega (arith, p.pointer))),
)

-- "both shadow-stack enables on": already at the start a pop-check would not trap, where its register is not what stands there
pub needs_senvcfg :
    Accepted map₀ disabled × InUser disabled × Sv39 disabled × Menvcfg disabled × Once map₀ disabled
    × Stretch map₀ disabled memory₀ [] disabled memory₀ false
    × (Promise map₀ disabled memory₀ [] disabled memory₀ false → ⊥)
unfolding memory₀ bytes_of number load_of unmatched
needs_senvcfg = (
  computed.disabled_accepted,
  refl,
  refl,
  refl,
  once₀ (in_force disabled),
  start,
  (λ p.
      let traps = (p.checks refl (Given sspopchk) 0x2222 there computed.disabled_checks computed.disabled_permitted).1 in
      false≢true (sym computed.disabled_goes_on ∙ traps (λ e. absurd (omega (arith, e))))),
)
