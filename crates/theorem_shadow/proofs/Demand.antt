-- The shadow stack's promise, proved: each stretch keeps its promise. `promised` asks for less than the user's words give (`Enough`): of an
-- accepted state only that all words are there and ssp is a multiple of 8; and not menvcfg's enable, since a pop-check whose access is
-- permitted is one to a shadow page, and without that enable there is none.
-- Assumes nothing.
use mathlib.Core.Bool.{Bool, true, false, true≢false}
use mathlib.Core.List.{List}
use mathlib.Core.Logic.{◌↔◌}
use mathlib.Core.Path.{◌≡◌, refl, sym, ap, ◌∙◌}
use Prim.Native.Nat.{ℕ, ◌%◌}
use lib.Dec.{eqb}
use lib.ListN.{get_or, length}
use native.Mathlib.Omega.{arith}
use borrow.Author.Tests.{eqb-true, eqb-false, not-false}
use Rattle.word.proofs.Bools.{both}
use Rattle.word.specs.Choice.{pick}
use Rattle.word.specs.Sum.{sum_of}
use Rattle.isa.specs.declared.Width.TheVariants.{Double}
use Rattle.isa.specs.declared.Kind.TheVariants as kind
use Rattle.address_place.proofs.Reach.{place_paged, shadow_paged, shadow_on_shadow}
use Rattle.address_place.specs.declared.Physical.{Physical}
use Rattle.address.specs.declared.control.Control.{Control}
use Rattle.csr_access.specs.Enable.{sse_of}
use Rattle.isa.specs.Mode.{mode_of}
use Rattle.step_transfer.specs.Access.{read_of, popped_of}
use Rattle.step_meaning.specs.Instruction.{next_of}
use Rattle.step_effect.specs.declared.Effect.TheVariants.{Pop, Trap}
use Rattle.step_meaning.specs.declared.Source.{Source}
use Rattle.csr_words.specs.Words.{◌of◌, COUNT, PC, MODE, SSP, SENVCFG}
use Rattle.csr_words.proofs.Lawful.{ssp_eight}
use Rattle.step_hart.proofs.Steps.{lawful_hart}
use Rattle.step_hart.specs.Hart.{legal}
use Rattle.csr_setting.specs.Regime.{control_of, shadow_on}
use Rattle.csr_words.specs.Setting.{setting_of}
use Rattle.step_hart.specs.Step.{traps_of, step_from}
use Rattle.step_hart.specs.declared.Hart.{Hart}
use Rattle.run_call.proofs.Accepted.{no_refusal}
use Rattle.theorem_origin.proofs.Users.{in_user, sv39_on, Same, same}
use Rattle.theorem_origin.specs.Force.{in_force}
use Rattle.theorem_shadow.specs.Promise.{StandsOnce, ShadowStarts, Event, Stretch, start, step, Shadow, unmatched, PopCheck, Permitted, match_of, Promise}
use Rattle.theorem_shadow.specs.Promise.{ShadowClaim}
use Rattle.theorem_shadow.proofs.Geometry.{Geometry}
use Rattle.theorem_shadow.proofs.Invariant.{inv_start}
use Rattle.theorem_shadow.proofs.Slots.{geometry}
use Rattle.theorem_shadow.proofs.Steps.{slot, as_at_start, Holds, step_left}
use Rattle.theorem_shadow.proofs.Ties.{check_does}

-- what is enough for the proof
pub record Enough (map : List ℕ) (h₀ : Hart) (m₀ : List ℕ) : Type 0 where
  pub size : length h₀.words ≡ COUNT
  pub eight : SSP of h₀.words % 8 ≡ 0
  pub user : MODE of h₀.words ≡ 0
  pub sv39 : (in_force h₀).sv39 ≡ true
  pub senvcfg : sse_of (SENVCFG of h₀.words) ≡ true
  pub once : StandsOnce (in_force h₀) map

-- a pop-check's effect is a trap exactly where the two values differ
traps_where : (top v ssp pc : ℕ) → (traps_of (popped_of top v ssp pc) ≡ true) ↔ (v ≡ top → ⊥)
unfolding popped_of
traps_where top v ssp pc = go (eqb top v) refl
  where
    go : (t : Bool) → eqb top v ≡ t → (traps_of (pick t (Pop (sum_of ssp 8) pc) (Trap 18 3)) ≡ true) ↔ (v ≡ top → ⊥)
    go true e = ((λ t. absurd (true≢false (sym t))), (λ n. absurd (n (sym (eqb-true top v e)))))
    go false e = ((λ t d. eqb-false top v e (sym d)), (λ n. refl))

-- the shadow stack is on where both enables are
on_in_user : (h : Hart) → MODE of h.words ≡ 0 → (in_force h).sse ≡ true → sse_of (SENVCFG of h.words) ≡ true
    → (setting_of h.words).shadow ≡ true
unfolding setting_of control_of shadow_on mode_of
on_in_user h u m s = rw (u, m, s)

-- a permitted pop-check is one to a shadow page, so menvcfg's enable is on
permitted_sse : (h : Hart) (m map : List ℕ) (q : Physical) → Permitted h m map q → (in_force h).sse ≡ true
permitted_sse h m map q e =
    let c : Control = in_force h in
    let a : ℕ = SSP of h.words in
    let p = place_paged c kind.Pop Double a map (length m) q e (shadow_paged c kind.Pop Double a map (length m) q e refl) in
    (both c.sse _ (shadow_on_shadow c kind.Pop Double a map (length m) q e refl p.leaf p.entry)).0

module _ (map : List ℕ) (h₀ : Hart) (m₀ : List ℕ) (N : Enough map h₀ m₀) where
  abbrev G : Geometry (slot map h₀ m₀) (Shadow (in_force h₀) map) (length m₀)
  G = geometry (in_force h₀) map (length m₀) (in_user h₀ N.user) N.sv39 N.once

  abbrev Kept : List Event → (ssp : ℕ) → (m : List ℕ) → Type 0
  Kept es ssp m = Holds map h₀ m₀ G N.size N.user N.sv39 N.once es ssp m

  -- every stretch keeps the invariant, and until it traps the mode and the CSRs
  held : {es : List Event} {h : Hart} {m : List ℕ} {trapped : Bool} → Stretch map h₀ m₀ es h m trapped
      → (trapped ≡ false → Same h₀.words h.words) × Kept es (SSP of h.words) m
  held start = ((λ f. same h₀.words), inv_start _ _ _ G (SSP of h₀.words) m₀ N.eight refl)
  held (step {es} {h} {m} r source ns np) =
      let (on, I) = held r in
      step_left map h₀ m₀ G N.size N.user N.sv39 N.once source es h m (on refl) I ns np

  module _ (es : List Event) (h : Hart) (m : List ℕ) (S : Same h₀.words h.words) (I : Kept es (SSP of h.words) m) where
    -- what stands at the pointer is the match
    top_is : (q : Physical) → Permitted h m map q → read_of m q Double ≡ match_of es m₀ q
    top_is q e =
        let f = as_at_start map h₀ m₀ h m S I.long kind.Pop Double (SSP of h.words) q e in
        I.words (SSP of h.words) q I.eight f (omega arith)
        ∙ ap (λ (j : ℕ). get_or (unmatched es) j (read_of m₀ q Double)) (omega arith)

    checked : (source : Source) (v : ℕ) (q : Physical) → PopCheck source h m map v → Permitted h m map q
        → ((step_from source h m map).trapped ≡ true) ↔ (v ≡ match_of es m₀ q → ⊥)
    unfolding step_from
    checked source v q p e =
        let on = on_in_user h (S.kept MODE refl ∙ N.user) (permitted_sse h m map q e) (rw (S.kept SENVCFG refl) N.senvcfg) in
        rw (check_does source h m map v q p on e, ← top_is q e) (traps_where (read_of m q Double) v (SSP of h.words) (next_of (PC of h.words)))

  -- so it keeps its promise
  pub promised : (es : List Event) (h : Hart) (m : List ℕ) (trapped : Bool) → Stretch map h₀ m₀ es h m trapped
      → Promise map h₀ m₀ es h m trapped
  promised es h m trapped r =
      let (on, I) = held r in
      record { pointer = I.pointer; bytes = I.bytes; checks = λ f. checked es h m (on f) I }

-- what the user's words give is enough
enough : (map : List ℕ) (h₀ : Hart) (m₀ : List ℕ) → ShadowStarts map h₀ m₀ → Enough map h₀ m₀
enough map h₀ m₀ S =
    let L = (lawful_hart h₀ (not-false (legal h₀) (no_refusal h₀ m₀ map S.accepted).0)).words in
    record {
      size = L.size;
      eight = ssp_eight h₀.words L;
      user = S.user;
      sv39 = sv39_on h₀ S.sv39;
      senvcfg = S.senvcfg;
      once = S.once;
    }

-- the theorem
pub shadow_stack : ShadowClaim
shadow_stack map h₀ m₀ S es h m trapped r = promised map h₀ m₀ (enough map h₀ m₀ S) es h m trapped r
