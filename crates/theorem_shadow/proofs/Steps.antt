-- A step of a stretch keeps the invariant, along the cases of its effect: only a push changes a shadow byte, and only a push or a pop
-- moves the pointer.
-- Assumes nothing.
use Rattle.std.specs.Prelude.{Ok}
use mathlib.Core.Bool.{Bool, true, false}
use mathlib.Core.List.{List, ◌∷◌}
use mathlib.Core.Logic.{◌⊎◌, inl, inr}
use mathlib.Core.Path.{◌≡◌, refl, sym, ap, ap₂, ◌∙◌}
use Prim.Native.Nat.{ℕ, ◌+◌, ◌-◌, ◌≤◌, ◌<◌}
use lib.ListN.{get_or, length, length-set}
use lib.Seq.{get_or-set_same, get_or-set_other}
use native.Mathlib.Omega.{arith}
use Rattle.word.specs.Sum.{difference_of}
use Rattle.isa.specs.Size.{size_of}
use Rattle.isa.specs.declared.CsrOperation.{CsrOperation}
use Rattle.isa.specs.declared.Width.{Width}
use Rattle.isa.specs.declared.Width.TheVariants.{Double}
use Rattle.memory.proofs.Stores.{length_store, byte_before, byte_after_lem}
use Rattle.memory.specs.Bytes.{store_of}
use Rattle.isa.specs.declared.Kind.{Kind}
use Rattle.isa.specs.declared.Kind.TheVariants as kind
use Rattle.isa.specs.declared.Mode.TheVariants.{User}
use Rattle.address_place.proofs.Reach.{place_within}
use Rattle.address_place.specs.Place.{base, place_of, PlaceOrFault}
use Rattle.address_place.specs.declared.Physical.{Physical}
use Rattle.address.specs.declared.control.Control.{Control}
use Rattle.csr.specs.declared.Csr.{Csr}
use Rattle.csr.specs.declared.Csr.TheVariants.{Ssp}
use Rattle.step_effect.specs.declared.Effect.{Effect}
use Rattle.step_effect.specs.declared.Effect.TheVariants.{Write, Jump, Pad, Store, Push, Pop, Swap, Trap}
use Rattle.step_effect.specs.declared.Effect.TheVariants as effect
use Rattle.step_meaning.specs.declared.Source.{Source}
use Rattle.step_effect.specs.declared.Privileged.{Privileged}
use Rattle.step_effect.specs.declared.Privileged.TheVariants as privileged
use Rattle.step_transfer.specs.Commit.{memory_of}
use Rattle.csr_words.specs.Words.{◌of◌, ◌but◌≔◌, COUNT, PC, MODE, ELP, SSP}
use Rattle.csr_words.proofs.Kept.{trap_keeps}
use Rattle.step_hart.specs.Step.{csr_of, privileged_of, apply_of, plan_of, step_from}
use Rattle.step_hart.specs.declared.Hart.{Hart}
use Rattle.theorem_origin.proofs.Origins.{Origin, PrivilegedOrigin, origin}
use Rattle.theorem_origin.proofs.Users.{in_user, Same, same_on, same_force, user_keeps}
use Rattle.theorem_origin.specs.Force.{in_force}
use Rattle.theorem_shadow.specs.Promise.{StandsOnce, Event, quiet, event_of, NoSwap, NoPointerWrite, Shadow}
use Rattle.theorem_shadow.proofs.Geometry.{Geometry}
use Rattle.theorem_shadow.proofs.Invariant.{Inv, inv_quiet, inv_pop, inv_push}
use Rattle.theorem_shadow.proofs.Places.{push_pop, store_beside}

-- a store that stays beside a byte leaves it
untouched : (m : List ℕ) (q : Physical) (w : Width) (v o : ℕ) → base ≤ q.0 → q.0 + size_of w ≤ base + length m
    → (base + o < q.0) ⊎ (q.0 + size_of w ≤ base + o)
    → get_or (store_of m (q.0 - base) (size_of w) v) o 0 ≡ get_or m o 0
untouched m q w v o l f (inl b) = byte_before m (q.0 - base) (size_of w) v (omega arith) o (omega arith)
untouched m q w v o l f (inr b) = byte_after_lem m (q.0 - base) (size_of w) v (omega arith) o (omega arith)

module _ (map : List ℕ) (h₀ : Hart) (m₀ : List ℕ) where
  abbrev c : Control
  c = in_force h₀

  abbrev pub slot : ℕ → PlaceOrFault
  slot a = place_of c kind.Pop Double a map (length m₀)

  -- a hart with the mode and CSRs of the start is given the place that it would be given there
  pub as_at_start : (h : Hart) (m : List ℕ) → Same h₀.words h.words → length m ≡ length m₀ → (k : Kind) (w : Width) (a : ℕ) (q : Physical)
      → place_of (in_force h) k w a map (length m) ≡ Ok q → place_of c k w a map (length m₀) ≡ Ok q
  as_at_start h m s l k w a q e = ap₂ (λ (d : Control) (n : ℕ). place_of d k w a map n) (sym (same_force h₀ h s)) (sym l) ∙ e

  module _ (G : Geometry slot (Shadow c map) (length m₀)) (size : length h₀.words ≡ COUNT) (user : MODE of h₀.words ≡ 0)
      (sv39 : c.sv39 ≡ true) (once : StandsOnce c map) where
    abbrev pub Holds : List Event → (ssp : ℕ) → (m : List ℕ) → Type 0
    Holds es ssp m = Inv slot (Shadow c map) (length m₀) G (SSP of h₀.words) m₀ es ssp m

    -- what a step of effect e leaves
    abbrev pub Left : List Event → Hart → (m : List ℕ) → Effect → Type 0
    Left es h m e = Holds (event_of e ∷ es) (SSP of (apply_of e h).words) (memory_of e m)

    module _ (source : Source) (es : List Event) (h : Hart) (m : List ℕ) (same : Same h₀.words h.words)
        (I : Holds es (SSP of h.words) m) where
      -- memory and the pointer as they were
      rests : Holds (quiet ∷ es) (SSP of h.words) m
      rests = inv_quiet slot (Shadow c map) (length m₀) G (SSP of h₀.words) m₀ es (SSP of h.words) m m I I.long (λ o x. refl)

      -- the pointer after a step that leaves it, with pc and with elp changed, and after one that sets it
      abbrev kept : (next : ℕ) → SSP of (h.words but PC ≔ next) ≡ SSP of h.words
      kept next = get_or-set_other h.words PC SSP next 0 (omega arith)

      abbrev landed : (next v : ℕ) → SSP of (h.words but PC ≔ next but ELP ≔ v) ≡ SSP of h.words
      landed next v = get_or-set_other (h.words but PC ≔ next) ELP SSP v 0 (omega arith) ∙ kept next

      abbrev moved : (next v : ℕ) → SSP of (h.words but PC ≔ next but SSP ≔ v) ≡ v
      moved next v = get_or-set_same (h.words but PC ≔ next) SSP v 0 (rw (length-set, same.long, size) (omega arith))

      -- the place that the step's access was given, as the stretch's start sees it
      placed : (k : Kind) (w : Width) (a : ℕ) (q : Physical) → place_of (in_force h) k w a map (length m) ≡ Ok q
          → place_of c k w a map (length m₀) ≡ Ok q
      placed = as_at_start h m same I.long

      store_left : (q : Physical) (w : Width) (v next a : ℕ) → place_of (in_force h) kind.Store w a map (length m) ≡ Ok q
          → Left es h m (Store q w v next)
      store_left q w v next a e =
          let f = placed kind.Store w a q e in
          let i = place_within c kind.Store w a map (length m₀) q f in
          let n : length m ≡ length m₀ = I.long in
          rw (kept next)
          (inv_quiet slot (Shadow c map) (length m₀) G (SSP of h₀.words) m₀ es (SSP of h.words) m (store_of m (q.0 - base) (size_of w) v) I
          (length_store m (q.0 - base) (size_of w) v (omega (arith, n, i.0, i.1)) ∙ n)
          (λ o x.
          untouched m q w v o i.0 (omega (arith, n, i.1))
          (store_beside c w a map (length m₀) q (in_user h₀ user) sv39 once f o x)))

      csr_left : (o : CsrOperation) (n : Csr) (writes : Bool) (v rd next : ℕ) → n ≡ Ssp
          → NoPointerWrite (effect.Privileged (privileged.Csr o n writes v rd next)) → Left es h m (effect.Privileged (privileged.Csr o n writes v rd next))
      unfolding privileged_of csr_of
      csr_left o n true v rd next e np = absurd (np o v rd next (ap (λ (k : Csr). effect.Privileged (privileged.Csr o k true v rd next)) e))
      csr_left o n false v rd next e np = rw (kept next) rests

      user_here : (in_force h).mode ≡ User
      user_here = in_user h (same.kept MODE refl ∙ user)

      privileged_left : (k : Privileged) → PrivilegedOrigin source h m map k → NoPointerWrite (effect.Privileged k) → Left es h m (effect.Privileged k)
      privileged_left (privileged.Csr o n writes v rd next) w np = csr_left o n writes v rd next (w.0 user_here) np
      privileged_left privileged.Mret w np = absurd (w user_here)
      privileged_left privileged.Sret w np = absurd (w user_here)

      effect_left : (e : Effect) → Origin source h m map e → NoSwap e → NoPointerWrite e → Left es h m e
      effect_left (Write rd v next) o ns np = rw (kept next) rests
      effect_left (Jump rd link next elp) o ns np = rw (landed next _) rests
      effect_left (Pad next) o ns np = rw (landed next 0) rests
      effect_left (Store q w v next) o ns np = store_left q w v next _ o.place
      effect_left (Push q v ssp next) o ns np =
          let (s, S, holds) = o in
          rw (moved next ssp, s)
          (inv_push slot (Shadow c map) (length m₀) G (SSP of h₀.words) m₀ es (SSP of h.words) m v q I
          (push_pop c Double (difference_of (SSP of h.words) 8) map (length m₀) q
          (placed kind.Push Double (difference_of (SSP of h.words) 8) q S.place)))
      effect_left (Pop ssp next) o ns np =
          let (s, q, S, equal) = o in
          rw (moved next ssp, s)
          (inv_pop slot (Shadow c map) (length m₀) G (SSP of h₀.words) m₀ es (SSP of h.words) m q I
          (placed kind.Pop Double (SSP of h.words) q S.place))
      effect_left (Swap rd old q w v next) o ns np = absurd (ns rd old q w v next refl)
      effect_left (effect.Privileged k) o ns np = privileged_left k o np
      effect_left (Trap cause tval) o ns np = rw (trap_keeps h.words cause tval SSP refl refl) rests

      -- a step of a stretch
      pub step_left : NoSwap (plan_of source h m map) → NoPointerWrite (plan_of source h m map)
          → ((step_from source h m map).trapped ≡ false → Same h₀.words (step_from source h m map).hart.words)
          × Holds (event_of (plan_of source h m map) ∷ es) (SSP of (step_from source h m map).hart.words) (step_from source h m map).memory
      unfolding step_from
      step_left ns np = (
        (λ t. same_on h₀.words h.words (apply_of (plan_of source h m map) h).words same (user_keeps source h m map user_here t)),
        effect_left (plan_of source h m map) (origin source h m map) ns np,
      )
