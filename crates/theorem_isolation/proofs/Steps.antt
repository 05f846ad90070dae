-- A step from one hart in two memories that are alike: one effect, which applied keeps the hart in user mode under its regime until it
-- traps, keeps the memories alike and every other byte as it was.
-- Assumes nothing.
use Rattle.std.specs.Prelude.{Ok}
use mathlib.Core.Bool.{true, false}
use mathlib.Core.List.{List}
use mathlib.Core.Path.{◌≡◌, refl, ◌∙◌}
use Prim.Native.Nat.{ℕ, ◌+◌, ◌-◌, ◌≤◌, ◌<◌}
use lib.ListN.{length}
use native.Mathlib.Omega.{arith}
use Rattle.isa.specs.Size.{size_of}
use Rattle.isa.specs.declared.Width.{Width}
use Rattle.isa.specs.declared.Width.TheVariants.{Double}
use Rattle.memory.specs.Bytes.{store_of}
use Rattle.address_page.specs.Kinds.{writes}
use Rattle.isa.specs.declared.Kind.{Kind}
use Rattle.isa.specs.declared.Kind.TheVariants as kind
use Rattle.address_place.proofs.Reach.{place_index}
use Rattle.address_place.specs.Place.{base, place_of}
use Rattle.address_place.specs.declared.Physical.{Physical}
use Rattle.step_effect.specs.declared.Effect.{Effect}
use Rattle.step_effect.specs.declared.Effect.TheVariants.{Write, Jump, Pad, Store, Push, Pop, Swap, Trap}
use Rattle.step_effect.specs.declared.Effect.TheVariants as effect
use Rattle.step_meaning.specs.declared.Source.{Source}
use Rattle.csr_words.specs.Words.{◌of◌, expected, PC, MODE, SSP}
use Rattle.csr_words.specs.Setting.{setting_of}
use Rattle.step_transfer.specs.Commit.{memory_of}
use Rattle.step_hart.specs.Step.{apply_of, traps_of, plan_of}
use Rattle.step_hart.specs.declared.Hart.{Hart}
use Rattle.theorem_origin.specs.Force.{in_force}
use Rattle.theorem_origin.proofs.Origins.{Origin, origin}
use Rattle.theorem_origin.proofs.Users.{in_user, Same, same_force, user_keeps}
use Rattle.theorem_isolation.specs.Unseen.{Alike, Keeps}
use Rattle.theorem_isolation.proofs.Bytes.{store_alike, store_keeps, keeps_all}
use Rattle.theorem_isolation.proofs.Frames.{Covers, Writes}
use Rattle.theorem_isolation.proofs.Effects.{effect_twin}

module _ (Of To : (o : ℕ) → Type 0) (map : List ℕ) where
  -- a hart in user mode, no access of which reaches a byte but one `Of` these, or writes but `To` those
  pub record Confined (h : Hart) : Type 0 where
    pub user : MODE of h.words ≡ 0
    pub covered : Covers (in_force h) map Of
    pub written : Writes (in_force h) map To

  -- one with the same mode and CSRs is confined as well
  stays : (h g : Hart) → Same h.words g.words → Confined h → Confined g
  stays h g s C =
      let f = same_force h g s in
      record { user = s.kept MODE refl ∙ C.user; covered = rw f C.covered; written = rw f C.written }

  -- what an effect leaves of the two memories
  pub record Left (m n : List ℕ) (e : Effect) : Type 0 where
    pub alike : Alike Of (memory_of e m) (memory_of e n)
    pub own : Keeps To m (memory_of e m)
    pub own' : Keeps To n (memory_of e n)

  module _ (source : Source) (h : Hart) (m n : List ℕ) (C : Confined h) (A : Alike Of m n) where
    -- memory as it was
    quiet : (e : Effect) → memory_of e m ≡ m → memory_of e n ≡ n → Left m n e
    quiet e p q = record { alike = rw (p, q) A; own = rw p (keeps_all To m); own' = rw q (keeps_all To n) }

    -- a store at a place that an access which writes was given
    module _ (e : Effect) (k : Kind) (w : Width) (a : ℕ) (q : Physical) (v : ℕ) (t : writes k ≡ true)
        (at : place_of (in_force h) k w a map (length m) ≡ Ok q) where
      fits : q.0 - base + size_of w ≤ length m
      fits = place_index (in_force h) k w a map (length m) q at

      among : (i : ℕ) → i < size_of w → To (q.0 - base + i)
      among = C.written (length m) k w a q t at

      stored : memory_of e m ≡ store_of m (q.0 - base) (size_of w) v → memory_of e n ≡ store_of n (q.0 - base) (size_of w) v → Left m n e
      stored p r = record {
        alike = rw (p, r) (store_alike Of m n (q.0 - base) (size_of w) v A fits);
        own = rw p (store_keeps To m (q.0 - base) (size_of w) v fits among);
        own' = rw r (store_keeps To n (q.0 - base) (size_of w) v (omega (arith, fits, A.long)) among);
      }

    effect_left : (e : Effect) → Origin source h m map e → Left m n e
    effect_left (Write rd v next) o = quiet _ refl refl
    effect_left (Jump rd link next elp) o = quiet _ refl refl
    effect_left (Pad next) o = quiet _ refl refl
    effect_left (Store q w v next) o = stored (Store q w v next) kind.Store w _ q v refl o.place refl refl
    effect_left (Push q v ssp next) o =
        let (moved, S, holds) = o in
        stored (Push q v ssp next) kind.Push Double _ q v refl S.place refl refl
    effect_left (Pop ssp next) o = quiet _ refl refl
    effect_left (Swap rd old q w v next) o =
        let (aq, rl, S) = o in
        stored (Swap rd old q w v next) kind.Swap w _ q v refl S.place refl refl
    effect_left (effect.Privileged k) o = quiet _ refl refl
    effect_left (Trap cause tval) o = quiet _ refl refl

    -- of a step: one effect in both memories
    pub step_same : plan_of source h m map ≡ plan_of source h n map
    step_same = effect_twin Of (setting_of h.words) map m n A C.covered h.x (PC of h.words) (expected h.words) (SSP of h.words) source

    -- what it leaves of them
    pub step_left : Left m n (plan_of source h m map)
    step_left = effect_left (plan_of source h m map) (origin source h m map)

    -- and of the hart, which stays in user mode under its regime
    pub step_confined : traps_of (plan_of source h m map) ≡ false → Confined (apply_of (plan_of source h m map) h)
    step_confined t = stays h _ (user_keeps source h m map (in_user h C.user) t) C
