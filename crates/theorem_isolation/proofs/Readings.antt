-- The statement's words once more, in forms that a reader may look for: "differ only in", a single run, and a frame that is named by
-- a virtual page in place of an entry.
-- Assumes nothing.
use mathlib.Core.Bool.{Bool, true, false, true≢false}
use mathlib.Core.List.{List, [], ◌∷◌}
use mathlib.Core.Logic.{◌↔◌}
use mathlib.Core.Path.{◌≡◌, refl, sym, ap, subst, ◌∙◌}
use Prim.Native.Nat.{ℕ, ◌*◌, ◌<◌, ◌≤◌}
use native.Mathlib.Decide.{ℕ_discrete}
use native.Mathlib.Omega.{arith}
use lib.ListN.{get_or, length, get_or-eq_default}
use Rattle.word.proofs.Bools.{both}
use Rattle.word.proofs.Either.{either}
use Rattle.address_leaf.specs.Leaf.{leaf_of, has_right_of}
use Rattle.address_page.proofs.Entries.{lookup_stands, entry_found}
use Rattle.address_page.specs.Map.{lookup_of, map_refused_of}
use Rattle.std.specs.Prelude.{Some}
use Rattle.address.specs.declared.control.Control.{Control}
use Rattle.address_place.specs.Place.{frame_of}
use Rattle.step_hart.specs.declared.Hart.{Hart}
use Rattle.run_call.specs.Call.{Called, run_call_of}
use Rattle.std.specs.Option.{is_some}
use Rattle.run_call.specs.declared.Answer.{Answer}
use Rattle.theorem_origin.specs.Force.{in_force, leaf_at}
use Rattle.theorem_isolation.specs.Unseen.{Taken, Named, Seen, Alike, Keeps, run, call_followed, session_of, IsolationStarts}
use Rattle.theorem_isolation.proofs.Isolation.{by_step_5}

-- "differ only in frames that are not named": a byte that differs does not lie in a named frame. That is `Alike`'s clause
pub differ_only : (Of : (o : ℕ) → Type 0) (m n : List ℕ)
    → ((o : ℕ) → (get_or m o 0 ≡ get_or n o 0 → ⊥) → Of o → ⊥) ↔ ((o : ℕ) → Of o → get_or m o 0 ≡ get_or n o 0)
differ_only Of m n = ((λ d o f. go o f (d o) (ℕ_discrete (get_or m o 0) (get_or n o 0))), (λ s o differs f. differs (s o f)))
  where
    go : (o : ℕ) → Of o → ((get_or m o 0 ≡ get_or n o 0 → ⊥) → Of o → ⊥) → Dec (get_or m o 0 ≡ get_or n o 0) → get_or m o 0 ≡ get_or n o 0
    go o f d (yes e) = e
    go o f d (no differs) = absurd (d differs f)

-- only bytes of memory count: a frame that lies outside it holds none
pub inside : (Of : (o : ℕ) → Type 0) (m n : List ℕ) → length m ≡ length n
    → ((o : ℕ) → o < length m → Of o → get_or m o 0 ≡ get_or n o 0) → Alike Of m n
inside Of m n l f = record { long = l; bytes = λ o a. either o (length m) (λ b. f o b a) (λ b. beyond o b) }
  where
    beyond : (o : ℕ) → length m ≤ o → get_or m o 0 ≡ get_or n o 0
    beyond o b = get_or-eq_default m 0 b ∙ sym (get_or-eq_default n 0 (omega (arith, b, l)))

-- an entry without R, W and X is not valid by step 5, whatever its V; by its bits it is
pub no_right : (c : Control) (e : ℕ) → has_right_of (leaf_of e) ≡ false → Taken c e → ⊥
no_right c e none t = true≢false (sym (both (has_right_of (leaf_of e)) _ (both (leaf_of e).v _ t.0).1).0 ∙ none)

-- a row of one run
alone : (budget : ℕ) (h : Hart) (m map : List ℕ)
    → ((session_of (run budget ∷ []) h m map).answers ≡ (run_call_of budget h m map).answer ∷ [])
    × ((session_of (run budget ∷ []) h m map).memory ≡ (run_call_of budget h m map).memory)
unfolding session_of
alone budget h m map = go (is_some (run_call_of budget h m map).answer.trap) (run_call_of budget h m map)
  where
    go : (t : Bool) (c : Called)
        → ((call_followed t c (record { answers = []; memory = c.memory })).answers ≡ c.answer ∷ [])
        × ((call_followed t c (record { answers = []; memory = c.memory })).memory ≡ c.memory)
    go true c = (refl, refl)
    go false c = (refl, refl)

first_one : (a b : Answer) (l r : List Answer) → (a ∷ l) ≡ (b ∷ r) → a ≡ b
first_one a b l r e = cc

-- a single run, of any budget
pub one_run : (map : List ℕ) (h : Hart) (m n : List ℕ) → IsolationStarts Taken map h m n → (budget : ℕ)
    → ((run_call_of budget h m map).answer ≡ (run_call_of budget h n map).answer)
    × Alike (Seen Taken (in_force h) map) (run_call_of budget h m map).memory (run_call_of budget h n map).memory
    × Keeps (Seen Taken (in_force h) map) m (run_call_of budget h m map).memory
    × Keeps (Seen Taken (in_force h) map) n (run_call_of budget h n map).memory
one_run map h m n S budget =
    let R = by_step_5 map h m n S (run budget ∷ []) in
    let e = alone budget h m map in
    let f = alone budget h n map in (
      first_one _ _ _ _ (sym e.0 ∙ (R.answers ∙ f.0)),
      rw (e.1, f.1) at R.named,
      rw e.1 at R.own,
      rw f.1 at R.own',
    )

-- a frame is named by an entry where it is named by a virtual page, under a map that refusal 3 lets pass
pub record NamedByPage (Valid : Control → (e : ℕ) → Type 0) (c : Control) (map : List ℕ) (frame : ℕ) : Type 0 where
  pub page : ℕ
  pub leaf : ℕ
  pub found : lookup_of map page ≡ Some leaf
  pub valid : Valid c leaf
  pub names : frame_of leaf ≡ frame

pub by_page : (Valid : Control → (e : ℕ) → Type 0) (c : Control) (map : List ℕ) (frame : ℕ) → map_refused_of map ≡ false
    → Named Valid c map frame ↔ NamedByPage Valid c map frame
by_page Valid c map frame ok = (
  (λ N.
      record {
        page = get_or map (2 * N.entry) 0;
        leaf = leaf_at map N.entry;
        found = entry_found map ok N.entry N.stands;
        valid = N.valid;
        names = N.names;
      }),
  (λ P.
      let S = lookup_stands map P.page P.leaf P.found in
      record {
        entry = S.place;
        stands = S.inside;
        valid = subst (Valid c) (sym S.word) P.valid;
        names = ap frame_of S.word ∙ P.names;
      }),
)
