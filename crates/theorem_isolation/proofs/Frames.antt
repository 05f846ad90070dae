-- In user mode under Sv39 an access only reaches named frames, and writes only where an entry with W names them: the one layer that knows
-- pages. All that the others know of translation is `Covers`, `Writes` and `same_place`, so another way to find a leaf
-- touches this file alone.
-- Assumes nothing.
use Rattle.std.specs.Prelude.{Ok}
use mathlib.Core.Bool.{true, true≢false}
use mathlib.Core.List.{List}
use mathlib.Core.Path.{◌≡◌, sym, ap}
use Prim.Native.Nat.{ℕ, ◌+◌, ◌-◌, ◌<◌}
use lib.ListN.{length}
use Rattle.word.proofs.Bools.{both}
use Rattle.isa.specs.Size.{size_of}
use Rattle.isa.specs.declared.Width.{Width}
use Rattle.isa.specs.declared.Kind.{Kind}
use Rattle.isa.specs.declared.Kind.TheVariants.{Fetch, Load, Store, Push, Pop, Swap}
use Rattle.address_page.specs.Kinds.{writes}
use Rattle.isa.specs.declared.Mode.TheVariants.{User}
use Rattle.address_page.specs.declared.Regime.{Regime}
use Rattle.address_leaf.specs.Leaf.{leaf_of}
use Rattle.address_leaf.specs.declared.Leaf as leaf
use Rattle.address_judge.proofs.Grants.{Held}
use Rattle.address.specs.Control.{effective_mode_of, regime_of}
use Rattle.address.specs.declared.control.Control.{Control}
use Rattle.address_place.specs.Place.{base, place_of}
use Rattle.address_place.specs.declared.Physical.{Physical}
use Rattle.theorem_origin.proofs.Entries.{behind, behind_names}
use Rattle.theorem_origin.proofs.Users.{user_mode, user_paged}
use Rattle.theorem_origin.specs.Force.{leaf_at}
use Rattle.theorem_isolation.specs.Unseen.{Taken, Marked, Seen, Alike}

-- every byte of an access that is given a place, in memory of any length, is among these
abbrev pub Covers : Control → (map : List ℕ) → (Of : (o : ℕ) → Type 0) → Type 0
Covers c map Of =
    (len : ℕ) (k : Kind) (w : Width) (a : ℕ) (q : Physical) → place_of c k w a map len ≡ Ok q
    → (i : ℕ) → i < size_of w → Of (q.0 - base + i)

-- and of one that writes, among these
abbrev pub Writes : Control → (map : List ℕ) → (To : (o : ℕ) → Type 0) → Type 0
Writes c map To =
    (len : ℕ) (k : Kind) (w : Width) (a : ℕ) (q : Physical) → writes k ≡ true → place_of c k w a map len ≡ Ok q
    → (i : ℕ) → i < size_of w → To (q.0 - base + i)

-- a valid entry with its U bit and W
abbrev pub Writable : Control → (e : ℕ) → Type 0
Writable c e = Taken c e × ((leaf_of e).w ≡ true)

-- where an access goes hangs on memory by its length alone, so in memories that are alike it goes to one place. (With page tables in memory
-- it would hang on them too, which would then be among the bytes that are the same.)
pub same_place : (Of : (o : ℕ) → Type 0) (m n : List ℕ) → Alike Of m n → (c : Control) (k : Kind) (w : Width) (a : ℕ) (map : List ℕ)
    → place_of c k w a map (length m) ≡ place_of c k w a map (length n)
same_place Of m n A c k w a map = ap (place_of c k w a map) A.long

-- an entry that step 5 takes has V
pub marked : (c : Control) (e : ℕ) → Taken c e → Marked c e
marked c e (v, u) = ((both (leaf_of e).v _ v).0, u)

-- what may be written has W: an ordinary store needs it, and a shadow page has it
writable : (g : Regime) (l : leaf.Leaf) (k : Kind) → writes k ≡ true → Held g k l → l.w ≡ true
writable g l Fetch t H = absurd (true≢false (sym t))
writable g l Load t H = absurd (true≢false (sym t))
writable g l Store t H = H.permitted
writable g l Push t H = (both l.w _ (both g.sse _ H.own).1).0
writable g l Pop t H = absurd (true≢false (sym t))
writable g l Swap t H = (both l.w _ (both g.sse _ H.own).1).0

module _ (c : Control) (map : List ℕ) (user : c.mode ≡ User) (sv39 : c.sv39 ≡ true) where
  -- a leaf that granted an access in user mode has its U bit
  user_held : (k : Kind) (e : ℕ) → Held (regime_of c (effective_mode_of c k)) k (leaf_of e) → (leaf_of e).u ≡ true
  user_held k e H =
      let U : Held (regime_of c User) k (leaf_of e) = rw (user_mode c k user) at H in
      U.user

  covers : Covers c map (Seen Taken c map)
  covers len k w a q e i l =
      let paged = user_paged c k user sv39 in
      let B = behind c k w a map len q e paged in
      record {
        entry = B.entry;
        stands = B.stands;
        valid = (B.valid, user_held k (leaf_at map B.entry) B.held);
        names = behind_names c k w a map len q e paged i l;
      }

  -- by another reading, no narrower, no fewer frames are named
  pub covers_more : (Valid : Control → (e : ℕ) → Type 0) → ((c : Control) (e : ℕ) → Taken c e → Valid c e) → Covers c map (Seen Valid c map)
  covers_more Valid named len k w a q e i l =
      let N = covers len k w a q e i l in
      record { entry = N.entry; stands = N.stands; valid = named c (leaf_at map N.entry) N.valid; names = N.names }

  pub writes_there : Writes c map (Seen Writable c map)
  writes_there len k w a q t e i l =
      let paged = user_paged c k user sv39 in
      let B = behind c k w a map len q e paged in
      record {
        entry = B.entry;
        stands = B.stands;
        valid = (
          (B.valid, user_held k (leaf_at map B.entry) B.held),
          writable (regime_of c (effective_mode_of c k)) (leaf_of (leaf_at map B.entry)) k t B.held,
        );
        names = behind_names c k w a map len q e paged i l;
      }
