-- Two laws of places that the promise rests on: where a push may store, a pop-check may read; and an ordinary store stays beside every
-- byte of a shadow page. Both go by what a place says of its access (crates/address_place/proofs/Reach.antt).
-- Assumes nothing.
use Rattle.std.specs.Prelude.{Ok}
use mathlib.Core.Path.{◌≡◌, refl, sym, ◌∙◌, ap}
use mathlib.Core.Bool.{true, false, true≢false}
use mathlib.Core.List.{List}
use mathlib.Core.Logic.{◌⊎◌, inl, inr}
use Prim.Native.Nat.{ℕ, ◌+◌, ◌*◌, ◌/◌, ◌%◌, ◌≤◌, ◌<◌}
use native.Mathlib.Omega.{arith}
use borrow.Author.Tests.{le-leb, not-true}
use Rattle.word.proofs.Bools.{both}
use Rattle.word.proofs.Either.{either}
use Rattle.isa.specs.Size.{size_of}
use Rattle.isa.specs.declared.Width.{Width}
use Rattle.address_judge.proofs.Grants.{Held, held, granted}
use Rattle.address_leaf.specs.Leaf.{leaf_of, shadow_page_of}
use Rattle.address_judge.specs.Judge.{judge_of, accessed_dirty_of}
use Rattle.isa.specs.declared.Kind.TheVariants as kind
use Rattle.isa.specs.declared.Kind.{Kind}
use Rattle.isa.specs.declared.Mode.TheVariants.{User}
use Rattle.isa.specs.declared.Mode.{Mode}
use Rattle.address_page.specs.declared.Regime.{Regime}
use Rattle.address_leaf.specs.declared.Leaf as leaf
use Rattle.address_place.proofs.Reach.{Paged, place_aligned, place_paged, place_in_page, shadow_paged}
use Rattle.address.specs.Align.{aligned_of}
use Rattle.address.specs.Control.{effective_mode_of, paged_of, regime_of}
use Rattle.address.specs.Mask.{masked_of, transformed_of}
use Rattle.address_place.specs.Place.{base, frame_of, within_of, Within, inside_of, physical_of, settle_of, through_of, paged_place_of, reached_of, place_of}
use Rattle.address_place.specs.declared.Physical.{Physical}
use Rattle.address.specs.declared.control.Control.{Control}
use Rattle.theorem_origin.proofs.Entries.{behind}
use Rattle.theorem_origin.proofs.Users.{user_paged}
use Rattle.theorem_origin.specs.Force.{leaf_at, Entry, ValidLeaf}
use Rattle.theorem_shadow.specs.Promise.{Shadow, StandsOnce, ValidShadow}

-- the bytes lie in memory, so step 9 gives the place
within : (k : Kind) (w : Width) (len p t : ℕ) (q : Physical) → q.0 ≡ p → Within len w q.0 → inside_of k w len p t ≡ Ok q
unfolding inside_of within_of
within k w len p t q e i = rw (← e, le-leb base q.0 i.0, le-leb (q.0 + size_of w) (base + len) i.1)

-- every test of steps 5 to 9 holds, so they give the place
through : (g : Regime) (k : Kind) (w : Width) (t : ℕ) (map : List ℕ) (len : ℕ) (q : Physical) → Paged g k w t map len q
    → paged_place_of g k w t map len ≡ Ok q
unfolding paged_place_of through_of settle_of
through g k w t map len q P =
    rw (P.canonical, P.entry, P.granted) (within k w len (physical_of P.leaf t) t q P.frame P.within)

-- and so do steps 3 to 9 where the access is aligned and paged
reached : (c : Control) (m : Mode) (k : Kind) (w : Width) (t : ℕ) (map : List ℕ) (len : ℕ) (q : Physical) → t % size_of w ≡ 0
    → paged_of m c.sv39 ≡ true → Paged (regime_of c m) k w t map len q → reached_of c m k w t map len ≡ Ok q
unfolding reached_of aligned_of
reached c m k w t map len q a p P = rw (a, p) (through (regime_of c m) k w t map len q P)

-- A and D set, so A set
accessed : (l : leaf.Leaf) → accessed_dirty_of true l ≡ true → accessed_dirty_of false l ≡ true
accessed l h = rw (both l.a _ h).0

-- a pop-check asks no more of a leaf than a push does
pop_held : (g : Regime) (l : leaf.Leaf) → Held g kind.Push l → Held g kind.Pop l
pop_held g l h =
    record { valid = h.valid; user = h.user; off = h.off; own = h.own; permitted = refl; stamped = accessed l h.stamped }

pop_granted : (g : Regime) (l : leaf.Leaf) → judge_of g kind.Push l ≡ Ok tt → judge_of g kind.Pop l ≡ Ok tt
pop_granted g l e = granted g l kind.Pop (pop_held g l (held g l kind.Push e))

-- where a push may store, a pop-check may read
pub push_pop : (c : Control) (w : Width) (a : ℕ) (map : List ℕ) (len : ℕ) (q : Physical)
    → place_of c kind.Push w a map len ≡ Ok q → place_of c kind.Pop w a map len ≡ Ok q
unfolding place_of effective_mode_of transformed_of
push_pop c w a map len q e =
    let s = shadow_paged c kind.Push w a map len q e refl in
    let P = place_paged c kind.Push w a map len q e s in
    reached c c.mode kind.Pop w (masked_of c c.mode a) map len q (place_aligned c kind.Push w a map len q e) s
    (record {
      leaf = P.leaf;
      canonical = P.canonical;
      entry = P.entry;
      granted = pop_granted (regime_of c c.mode) (leaf_of P.leaf) P.granted;
      frame = P.frame;
      within = P.within;
    })

-- n bytes that do not leave a frame, and a byte in another frame
beside : (q n f t b g : ℕ) → q ≡ f * 4096 + t % 4096 → t % 4096 + n ≤ 4096 → b / 4096 ≡ g → (f ≡ g → ⊥) → (b < q) ⊎ (q + n ≤ b)
beside q n f t b g e l h d =
    either b q (λ x. inl x) (λ x. either b (q + n) (λ y. absurd (d (omega arith))) (λ y. inr y))

-- an entry with the frame of a valid shadow page is that page's
pub one_entry : (c : Control) (map : List ℕ) → StandsOnce c map → (i j : ℕ) → Entry map i → Entry map j
    → ValidShadow c (leaf_at map i) → ValidLeaf c (leaf_at map j) → frame_of (leaf_at map j) ≡ frame_of (leaf_at map i) → j ≡ i
one_entry c map once i j p q v w f = once i j p q v w f

-- so the entry of a page that is no shadow page has another frame
other_frame : (c : Control) (map : List ℕ) → StandsOnce c map → (i : ℕ) → Entry map i → ValidLeaf c (leaf_at map i)
    → shadow_page_of c.sse (leaf_of (leaf_at map i)) ≡ false → (o : ℕ) (x : Shadow c map o)
    → frame_of (leaf_at map i) ≡ frame_of (leaf_at map x.entry) → ⊥
other_frame c map once i stands taken off o x f =
    let e : i ≡ x.entry = one_entry c map once x.entry i x.stands stands x.valid taken f in
    true≢false (sym x.valid.0 ∙ (ap (λ (j : ℕ). shadow_page_of c.sse (leaf_of (leaf_at map j))) (sym e) ∙ off))

-- an ordinary store stays beside every byte of a shadow page
pub store_beside : (c : Control) (w : Width) (a : ℕ) (map : List ℕ) (len : ℕ) (q : Physical)
    → c.mode ≡ User → c.sv39 ≡ true → StandsOnce c map → place_of c kind.Store w a map len ≡ Ok q
    → (o : ℕ) → Shadow c map o → (base + o < q.0) ⊎ (q.0 + size_of w ≤ base + o)
store_beside c w a map len q user sv39 once e o x =
    let B = behind c kind.Store w a map len q e (user_paged c kind.Store user sv39) in
    let off = not-true (shadow_page_of c.sse (leaf_of (leaf_at map B.entry))) B.held.own in
    beside q.0 (size_of w) (frame_of (leaf_at map B.entry)) (transformed_of c (effective_mode_of c kind.Store) kind.Store a) (base + o)
    (frame_of (leaf_at map x.entry))
    B.frame (place_in_page c kind.Store w a map len q e).0 x.frame
    (other_frame c map once B.entry B.stands B.valid off o x)
