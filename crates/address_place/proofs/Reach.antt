-- What a place says of the access that it was given to: the laws that a step needs.
-- Assumes nothing.
use mathlib.Core.Path.{◌≡◌, refl, sym, ◌∙◌, subst}
use mathlib.Core.Bool.{Bool, true, false}
use mathlib.Core.List.{List}
use Prim.Native.Nat.{ℕ, ◌+◌, ◌-◌, ◌%◌, ◌≤◌}
use native.Mathlib.Omega.{arith}
use lib.Dec.{leb}
use borrow.Author.Tests.{leb-true, eqb-true}
use Rattle.word.proofs.Bools.{both}
use Rattle.word.proofs.Choices.{first, second}
use Rattle.std.specs.Prelude.{Option, Some, None, Ok, Err}
use Rattle.word.specs.Choice.{pick}
use Rattle.isa.specs.Size.{size_of}
use Rattle.isa.specs.declared.Width.TheVariants.{Byte, Half, Word, Double}
use Rattle.isa.specs.declared.Width.{Width}
use Rattle.address_judge.proofs.Grants.{store_elsewhere, shadow_there}
use Rattle.address_page.specs.Kinds.{is_shadow_of}
use Rattle.address_leaf.specs.Leaf.{leaf_of, shadow_page_of}
use Rattle.address_judge.specs.Judge.{Verdict, judge_of}
use Rattle.address_page.specs.Map.{lookup_of}
use Rattle.isa.specs.declared.Kind.TheVariants.{Store}
use Rattle.isa.specs.declared.Exception.{Exception}
use Rattle.isa.specs.declared.Fault.TheVariants.{Misaligned, Access, Page}
use Rattle.isa.specs.declared.Kind.{Kind}
use Rattle.isa.specs.declared.Mode.{Mode}
use Rattle.address_page.specs.declared.Regime.{Regime}
use Rattle.address.specs.Align.{aligned_of}
use Rattle.address.specs.Cause.{fault_of}
use Rattle.address.specs.Control.{effective_mode_of, paged_of, regime_of}
use Rattle.address.specs.Mask.{transformed_of}
use Rattle.address.specs.declared.control.Control.{Control}
use Rattle.address_place.specs.Place.{PlaceOrFault, base, within_of, Within, inside_of, canonical_of, page_number, physical_of, settle_of, through_of, paged_place_of}
use Rattle.address_place.specs.Place.{plain_place_of, reached_of, place_of}
use Rattle.address_place.specs.declared.Physical.{Physical}

pub behind : (b : Bool) (rest : PlaceOrFault) (x : Exception) (q : Physical) → pick b rest (Err x) ≡ Ok q → (b ≡ true) × (rest ≡ Ok q)
behind true rest x q e = (refl, e)
behind false rest x q e = cc

-- an access through a page: the leaf that granted it, and where it leads
pub record Paged (g : Regime) (k : Kind) (w : Width) (t : ℕ) (map : List ℕ) (len : ℕ) (q : Physical) : Type 0 where
  pub leaf : ℕ
  pub canonical : canonical_of t ≡ true
  pub entry : lookup_of map (page_number t) ≡ Some leaf
  pub granted : judge_of g k (leaf_of leaf) ≡ Ok tt
  pub frame : q.0 ≡ physical_of leaf t
  pub within : Within len w q.0

-- an access in M or Bare
pub record Plain (k : Kind) (w : Width) (t len : ℕ) (q : Physical) : Type 0 where
  pub ordinary : is_shadow_of k ≡ false
  pub same : q.0 ≡ t
  pub within : Within len w q.0

module _ (k : Kind) (w : Width) (len : ℕ) (q : Physical) where
  pub inside_at : (p t : ℕ) → inside_of k w len p t ≡ Ok q → (q.0 ≡ p) × Within len w q.0
  unfolding inside_of within_of
  inside_at p t e =
      let (b, f) = behind (within_of len p (size_of w)) (Ok (record { 0 = p })) (fault_of Access k t) q e in
      let (l, u) = both (leb base p) (leb (p + size_of w) (base + len)) b in
      let x : p ≡ q.0 = cc in
      (sym x, (rw (← x) (leb-true base p l), rw (← x) (leb-true (p + size_of w) (base + len) u)))

  settle_at : (v : Verdict) (p t : ℕ) → settle_of v k w len p t ≡ Ok q → (v ≡ Ok tt) × (q.0 ≡ p) × Within len w q.0
  unfolding settle_of
  settle_at (Ok granted) p t e =
      let (s, i) = inside_at p t e in
      (refl, s, i)
  settle_at (Err f) p t e = cc

  through_at : (g : Regime) (t : ℕ) (map : List ℕ) (f : Option ℕ) → canonical_of t ≡ true → lookup_of map (page_number t) ≡ f
      → through_of f g k w len t ≡ Ok q → Paged g k w t map len q
  unfolding through_of
  through_at g t map None c s e = cc
  through_at g t map (Some l) c s e =
      let (v, p, i) = settle_at (judge_of g k (leaf_of l)) (physical_of l t) t e in
      record { leaf = l; canonical = c; entry = s; granted = v; frame = p; within = i }

  pub paged_at : (g : Regime) (t : ℕ) (map : List ℕ) → paged_place_of g k w t map len ≡ Ok q → Paged g k w t map len q
  unfolding paged_place_of
  paged_at g t map e =
      let (c, f) = behind (canonical_of t) (through_of (lookup_of map (page_number t)) g k w len t) (fault_of Page k t) q e in
      through_at g t map (lookup_of map (page_number t)) c refl f

  plain_at : (t : ℕ) → plain_place_of k w t len ≡ Ok q → Plain k w t len q
  unfolding plain_place_of
  plain_at t = go (is_shadow_of k) refl
    where
      go : (b : Bool) → is_shadow_of k ≡ b → pick b (Err (record { cause = 7; tval = t })) (inside_of k w len t t) ≡ Ok q → Plain k w t len q
      go true s e = cc
      go false s e =
          let (p, i) = inside_at t t e in
          record { ordinary = s; same = p; within = i }

-- an aligned access never leaves its page
pub in_page : (w : Width) (t : ℕ) → t % size_of w ≡ 0 → t % 4096 + size_of w ≤ 4096
in_page Byte t h = omega arith
in_page Half t h = omega arith
in_page Word t h = omega arith
in_page Double t h = omega arith

-- a place that was given: what follows for the effective mode m and the transformed address t
module _ (c : Control) (k : Kind) (w : Width) (a : ℕ) (map : List ℕ) (len : ℕ) (q : Physical) (at : place_of c k w a map len ≡ Ok q) where
  abbrev m : Mode
  m = effective_mode_of c k

  abbrev t : ℕ
  t = transformed_of c (effective_mode_of c k) k a

  abbrev paged : PlaceOrFault
  paged = paged_place_of (regime_of c m) k w t map len

  abbrev plain : PlaceOrFault
  plain = plain_place_of k w t len

  reached : (aligned_of w t ≡ true) × (pick (paged_of m c.sv39) paged plain ≡ Ok q)
  unfolding place_of reached_of
  reached = behind (aligned_of w t) (pick (paged_of m c.sv39) paged plain) (fault_of Misaligned k t) q at

  -- the access is aligned
  pub place_aligned : t % size_of w ≡ 0
  unfolding aligned_of
  place_aligned = eqb-true (t % size_of w) 0 reached.0

  pub place_paged : paged_of m c.sv39 ≡ true → Paged (regime_of c m) k w t map len q
  place_paged p = paged_at k w len q (regime_of c m) t map (sym (first (paged_of m c.sv39) paged plain p) ∙ reached.1)

  pub place_plain : paged_of m c.sv39 ≡ false → Plain k w t len q
  place_plain p = plain_at k w len q t (sym (second (paged_of m c.sv39) paged plain p) ∙ reached.1)

  -- all bytes of the access lie in memory
  pub place_within : Within len w q.0
  place_within = go (paged_of m c.sv39) refl
    where
      go : (b : Bool) → paged_of m c.sv39 ≡ b → Within len w q.0
      go true p = (place_paged p).within
      go false p = (place_plain p).within

  -- so its index and size stay within memory's length
  pub place_index : q.0 - base + size_of w ≤ len
  place_index = omega (arith, place_within.0, place_within.1)

  -- translation keeps the offset in the page
  pub place_offset : q.0 % 4096 ≡ t % 4096
  place_offset = go (paged_of m c.sv39) refl
    where
      go : (b : Bool) → paged_of m c.sv39 ≡ b → q.0 % 4096 ≡ t % 4096
      go true p = rw (place_paged p).frame (omega arith)
      go false p = rw (place_plain p).same

  -- the access does not leave its page, neither the virtual one nor the physical one
  pub place_in_page : (t % 4096 + size_of w ≤ 4096) × (q.0 % 4096 + size_of w ≤ 4096)
  place_in_page =
      let p = in_page w t place_aligned in
      (p, rw place_offset p)

  -- under Sv39 the leaf that lookup gives has granted it
  pub place_granted : paged_of m c.sv39 ≡ true
      → (e : ℕ) → lookup_of map (page_number t) ≡ Some e → judge_of (regime_of c m) k (leaf_of e) ≡ Ok tt
  place_granted p e found =
      let P = place_paged p in
      let s : P.leaf ≡ e = same_leaf P.leaf e (sym P.entry ∙ found) in
      subst (λ (x : ℕ). judge_of (regime_of c m) k (leaf_of x) ≡ Ok tt) s P.granted
    where
      same_leaf : (x y : ℕ) → Some x ≡ Some y → x ≡ y
      same_leaf x y h = cc

  -- an ordinary store is never given a place on a shadow page
  pub store_off_shadow : k ≡ Store → paged_of m c.sv39 ≡ true
      → (e : ℕ) → lookup_of map (page_number t) ≡ Some e → shadow_page_of c.sse (leaf_of e) ≡ false
  store_off_shadow s p e found =
      store_elsewhere (regime_of c m) (leaf_of e)
      (subst (λ (x : Kind). judge_of (regime_of c m) x (leaf_of e) ≡ Ok tt) s (place_granted p e found))

  -- a shadow access is given a place under Sv39 alone
  pub shadow_paged : is_shadow_of k ≡ true → paged_of m c.sv39 ≡ true
  shadow_paged s = go (paged_of m c.sv39) refl
    where
      go : (b : Bool) → paged_of m c.sv39 ≡ b → paged_of m c.sv39 ≡ true
      go true p = p
      go false p =
          let n : false ≡ true = sym (place_plain p).ordinary ∙ s in
          cc

  -- and on a shadow page alone
  pub shadow_on_shadow : is_shadow_of k ≡ true
      → (e : ℕ) → lookup_of map (page_number t) ≡ Some e → shadow_page_of c.sse (leaf_of e) ≡ true
  shadow_on_shadow s e found = shadow_there (regime_of c m) (leaf_of e) k s (place_granted (shadow_paged s) e found)

-- how much of the map counts
module _ (c : Control) (k : Kind) (w : Width) (a : ℕ) (map other : List ℕ) (len : ℕ) where
  -- under Sv39 the one leaf
  pub one_leaf : lookup_of map (page_number (transformed_of c (effective_mode_of c k) k a)) ≡ lookup_of other (page_number (transformed_of c (effective_mode_of c k) k a))
      → place_of c k w a map len ≡ place_of c k w a other len
  unfolding place_of reached_of paged_place_of
  one_leaf e = rw e

  -- in M or Bare nothing
  pub no_leaf : paged_of (effective_mode_of c k) c.sv39 ≡ false → place_of c k w a map len ≡ place_of c k w a other len
  unfolding place_of reached_of
  no_leaf p = rw p
