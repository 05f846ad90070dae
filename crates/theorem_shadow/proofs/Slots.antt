-- How shadow slots lie in memory: the geometry of those that a pop-check may read, in user mode under Sv39, with a map that has each
-- frame of a valid shadow page in one entry only.
-- Assumes nothing.
use Rattle.std.specs.Prelude.{Ok}
use mathlib.Core.Path.{◌≡◌, refl, sym, ◌∙◌, ap, subst}
use mathlib.Core.Bool.{true}
use mathlib.Core.List.{List}
use mathlib.Core.Logic.{◌⊎◌, inl, inr}
use Prim.Native.Nat.{ℕ, suc, ◌+◌, ◌-◌, ◌*◌, ◌/◌, ◌%◌, ◌≤◌, ◌<◌}
use native.Mathlib.Omega.{arith}
use lib.ListN.{get_or}
use Rattle.word.proofs.Either.{either}
use Rattle.word.specs.Sign.{sign_extend_of}
use Rattle.word.specs.Sum.{sum_of, difference_of}
use Rattle.isa.specs.declared.Width.TheVariants.{Double}
use Rattle.isa.specs.declared.Kind.TheVariants as kind
use Rattle.isa.specs.declared.Mode.TheVariants.{User}
use Rattle.isa.specs.declared.Mode.{Mode}
use Rattle.address_place.proofs.Reach.{place_aligned, shadow_paged}
use Rattle.address.specs.Control.{effective_mode_of}
use Rattle.address.specs.Mask.{pmlen_of, mask_of, transformed_of}
use Rattle.address_place.specs.Place.{base, frame_of, Within, canonical_of, page_number, reached_of, place_of, PlaceOrFault}
use Rattle.address_place.specs.declared.Physical.{Physical}
use Rattle.address.specs.declared.control.Control.{Control}
use Rattle.theorem_origin.proofs.Entries.{Behind, behind}
use Rattle.theorem_origin.specs.Force.{leaf_at, Entry}
use Rattle.theorem_shadow.specs.Promise.{Shadow, StandsOnce, ValidShadow}
use Rattle.theorem_shadow.proofs.Cycles.{Masked, masked, rank_of, rank_step, rank_back, rank_same, rank_inj, gap, sign_same, sign_inj, sign_lt}
use Rattle.theorem_shadow.proofs.Cycles.{canonical_inj}
use Rattle.theorem_shadow.proofs.Geometry.{Geometry}
use Rattle.theorem_shadow.proofs.Places.{one_entry}

-- eight aligned bytes stay in their frame
in_frame : (q i f t : ℕ) → base ≤ q → t % 8 ≡ 0 → q ≡ f * 4096 + t % 4096 → i < 8 → (base + (q - base + i)) / 4096 ≡ f
in_frame q i f t b h e l = omega arith

-- two times eight aligned bytes coincide, frame and offset, or do not overlap
eights : (p q f g v u : ℕ) → v % 8 ≡ 0 → u % 8 ≡ 0 → p ≡ f * 4096 + v % 4096 → q ≡ g * 4096 + u % 4096
    → (f ≡ g → v % 4096 ≡ u % 4096 → ⊥) → (p + 8 ≤ q) ⊎ (q + 8 ≤ p)
eights p q f g v u hv hu ep eq n =
    either q (p + 8) (λ x. either p (q + 8) (λ y. absurd (overlap x y)) (λ y. inr y)) (λ x. inl x)
  where
    overlap : q < p + 8 → p < q + 8 → ⊥
    overlap x y =
        let e : p ≡ q = omega arith in
        n (omega arith) (omega arith)

one_place : (p q : Physical) → ◌≡◌ {A = PlaceOrFault} (Ok p) (Ok q) → p ≡ q
one_place p q e = cc

module _ (c : Control) (map : List ℕ) (len : ℕ) (user : c.mode ≡ User) (sv39 : c.sv39 ≡ true) (once : StandsOnce c map) where
  -- the number of masked bits
  abbrev p : ℕ
  p = pmlen_of c.upmm

  bits : Masked p
  bits = masked c.upmm

  abbrev m : Mode
  m = effective_mode_of c kind.Pop

  abbrev slot : ℕ → PlaceOrFault
  slot a = place_of c kind.Pop Double a map len

  -- the address as masking leaves it, which is then translated
  abbrev virtual : ℕ → ℕ
  virtual a = sign_extend_of (64 - p) a

  transformed : (a : ℕ) → transformed_of c m kind.Pop a ≡ virtual a
  unfolding transformed_of effective_mode_of mask_of
  transformed a = rw (user, sv39)

  slot_at : (a : ℕ) → slot a ≡ reached_of c m kind.Pop Double (virtual a) map len
  unfolding place_of
  slot_at a = rw (transformed a)

  -- a slot that is given a place: the entry of its page, and where that leads
  record Reads (a : ℕ) (q : Physical) : Type 0 where
    entry : ℕ
    stands : Entry map entry
    valid : ValidShadow c (leaf_at map entry)
    canonical : canonical_of (virtual a) ≡ true
    number : get_or map (2 * entry) 0 ≡ page_number (virtual a)
    frame : q.0 ≡ frame_of (leaf_at map entry) * 4096 + virtual a % 4096
    aligned : virtual a % 8 ≡ 0
    within : Within len Double q.0

  reads : (a : ℕ) (q : Physical) → slot a ≡ Ok q → Reads a q
  reads a q e =
      let B : Behind c kind.Pop Double (virtual a) map len q =
      subst (λ (t : ℕ). Behind c kind.Pop Double t map len q) (transformed a)
      (behind c kind.Pop Double a map len q e (shadow_paged c kind.Pop Double a map len q e refl)) in
      record {
        entry = B.entry;
        stands = B.stands;
        valid = (B.held.own, B.valid);
        canonical = B.canonical;
        number = B.number;
        frame = B.frame;
        aligned = subst (λ (t : ℕ). t % 8 ≡ 0) (transformed a) (place_aligned c kind.Pop Double a map len q e);
        within = B.within;
      }

  -- a permitted slot is not in the gap, so the rank rises
  rises : (a : ℕ) (q : Physical) → a % 8 ≡ 0 → slot a ≡ Ok q → rank_of p (sum_of a 8) ≡ suc (rank_of p a)
  rises a q s e = rank_step bits a s (gap bits a (reads a q e).canonical)

  falls : (a : ℕ) (q : Physical) → a % 8 ≡ 0 → slot (difference_of a 8) ≡ Ok q → rank_of p a ≡ suc (rank_of p (difference_of a 8))
  falls a q s e = sym (rank_back bits a) ∙ rises (difference_of a 8) q (omega arith) e

  -- one rank is one address of the cycle, which masking makes one address
  agree : (a b : ℕ) (q r : Physical) → a % 8 ≡ 0 → b % 8 ≡ 0 → slot a ≡ Ok q → slot b ≡ Ok r → rank_of p a ≡ rank_of p b → q ≡ r
  agree a b q r s t e f h =
      let same : virtual a ≡ virtual b = sign_same bits a b (rank_inj bits a b s t h) in
      let there = ap (λ (t : ℕ). reached_of c m kind.Pop Double t map len) same in
      one_place q r (sym e ∙ (slot_at a ∙ (there ∙ (sym (slot_at b) ∙ f))))

  -- slots at one offset of one frame are one: the frame stands in one entry, which has one page number, and that and the offset make a
  -- canonical address
  one_rank : (a b : ℕ) (q r : Physical) (X : Reads a q) (Y : Reads b r)
      → frame_of (leaf_at map X.entry) ≡ frame_of (leaf_at map Y.entry) → virtual a % 4096 ≡ virtual b % 4096 → rank_of p a ≡ rank_of p b
  one_rank a b q r X Y f o =
      let i : X.entry ≡ Y.entry = one_entry c map once Y.entry X.entry Y.stands X.stands Y.valid X.valid.1 f in
      let n : page_number (virtual a) ≡ page_number (virtual b) = sym X.number ∙ (ap (λ (i : ℕ). get_or map (2 * i) 0) i ∙ Y.number) in
      let t = canonical_inj (virtual a) (virtual b) (sign_lt bits a) (sign_lt bits b) X.canonical Y.canonical n o in
      rank_same p a b (sign_inj bits a b t)

  distinct : (a b : ℕ) (q r : Physical) → a % 8 ≡ 0 → b % 8 ≡ 0 → slot a ≡ Ok q → slot b ≡ Ok r → (rank_of p a ≡ rank_of p b → ⊥)
      → (q.0 + 8 ≤ r.0) ⊎ (r.0 + 8 ≤ q.0)
  distinct a b q r s t e f n =
      let X = reads a q e in
      let Y = reads b r f in
      eights q.0 r.0 (frame_of (leaf_at map X.entry)) (frame_of (leaf_at map Y.entry)) (virtual a) (virtual b)
      X.aligned Y.aligned X.frame Y.frame
      (λ g o. n (one_rank a b q r X Y g o))

  shadowed : (a : ℕ) (q : Physical) (i : ℕ) → a % 8 ≡ 0 → slot a ≡ Ok q → i < 8 → Shadow c map (q.0 - base + i)
  shadowed a q i s e l =
      let X = reads a q e in
      record {
        entry = X.entry;
        stands = X.stands;
        valid = X.valid;
        frame = in_frame q.0 i (frame_of (leaf_at map X.entry)) (virtual a) X.within.0 X.aligned X.frame l;
      }

  pub geometry : Geometry (λ (a : ℕ). place_of c kind.Pop Double a map len) (Shadow c map) len
  geometry = record {
    rank = rank_of p;
    rank_up = rises;
    rank_down = falls;
    same = agree;
    apart = distinct;
    inside = λ a q e. (reads a q e).within;
    shadow = shadowed;
  }
