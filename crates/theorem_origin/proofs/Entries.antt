-- The entry behind an access that goes by the map and is given a place: one of the map's, whose leaf is a page's and has granted the access.
-- Assumes nothing.
use Rattle.std.specs.Prelude.{Ok}
use mathlib.Core.Bool.{true}
use mathlib.Core.List.{List}
use mathlib.Core.Path.{◌≡◌, sym, subst}
use Prim.Native.Nat.{ℕ, ◌+◌, ◌-◌, ◌*◌, ◌/◌, ◌%◌, ◌≤◌, ◌<◌}
use lib.ListN.{get_or}
use native.Mathlib.Omega.{arith}
use Rattle.isa.specs.Size.{size_of}
use Rattle.isa.specs.declared.Width.{Width}
use Rattle.address_leaf.specs.Leaf.{leaf_of}
use Rattle.address_judge.proofs.Grants.{Held, held}
use Rattle.address_page.proofs.Entries.{lookup_stands}
use Rattle.isa.specs.declared.Kind.{Kind}
use Rattle.address.specs.Control.{effective_mode_of, paged_of, regime_of}
use Rattle.address.specs.Mask.{transformed_of}
use Rattle.address.specs.declared.control.Control.{Control}
use Rattle.address_place.proofs.Reach.{place_paged, place_in_page}
use Rattle.address_place.specs.Place.{base, frame_of, Within, canonical_of, page_number, physical_of, place_of}
use Rattle.address_place.specs.declared.Physical.{Physical}
use Rattle.theorem_origin.specs.Force.{leaf_at, Entry, ValidLeaf}

-- t is the transformed address
pub record Behind (c : Control) (k : Kind) (w : Width) (t : ℕ) (map : List ℕ) (len : ℕ) (q : Physical) : Type 0 where
  pub entry : ℕ
  pub stands : Entry map entry
  pub number : get_or map (2 * entry) 0 ≡ page_number t
  pub canonical : canonical_of t ≡ true
  pub held : Held (regime_of c (effective_mode_of c k)) k (leaf_of (leaf_at map entry))
  pub valid : ValidLeaf c (leaf_at map entry)
  pub frame : q.0 ≡ physical_of (leaf_at map entry) t
  pub within : Within len w q.0

-- bytes that do not leave a frame
in_frame : (q n i f t : ℕ) → base ≤ q → q ≡ f * 4096 + t % 4096 → t % 4096 + n ≤ 4096 → i < n → f ≡ (base + (q - base + i)) / 4096
in_frame q n i f t b e l u = omega arith

module _ (c : Control) (k : Kind) (w : Width) (a : ℕ) (map : List ℕ) (len : ℕ) (q : Physical)
    (at : place_of c k w a map len ≡ Ok q) (paged : paged_of (effective_mode_of c k) c.sv39 ≡ true) where
  pub behind : Behind c k w (transformed_of c (effective_mode_of c k) k a) map len q
  behind =
      let P = place_paged c k w a map len q at paged in
      let S = lookup_stands map _ P.leaf P.entry in
      let H = held (regime_of c (effective_mode_of c k)) (leaf_of P.leaf) k P.granted in
      record {
        entry = S.place;
        stands = S.inside;
        number = S.number;
        canonical = P.canonical;
        held = subst (λ (e : ℕ). Held (regime_of c (effective_mode_of c k)) k (leaf_of e)) (sym S.word) H;
        valid = subst (ValidLeaf c) (sym S.word) H.valid;
        frame = subst (λ (e : ℕ). q.0 ≡ physical_of e (transformed_of c (effective_mode_of c k) k a)) (sym S.word) P.frame;
        within = P.within;
      }

  -- every byte of the access lies in the entry's frame
  pub behind_names : (i : ℕ) → i < size_of w → frame_of (leaf_at map behind.entry) ≡ (base + (q.0 - base + i)) / 4096
  behind_names i l =
      in_frame q.0 (size_of w) i (frame_of (leaf_at map behind.entry)) (transformed_of c (effective_mode_of c k) k a) behind.within.0
      behind.frame (place_in_page c k w a map len q at).0 l
