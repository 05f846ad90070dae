-- A page's first address decides the whole page: where an access through it has a place and its frame lies in memory whole, an access of that kind
-- to any address of the page, within it, has its place at the same distance.
-- Assumes nothing.
use mathlib.Core.Path.{◌≡◌, sym, ◌∙◌, ap, subst}
use mathlib.Core.Bool.{true}
use mathlib.Core.List.{List}
use Prim.Native.Nat.{ℕ, ◌+◌, ◌-◌, ◌/◌, ◌%◌, ◌^◌, ◌<◌, ◌≤◌}
use native.Mathlib.Omega.{arith}
use borrow.Author.Tests.{le-leb}
use Rattle.isa.specs.Size.{size_of}
use Rattle.isa.specs.declared.Width.{Width}
use Rattle.address_leaf.specs.Leaf.{leaf_of}
use Rattle.address_judge.specs.Judge.{judge_of}
use Rattle.address_page.specs.Map.{lookup_of}
use Rattle.isa.specs.declared.Kind.{Kind}
use Rattle.address_page.specs.declared.Regime.{Regime}
use Rattle.std.specs.Prelude.{Some, Ok}
use Rattle.address_place.specs.Place.{base, within_of, inside_of, canonical_of, page_number, physical_of, settle_of, through_of, paged_place_of}
use Rattle.address_place.specs.declared.Physical.{Physical}
use Rattle.address_place.proofs.Reach.{paged_at}

-- addresses of one page have the same upper parts
module _ (low t : ℕ) (first : low % 4096 ≡ 0) (from : low ≤ t) (to : t < low + 4096) where
  same_39 : t / 2 ^ 39 ≡ low / 2 ^ 39
  same_39 = omega arith

  same_38 : t / 2 ^ 38 ≡ low / 2 ^ 38
  same_38 = omega arith

  pub same_page : t / 4096 ≡ low / 4096
  same_page = omega arith

  pub same_canonical : canonical_of t ≡ canonical_of low
  same_canonical = rw (same_39, same_38)

  pub same_number : page_number t ≡ page_number low
  same_number = rw same_page

  pub same_frame : (e : ℕ) → physical_of e t ≡ physical_of e low + (t - low)
  same_frame e = omega arith

-- all bytes of an access lie in memory
pub inside_there : (k : Kind) (w : Width) (len p t : ℕ) → base ≤ p → p + size_of w ≤ base + len → inside_of k w len p t ≡ Ok (record { 0 = p })
unfolding inside_of within_of
inside_there k w len p t l u = rw (le-leb base p l, le-leb (p + size_of w) (base + len) u)

granted_there : (g : Regime) (k : Kind) (w : Width) (len t e : ℕ) (map : List ℕ) → canonical_of t ≡ true → lookup_of map (page_number t) ≡ Some e
    → judge_of g k (leaf_of e) ≡ Ok tt → base ≤ physical_of e t → physical_of e t + size_of w ≤ base + len
    → paged_place_of g k w t map len ≡ Ok (record { 0 = physical_of e t })
unfolding paged_place_of through_of settle_of
granted_there g k w len t e map c f j l u = rw (c, f, j) (inside_there k w len (physical_of e t) t l u)

pub page_decides : (g : Regime) (k : Kind) (v w : Width) (low t : ℕ) (map : List ℕ) (len : ℕ) (q : Physical)
    → paged_place_of g k v low map len ≡ Ok q → low % 4096 ≡ 0 → q.0 + 4096 ≤ base + len
    → low ≤ t → t - low + size_of w ≤ 4096 → t < low + 4096
    → paged_place_of g k w t map len ≡ Ok (record { 0 = q.0 + (t - low) })
page_decides g k v w low t map len q at first frame from fits to =
    let P = paged_at k v len q g low map at in
    let e : physical_of P.leaf t ≡ q.0 + (t - low) = same_frame low t first from to P.leaf ∙ ap (λ (n : ℕ). n + (t - low)) (sym P.frame) in
    let l : base ≤ q.0 = P.within.0 in
    subst (λ (p : ℕ). paged_place_of g k w t map len ≡ Ok (record { 0 = p })) e
    (granted_there g k w len t P.leaf map
    (same_canonical low t first from to ∙ P.canonical)
    (ap (λ (n : ℕ). lookup_of map n) (same_number low t first from to) ∙ P.entry)
    P.granted
    (rw e (omega (arith, l)))
    (rw e (omega (arith, fits, frame))))
