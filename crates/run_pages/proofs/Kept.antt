-- A table of pairs: an empty one remembers, it still does with one more page, and what it has of a page is the place of an access to it.
-- Assumes nothing.
use Rattle.std.specs.Prelude.{Ok}
use mathlib.Core.Bool.{Bool, true, false}
use mathlib.Core.List.{List}
use mathlib.Core.Path.{◌≡◌, refl, sym, ◌∙◌, ap, subst}
use Prim.Native.Nat.{ℕ, ◌+◌, ◌-◌, ◌*◌, ◌/◌, ◌%◌, ◌^◌, ◌<◌, ◌≤◌}
use native.Mathlib.Omega.{arith}
use borrow.Author.Tests.{eqb-true, eqb-false}
use lib.Dec.{eqb}
use lib.ListN.{get_or, length, set, replicate, get_or-replicate}
use lib.Seq.{get_or-set_same, get_or-set_other}
use Rattle.isa.specs.Size.{size_of}
use denote.Enum.Declared.{tag_of}
use Rattle.isa.specs.contracts.Kind.{the_type}
use Rattle.isa.specs.declared.Kind.{Kind}
use Rattle.isa.specs.declared.Kind.TheVariants.{Fetch, Load, Store, Push, Pop, Swap}
use Rattle.isa.specs.declared.Width.{Width}
use Rattle.isa.specs.declared.Width.TheVariants.{Byte, Half, Word, Double}
use Rattle.address.specs.declared.control.Control.{Control}
use Rattle.address_place.specs.Place.{base, place_of}
use Rattle.address_place.specs.declared.Physical.{Physical}
use Rattle.address_place.proofs.Reach.{place_within}
use Rattle.run_pages.specs.Pages.{kind_at, OnPage, Covers, Remembers}
use Rattle.run_pages.specs.declared.Page.{Page}
use Rattle.run_pages.proofs.Decided.{decided}

-- no address passes the test by an empty page's: that lies 0x808 bytes into its own page
none_on : (w : Width) (a : ℕ) → OnPage 0x0808080808080808 w a → ⊥
none_on Byte a e = omega arith
none_on Half a e = omega arith
none_on Word a e = omega arith
none_on Double a e = omega arith

pub empty : (c : Control) (map : List ℕ) (len : ℕ)
    → Remembers (replicate 384 (record { first = 0x0808080808080808; at = 0x0808080808080808 })) c map len
empty c map len j l w a h e =
    let s = ap (λ (p : Page). p.first) (get_or-replicate 384 j _ (record { first = 0; at = 0 }) l) in
    absurd (none_on w a (sym s ∙ e))

module _ (ps : List Page) (c : Control) (map : List ℕ) (len : ℕ) (j : ℕ) (p : Page) (long : length ps ≡ 384) (below : j < 384) where
  abbrev none : Page
  none = record { first = 0; at = 0 }

  abbrev then : List Page
  then = set ps j p

  -- the page at an index
  as_page : (x y : Page) (k : Kind) → x ≡ y → Covers y k c map len → Covers x k c map len
  as_page x y k e h = rw e h

  pub stored : Remembers ps c map len → Covers p (kind_at (j / 64)) c map len → Remembers then c map len
  stored old page i l = go (eqb i j) refl
    where
      go : (b : Bool) → eqb i j ≡ b → Covers (get_or then i none) (kind_at (i / 64)) c map len
      go true e =
          subst (λ (n : ℕ). Covers (get_or then n none) (kind_at (n / 64)) c map len) (sym (eqb-true i j e))
          (as_page (get_or then j none) p (kind_at (j / 64)) (get_or-set_same ps j p none (rw long below)) page)
      go false e = as_page (get_or then i none) (get_or ps i none) (kind_at (i / 64)) (get_or-set_other ps j i p none (eqb-false i j e)) (old i l)

-- with the page of `low`, if its first eight bytes have a place and its frame lies in memory whole
pub remembered : (ps : List Page) (c : Control) (map : List ℕ) (len j low at : ℕ) → length ps ≡ 384 → j < 384
    → (k : Kind) (q : Physical) → kind_at (j / 64) ≡ k → place_of c k Double low map len ≡ Ok q → low % 4096 ≡ 0
    → at ≡ q.0 - base → at + 4096 ≤ len → Remembers ps c map len → Remembers (set ps j (record { first = low; at = at })) c map len
remembered ps c map len j low at long below k q e there start i fits old =
    let frame : q.0 - base + 4096 ≤ len = rw (← i) fits in
    stored ps c map len j (record { first = low; at = at }) long below old (rw (e, i) (decided c k low map len q there start frame))

module _ (c : Control) (k : Kind) (w : Width) (a : ℕ) (map : List ℕ) (len : ℕ) where
  -- a place by the index of its byte
  pub at_index : (q : Physical) (n : ℕ) → place_of c k w a map len ≡ Ok q → n ≡ q.0 - base → place_of c k w a map len ≡ Ok (record { 0 = base + n })
  at_index q n there i =
      let from = (place_within c k w a map len q there).0 in
      let e : q.0 ≡ base + n = omega (arith, from, i) in
      there ∙ ap (λ (p : ℕ). Ok (record { 0 = p })) e

  -- what a table that remembers has of an address's page
  pub recalled : (ps : List Page) (j n : ℕ) → Remembers ps c map len → j < 384 → kind_at (j / 64) ≡ k → a < 2 ^ 64 → n ≡ size_of w
      → (get_or ps j (record { first = 0; at = 0 })).first ≡ a - a % 4096 + a % n
      → ((get_or ps j (record { first = 0; at = 0 })).at + a % 4096 ≤ len)
      × (place_of c k w a map len ≡ Ok (record { 0 = base + ((get_or ps j (record { first = 0; at = 0 })).at + a % 4096) }))
  recalled ps j n old l e h s o =
      let (fits, there) = old j l w a h (rw (← s) o) in
      (omega (arith, fits), rw (← e) there)

-- the pages of a kind
pub of_kind : (k : Kind) (i : ℕ) → i < 64 → (tag_of the_type k * 64 + i < 384) × (kind_at ((tag_of the_type k * 64 + i) / 64) ≡ k)
of_kind Fetch i l =
    let e : (0 * 64 + i) / 64 ≡ 0 = omega arith in
    (omega arith, rw e refl)
of_kind Load i l =
    let e : (1 * 64 + i) / 64 ≡ 1 = omega arith in
    (omega arith, rw e refl)
of_kind Store i l =
    let e : (2 * 64 + i) / 64 ≡ 2 = omega arith in
    (omega arith, rw e refl)
of_kind Push i l =
    let e : (3 * 64 + i) / 64 ≡ 3 = omega arith in
    (omega arith, rw e refl)
of_kind Pop i l =
    let e : (4 * 64 + i) / 64 ≡ 4 = omega arith in
    (omega arith, rw e refl)
of_kind Swap i l =
    let e : (5 * 64 + i) / 64 ≡ 5 = omega arith in
    (omega arith, rw e refl)

-- the number that the test compares with is no larger than the address
pub no_larger : (w : Width) (a n : ℕ) → n ≡ size_of w → (0 < n) × (a - a % 4096 + a % n ≤ a)
no_larger Byte a n s = rw s (omega arith, omega arith)
no_larger Half a n s = rw s (omega arith, omega arith)
no_larger Word a n s = rw s (omega arith, omega arith)
no_larger Double a n s = rw s (omega arith, omega arith)
