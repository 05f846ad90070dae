-- What the two kinds of window show.
-- Assumes nothing.
use mathlib.Core.Bool.{true, false}
use mathlib.Core.List.{List}
use mathlib.Core.Path.{◌≡◌, sym, ◌∙◌}
use Prim.Native.Nat.{ℕ, ◌+◌, ◌-◌, ◌%◌, ◌^◌, ◌<◌, ◌≤◌}
use native.Mathlib.Omega.{arith}
use borrow.Author.Tests.{eq-eqb, not-false}
use Rattle.std.specs.Prelude.{Ok}
use Rattle.isa.specs.declared.Width.TheVariants.{Word}
use Rattle.isa.specs.declared.Kind.TheVariants.{Fetch}
use Rattle.address.specs.Align.{aligned_of}
use Rattle.address.specs.Control.{bare_of, effective_mode_of, paged_of, regime_of}
use Rattle.address.specs.Mask.{transformed_of}
use Rattle.address.specs.declared.control.Control.{Control}
use Rattle.address_place.specs.Place.{base, paged_place_of, reached_of, place_of}
use Rattle.address_place.specs.Window.{distance, Shows}
use Rattle.address_place.specs.declared.Physical.{Physical}
use Rattle.address_place.specs.declared.window.Window.{Window}
use Rattle.address_place.proofs.Flat.{fetch_flat, flat_aligned}
use Rattle.address_place.proofs.Page.{inside_there, page_decides}

word_aligned : (a : ℕ) → a % 4 ≡ 0 → aligned_of Word a ≡ true
unfolding aligned_of
word_aligned a e = eq-eqb (a % 4) 0 e

-- memory, at its physical addresses
module _ (c : Control) (map : List ℕ) (len : ℕ) (bare : bare_of c ≡ true) (most : len ≤ 2 ^ 20) (least : 4 ≤ len) where
  abbrev all : Window
  all = record { low = base; span = len - 3; at = 0 }

  here : (a : ℕ) → a < 2 ^ 64 → distance all a < len - 3 → (base + (0 + distance all a) ≡ a) × (base ≤ a) × (a + 4 ≤ base + len)
  here a h l = (omega (arith, h, l), omega (arith, h, l), omega (arith, h, l))

  pub whole_shows : Shows all c map len
  whole_shows = record {
    fits = omega arith;
    place = λ a h l z.
        let (e, b, u) = here a h l in
        fetch_flat c a map len bare
        ∙ sym (flat_aligned Fetch Word a len (word_aligned a z))
        ∙ inside_there Fetch Word len a a b u
        ∙ rw e;
  }

-- a fetch under Sv39 goes through its page
module _ (c : Control) (a : ℕ) (map : List ℕ) (len : ℕ) (paged : bare_of c ≡ false) (aligned : a % 4 ≡ 0) where
  fetch_paged : place_of c Fetch Word a map len ≡ paged_place_of (regime_of c (effective_mode_of c Fetch)) Fetch Word a map len
  unfolding place_of reached_of transformed_of bare_of
  fetch_paged = rw (word_aligned a aligned, not-false (paged_of (effective_mode_of c Fetch) c.sv39) paged)

module _ (c : Control) (low : ℕ) (map : List ℕ) (len : ℕ) (q : Physical) (paged : bare_of c ≡ false) (start : low % 4096 ≡ 0)
    (at : place_of c Fetch Word low map len ≡ Ok q) (most : len ≤ 2 ^ 20) (from : base ≤ q.0) (frame : q.0 - base + 4096 ≤ len) where
  abbrev leaf : Window
  leaf = record { low = low; span = 4093; at = q.0 - base }

  pub page_shows : low < 2 ^ 64 → Shows leaf c map len
  page_shows b = record {
    fits = omega (arith, frame);
    place = λ a h l z.
        let e : distance leaf a ≡ a - low = omega (arith, h, l, b, start) in
        let o : low ≤ a = omega (arith, h, l, b, start) in
        let g : a - low < 4093 = rw e at l in
        let s : base + (q.0 - base + distance leaf a) ≡ q.0 + (a - low) = rw e (omega (arith, from)) in
        fetch_paged c a map len paged z
        ∙ page_decides (regime_of c (effective_mode_of c Fetch)) Fetch Word Word low a map len q
        (sym (fetch_paged c low map len paged (omega (arith, start))) ∙ at)
        start (omega (arith, from, frame)) o (omega (arith, g)) (omega (arith, g, o))
        ∙ rw s;
  }
