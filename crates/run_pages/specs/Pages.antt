-- What is remembered of pages, under what the hart's mode and CSRs say (c), with this map and so many bytes of memory.
-- Rule 10.10 of docs/HART.md.
use Rattle.std.specs.Prelude.{List, ◌≡◌, ℕ, zero, suc, ◌+◌, ◌-◌, ◌/◌, ◌%◌, ◌^◌, ◌<◌, ◌≤◌, get_or, Ok}
use Rattle.isa.specs.Size.{size_of}
use Rattle.isa.specs.declared.Kind.{Kind}
use Rattle.isa.specs.declared.Kind.TheVariants.{Fetch, Load, Store, Push, Pop, Swap}
use Rattle.isa.specs.declared.Width.{Width}
use Rattle.address.specs.declared.control.Control.{Control}
use Rattle.address_place.specs.Place.{base, place_of}
use Rattle.run_pages.specs.declared.Page.{Page}

-- the kinds in their order, 64 pages each
abbrev pub kind_at : (group : ℕ) → Kind
kind_at zero = Fetch
kind_at (suc zero) = Load
kind_at (suc (suc zero)) = Store
kind_at (suc (suc (suc zero))) = Push
kind_at (suc (suc (suc (suc zero)))) = Pop
kind_at (suc (suc (suc (suc (suc n))))) = Swap

-- an address of the page whose first one is `first`, aligned for an access of this width: one test for both
abbrev pub OnPage : (first : ℕ) → Width → (a : ℕ) → Type 0
OnPage first w a = first ≡ a - a % 4096 + a % size_of w

-- every aligned access of kind k to the page has its place at the same distance from the page's first byte
abbrev pub Covers : Page → Kind → Control → (map : List ℕ) → (len : ℕ) → Type 0
Covers p k c map len =
    (w : Width) (a : ℕ) → a < 2 ^ 64 → OnPage p.first w a
    → (p.at + a % 4096 + size_of w ≤ len) × (place_of c k w a map len ≡ Ok (record { 0 = base + (p.at + a % 4096) }))

-- each page is of its group's kind
abbrev pub Remembers : (ps : List Page) → Control → (map : List ℕ) → (len : ℕ) → Type 0
Remembers ps c map len = (j : ℕ) → j < 384 → Covers (get_or ps j (record { first = 0; at = 0 })) (kind_at (j / 64)) c map len
