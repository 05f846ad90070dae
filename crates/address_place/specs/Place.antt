-- From a virtual address to a place in memory, or to a cause and its tval: the nine steps. `place_of` is the whole; the definitions
-- above it are its parts, and `reached_of` has their order. `flat_place_of`, the last, is what is left of it for an access that is neither
-- masked nor translated (proofs/Flat.antt). Rules 7.1 to 7.9 of docs/HART.md, of which step n is 7.n.
--
-- Below, c is what the hart's mode and CSRs say, m the effective mode, a the address as the program gives it, t the transformed
-- one, which is also tval, p the physical one, and len the number of bytes of memory.
use Rattle.std.specs.Prelude.{Bool, ◌&&◌, List, ℕ, ◌+◌, ◌-◌, ◌*◌, ◌/◌, ◌%◌, ◌^◌, ◌≤◌, eqb, leb, Option, Some, None, Result, Ok, Err}
use Rattle.word.specs.Choice.{pick}
use Rattle.isa.specs.Size.{size_of}
use Rattle.isa.specs.declared.Width.{Width}
use Rattle.address_page.specs.Kinds.{is_shadow_of}
use Rattle.address_leaf.specs.Leaf.{leaf_of}
use Rattle.address_judge.specs.Judge.{Verdict, judge_of}
use Rattle.address_page.specs.Map.{lookup_of}
use Rattle.isa.specs.declared.Exception.{Exception}
use Rattle.isa.specs.declared.Fault.TheVariants.{Misaligned, Access, Page}
use Rattle.isa.specs.declared.Kind.{Kind}
use Rattle.isa.specs.declared.Mode.{Mode}
use Rattle.address_page.specs.declared.Regime.{Regime}
use Rattle.address.specs.Align.{aligned_of}
use Rattle.address.specs.Cause.{fault_of}
use Rattle.address.specs.Control.{effective_mode_of, paged_of, regime_of}
use Rattle.address.specs.Mask.{transformed_of}
use Rattle.address.specs.declared.control.Control.{Control}
use Rattle.address_place.specs.declared.Physical.{Physical}

-- where an access goes, or why it does not
abbrev pub PlaceOrFault : Type 0
PlaceOrFault = Result Physical Exception

-- memory's first byte has this physical address
abbrev pub base : ℕ
base = 0x80000000

-- all n bytes from p on lie in memory
unfoldable pub within_of : (len p n : ℕ) → Bool
within_of len p n = leb base p && leb (p + n) (base + len)

-- the same of the bytes of a width from p on, as a proposition: what an access asks
abbrev pub Within : (len : ℕ) → Width → (p : ℕ) → Type 0
Within len w p = (base ≤ p) × (p + size_of w ≤ base + len)

-- step 9: a byte outside memory is an access fault
unfoldable pub inside_of : Kind → Width → (len p t : ℕ) → PlaceOrFault
inside_of k w len p t = pick (within_of len p (size_of w)) (Ok (record { 0 = p })) (Err (fault_of Access k t))

-- step 5: bits 63:39 must equal bit 38
abbrev pub canonical_of : ℕ → Bool
canonical_of t = eqb (t / 2 ^ 39) (t / 2 ^ 38 % 2 * (2 ^ 25 - 1))

-- the page number of an address
abbrev pub page_number : ℕ → ℕ
page_number t = t / 4096 % 2 ^ 27

-- the frame number is in bits 53:10 of the leaf word e
abbrev pub frame_of : (e : ℕ) → ℕ
frame_of e = e / 2 ^ 10 % 2 ^ 44

-- the frame and, in it, the address's offset in its page
abbrev pub physical_of : (e t : ℕ) → ℕ
physical_of e t = frame_of e * 4096 + t % 4096

-- steps 5 to 8 give a page fault or an access fault, or lead on to step 9
unfoldable pub settle_of : Verdict → Kind → Width → (len p t : ℕ) → PlaceOrFault
settle_of (Ok granted) k w len p t = inside_of k w len p t
settle_of (Err f) k w len p t = Err (fault_of f k t)

-- step 5: page fault if no entry has this page number; else steps 5 to 9 at its leaf
unfoldable pub through_of : Option ℕ → Regime → Kind → Width → (len t : ℕ) → PlaceOrFault
through_of None g k w len t = Err (fault_of Page k t)
through_of (Some e) g k w len t = settle_of (judge_of g k (leaf_of e)) k w len (physical_of e t) t

-- steps 5 to 9, under Sv39
unfoldable pub paged_place_of : Regime → Kind → Width → (t : ℕ) → (map : List ℕ) → (len : ℕ) → PlaceOrFault
paged_place_of g k w t map len =
    pick (canonical_of t) (through_of (lookup_of map (page_number t)) g k w len t) (Err (fault_of Page k t))

-- in M or Bare: step 4, a shadow access is cause 7; then step 9
unfoldable pub plain_place_of : Kind → Width → (t len : ℕ) → PlaceOrFault
plain_place_of k w t len = pick (is_shadow_of k) (Err (record { cause = 7; tval = t })) (inside_of k w len t t)

-- steps 3 to 9, in their order
unfoldable pub reached_of : Control → Mode → Kind → Width → (t : ℕ) → (map : List ℕ) → (len : ℕ) → PlaceOrFault
reached_of c m k w t map len =
    pick (aligned_of w t)
    (pick (paged_of m c.sv39) (paged_place_of (regime_of c m) k w t map len) (plain_place_of k w t len))
    (Err (fault_of Misaligned k t))

-- steps 1 to 9
unfoldable pub place_of : Control → Kind → Width → (a : ℕ) → (map : List ℕ) → (len : ℕ) → PlaceOrFault
place_of c k w a map len = reached_of c (effective_mode_of c k) k w (transformed_of c (effective_mode_of c k) k a) map len

-- steps 3 and 9, of an access that is neither masked nor translated
unfoldable pub flat_place_of : Kind → Width → (a len : ℕ) → PlaceOrFault
flat_place_of k w a len = pick (aligned_of w a) (inside_of k w len a a) (Err (fault_of Misaligned k a))
