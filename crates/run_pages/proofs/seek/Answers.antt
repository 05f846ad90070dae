-- `run_pages::seek` meets its contract: a page that is remembered has the access's place. Assumes nothing.
use Rattle.std.specs.Prelude.{Ok}
use mathlib.Core.Path.{◌≡◌}
use Prim.Native.Nat.{ℕ, ◌+◌, ◌*◌, ◌/◌, ◌%◌, ◌≤◌}
use native.Mathlib.Omega.{arith}
use lib.ListN.{get_or, length}
use denote.Enum.Declared.{tag_of}
use Rattle.isa.specs.contracts.Kind.{the_type}
use Rattle.address_place.specs.Place.{base, place_of}
use Rattle.run_pages.specs.declared.Page.{Page}
use Rattle.run_pages.proofs.Kept.{recalled, of_kind}
use Rattle.run_pages.proofs.seek.Goals as goal
use Rattle.run_pages.proofs.seek.Goals.{Then-page-a}

-- a page that is remembered
module _ (c : Then-page-a) where
  abbrev a : ℕ
  a = c.args.a

  abbrev j : ℕ
  j = tag_of the_type c.args.k * 64 + a / 4096 % 64

  abbrev page : Page
  page = get_or c.args.ps.now j (record { first = 0; at = 0 })

  abbrev len : ℕ
  len = length c.args.mem.now

  hit : (page.at + a % 4096 ≤ len) × (place_of c.args.c c.args.k c.args.n a c.args.map.now len ≡ Ok (record { 0 = base + (page.at + a % 4096) }))
  hit =
      let g = of_kind c.args.k (a / 4096 % 64) (omega arith) in
      recalled c.args.c c.args.k c.args.n a c.args.map.now len c.args.ps.now j
      c.bytes.result c.requires.1 g.0 g.1 (omega arith) c.bytes.ensures.0 c.if-page-a.true

pub overflow_add-result : goal.overflow_add-result
overflow_add-result c =
    let h = (hit ((goal.at.overflow_add-result c).Then-page-a)).0 in
    record { fits = omega (arith, h, c.requires.0) }

pub returns-then-page-a-clause-place : goal.returns-then-page-a-clause-place
returns-then-page-a-clause-place c = (hit ((goal.at.returns-then-page-a-clause-place c).Then-page-a)).1
