-- `address_place::window::page` meets its contract: its first address decides a page. Assumes nothing.
use mathlib.Core.Path.{◌≡◌, sym}
use Prim.Native.Nat.{◌-◌, ◌%◌}
use native.Mathlib.Omega.{arith}
use Rattle.isa.specs.declared.Width.TheVariants.{Word}
use Rattle.isa.specs.declared.Kind.TheVariants.{Fetch}
use Rattle.address_place.specs.Place.{place_of}
use Rattle.std.specs.Prelude.{Ok}
use Rattle.address_place.proofs.Reach.{place_within}
use Rattle.address_place.proofs.Windows.{page_shows}
use lib.ListN.{length}
use Rattle.address_place.proofs.window.page.Goals as goal

pub returns-then-at-mem : goal.returns-then-at-mem
returns-then-at-mem c =
    let a = c.args in
    let q = c.in-Ok.q in
    let there : place_of a.c Fetch Word (a.a - a.a % 4096) a.map.now (length a.mem.now) ≡ Ok q = sym c.in-Ok.ensures in
    let within = place_within a.c Fetch Word (a.a - a.a % 4096) a.map.now (length a.mem.now) q there in
    page_shows a.c (a.a - a.a % 4096) a.map.now (length a.mem.now) q c.requires.1 (omega arith) there c.requires.0 within.0
    c.if-at-mem.true (omega arith)

pub returns : goal.returns
returns c =
    let a = c.args in
    c.closed-2.ensures a.c a.map.now (length a.mem.now)

pub returns-in_default : goal.returns-in_default
returns-in_default c = let a = c.args in c.closed.ensures a.c a.map.now (length a.mem.now)

pub overflow_sub-at : goal.overflow_sub-at
overflow_sub-at c =
    let a = c.args in
    let there : place_of a.c Fetch Word (a.a - a.a % 4096) a.map.now (length a.mem.now) ≡ Ok c.in-Ok.q = sym c.in-Ok.ensures in
    omega (arith, (place_within a.c Fetch Word (a.a - a.a % 4096) a.map.now (length a.mem.now) c.in-Ok.q there).0)
