use Rattle.std.proofs.Common.{◌≡◌, ◌*◌, drop}
use Rattle.address_page.specs.Map.{lookup_of}
use Rattle.address_page.proofs.map.lookup.Given as goal

-- the entries from this pair on answer for the map
abbrev pub invariant-loop-first : goal.invariant-loop-first
invariant-loop-first l = lookup_of l.map l.page ≡ lookup_of (drop (4 * l.first-index) l.map) l.page
