use Rattle.std.proofs.Common.{◌≡◌, ◌*◌, drop}
use Rattle.address_page.proofs.Entries.{wrong_at}
use Rattle.address_page.specs.Map.{map_refused_of}
use Rattle.address_page.proofs.map.refused.Given as goal

-- what is wrong from this entry on is what is wrong with the map
abbrev pub invariant-loop-page : goal.invariant-loop-page
invariant-loop-page l = map_refused_of l.map ≡ wrong_at l.low (drop (2 * l.page-index) l.map)
