-- `run_fast::read` meets its contract: a fetch has a place, or none. Assumes nothing.
use mathlib.Core.Path.{sym, ◌∙◌}
use native.Mathlib.Omega.{arith}
use lib.ListN.{length}
use Rattle.isa.specs.declared.Kind.TheVariants.{Fetch}
use Rattle.isa.specs.declared.Width.TheVariants.{Word}
use Rattle.address_place.proofs.Reach.{place_within, place_index}
use Rattle.run_fast.proofs.Fetched.{found}
use Rattle.run_fast.proofs.read.Goals as goal

pub index-at-requires : goal.index-at-requires
index-at-requires c =
    let a = c.args in
    (place_within a.s.control Fetch Word a.pc a.map.now (length a.mem.now) c.in-Ok.q (sym c.fetch.ensures ∙ c.in-Ok.is)).0

pub word-requires : goal.word-requires
word-requires c =
    let a = c.args in
    rw c.index-at.ensures
    (place_index a.s.control Fetch Word a.pc a.map.now (length a.mem.now) c.in-Ok.q (sym c.fetch.ensures ∙ c.in-Ok.is))

pub overflow_cast-result : goal.overflow_cast-result
overflow_cast-result c =
    let a = c.args in
    let i = place_index a.s.control Fetch Word a.pc a.map.now (length a.mem.now) c.in-Ok.q (sym c.fetch.ensures ∙ c.in-Ok.is) in
    record { fits = omega (arith, i, c.index-at.ensures, c.requires) }

pub returns-in-Ok : goal.returns-in-Ok
returns-in-Ok c =
    let a = c.args in
    found c.of_word-f.result c.index-at.result c.word.result a.pc a.s a.mem.now a.map.now c.in-Ok.q
    (sym c.fetch.ensures ∙ c.in-Ok.is) c.index-at.ensures c.requires c.word.ensures c.of_word-f.ensures.means c.of_word-f.ensures.small
