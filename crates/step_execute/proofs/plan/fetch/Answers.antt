-- `step_execute::plan::fetch` meets its contract: by the source and the place. Assumes nothing.
use mathlib.Core.Path.{sym, ◌∙◌}
use Rattle.address_place.proofs.Reach.{place_within, place_index}
use Rattle.step_meaning.specs.Plan.{fetched_of}
use Rattle.step_execute.proofs.plan.fetch.Goals as goal

pub index-requires : goal.index-requires
index-requires c = (place_within _ _ _ _ _ _ _ (sym c.fetch.ensures ∙ c.in_ok-q-in-Fetch.was)).0

pub word-requires : goal.word-requires
word-requires c = rw c.index.ensures (place_index _ _ _ _ _ _ _ (sym c.fetch.ensures ∙ c.in_ok-q-in-Fetch.was))

pub returns-in_ok-q-in-Fetch : goal.returns-in_ok-q-in-Fetch
unfolding fetched_of
returns-in_ok-q-in-Fetch c =
    rw (c.word.ensures, c.index.ensures, c.in-Fetch.is, sym c.fetch.ensures ∙ c.in_ok-q-in-Fetch.was)
