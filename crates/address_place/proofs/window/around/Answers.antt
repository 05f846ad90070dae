-- `address_place::window::around` meets its contract. Assumes nothing.
use Rattle.address_place.proofs.window.around.Goals as goal

pub returns-then-bare : goal.returns-then-bare
returns-then-bare c = c.whole.ensures c.args.map.now
