-- `address_place::window::whole` meets its contract: in M or Bare an address is the physical one. Assumes nothing.
use Rattle.address_place.proofs.Windows.{whole_shows}
use Rattle.address_place.proofs.window.whole.Goals as goal

pub returns-then-len-lt4 : goal.returns-then-len-lt4
returns-then-len-lt4 c = let a = c.args in λ map. c.closed.ensures a.c map a.len

pub returns : goal.returns
returns c =
    λ map. whole_shows c.args.c map c.args.len c.requires.1 c.requires.0 c.if-len-lt4.false
