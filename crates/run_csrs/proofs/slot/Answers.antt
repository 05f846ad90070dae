-- `run_csrs::slot` meets its contract: M's four from M, S's from S and from M. Assumes nothing.
use Rattle.isa.specs.Mode.{mode_of}
use Rattle.run_csrs.proofs.Addresses.{machine, from_s_or_m}
use Rattle.run_csrs.proofs.slot.Goals as goal

pub returns-in-208-eq3 : goal.returns-in-208-eq3
unfolding mode_of
returns-in-208-eq3 c = rw (c.from-place.ensures, c.in-208-eq3.is-1) (machine _ c.in-208-eq3.is-0)

pub returns-in-80-eq1 : goal.returns-in-80-eq1
returns-in-80-eq1 c = rw c.from-place.ensures (from_s_or_m _ _ c.in-80-eq1.is-1 c.in-80-eq1.is-0)
