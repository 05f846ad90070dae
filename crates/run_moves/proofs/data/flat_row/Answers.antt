-- `run_moves::data::flat_row` meets its contract: the rows of LOAD. Assumes nothing.
use Rattle.word.proofs.Tables.{hit}
use Rattle.decode_base.specs.Base.{loads, decode_load_of}
use Rattle.run_moves.proofs.Loaded.{row_loads}
use Rattle.run_moves.proofs.data.flat_row.Goals as goal

pub returns-in-0 : goal.returns-in-0
unfolding decode_load_of
returns-in-0 c =
    let a = c.args in
    λ off. row_loads c.flat_load.result _ _ a.f off a.a a.mem.now (hit (loads a.f off) c.in-0.is)
    (c.flat_load.ensures a.f off)

pub returns-in-1 : goal.returns-in-1
unfolding decode_load_of
returns-in-1 c =
    let a = c.args in
    λ off. row_loads c.flat_load-in-1.result _ _ a.f off a.a a.mem.now (hit (loads a.f off) c.in-1.is)
    (c.flat_load-in-1.ensures a.f off)

pub returns-in-2 : goal.returns-in-2
unfolding decode_load_of
returns-in-2 c =
    let a = c.args in
    λ off. row_loads c.flat_load-in-2.result _ _ a.f off a.a a.mem.now (hit (loads a.f off) c.in-2.is)
    (c.flat_load-in-2.ensures a.f off)

pub returns-in-3 : goal.returns-in-3
unfolding decode_load_of
returns-in-3 c =
    let a = c.args in
    λ off. row_loads c.flat_load-in-3.result _ _ a.f off a.a a.mem.now (hit (loads a.f off) c.in-3.is)
    (c.flat_load-in-3.ensures a.f off)

pub returns-in-4 : goal.returns-in-4
unfolding decode_load_of
returns-in-4 c =
    let a = c.args in
    λ off. row_loads c.flat_load-in-4.result _ _ a.f off a.a a.mem.now (hit (loads a.f off) c.in-4.is)
    (c.flat_load-in-4.ensures a.f off)

pub returns-in-5 : goal.returns-in-5
unfolding decode_load_of
returns-in-5 c =
    let a = c.args in
    λ off. row_loads c.flat_load-in-5.result _ _ a.f off a.a a.mem.now (hit (loads a.f off) c.in-5.is)
    (c.flat_load-in-5.ensures a.f off)

pub returns-in-6 : goal.returns-in-6
unfolding decode_load_of
returns-in-6 c =
    let a = c.args in
    λ off. row_loads c.flat_load-in-6.result _ _ a.f off a.a a.mem.now (hit (loads a.f off) c.in-6.is)
    (c.flat_load-in-6.ensures a.f off)
