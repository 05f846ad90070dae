-- `intel_hex::store::put` meets its contract: a good line's data go into memory. Assumes nothing.
use mathlib.Core.Path.{◌≡◌, sym, ◌∙◌}
use Prim.Native.Nat.{◌+◌, ◌≤◌}
use lib.ListN.{length}
use native.Mathlib.Omega.{arith}
use borrow.Author.Tests.{eqb-true, eqb-false}
use Rattle.intel_hex.specs.Line.{record_type_of, record_count_of}
use Rattle.intel_hex.proofs.Good.{data_inside, placed_data, placed_other, placed_none}
use Rattle.intel_hex.proofs.store.put.Goals as goal
use Rattle.intel_hex.proofs.store.put.Goals.{After-address, else-count-gt0-via-then-count-gt0+else-is, else-count-gt0-via-else-count-gt0}

-- a data record with some bytes
inside : (c : After-address) → (record_type_of c.args.line.now.text.now ≡ 0) × (0x8000_0000 ≤ c.address.result)
    × (c.address.result + record_count_of c.args.line.now.text.now ≤ 0x8000_0000 + length c.args.mem.now)
inside c =
    let l = c.args.line.now.text.now in
    let k = eqb-true (record_type_of l) 0 (sym c.is.ensures ∙ c.if-is.true) in
    let n = c.count.ensures in
    let a = c.address.ensures.0 in
    let (p, q) = data_inside (length c.args.mem.now) c.args.upper l c.requires k (omega (arith, c.if-count-gt0.true)) in
    (k, omega arith, omega arith)

pub overflow_sub-to : goal.overflow_sub-to
overflow_sub-to c = let (_, p, _) = inside (goal.at.overflow_sub-to c).After-address in p

pub fill-requires : goal.fill-requires
fill-requires c = let (_, p, q) = inside (goal.at.fill-requires c).After-address in omega arith

pub returns-then-is : goal.returns-then-is
returns-then-is c =
    let (k, _, _) = inside (goal.at.returns-then-is c).After-address in
    c.fill.ensures ∙ rw c.address.ensures.0 (placed_data c.args.upper c.args.line.now.text.now c.args.mem.now k)

pub returns-else-count-gt0 : goal.returns-else-count-gt0
returns-else-count-gt0 c =
    let l = c.args.line.now.text.now in
    elim c.else-count-gt0.branch [
      | else-count-gt0-via-then-count-gt0+else-is w ↦ placed_other c.args.upper l c.args.mem.now (eqb-false (record_type_of l) 0 (sym w.is.ensures ∙ w.if-is.false))
      | else-count-gt0-via-else-count-gt0 w ↦ placed_none c.args.upper l c.args.mem.now (omega (arith, c.count.ensures, w.if-count-gt0.false))
    ]
