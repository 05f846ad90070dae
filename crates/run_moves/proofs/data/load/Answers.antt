-- `run_moves::data::load` meets its contract: the access of a load. Assumes nothing.
use Rattle.decode_base.specs.Base.{decode_load_of}
use Rattle.step_transfer.specs.Access.{access_of, passed_of}
use Rattle.step_meaning.specs.Instruction.{execute_of}
use Rattle.run_done.proofs.Ways.{read, does_as}
use Rattle.run_done.proofs.Parts.{load_parts}
use Rattle.run_moves.proofs.data.load.Goals as goal

pub returns : goal.returns
unfolding execute_of access_of passed_of
returns c =
    let i = c.in-Memory-Load-default-default-default-default in
    let told = read decode_load_of c.split.ensures c.imm_i.ensures c.load.ensures i.is in
    λ ssp rest. does_as c.load_at.result _ _ _ rest _ _ rest _
    (rw (told, i.field-0-is, c.sum-a.ensures, c.reg.ensures) (load_parts _ _ _ _ _ _ _ _ _)) (c.load_at.ensures rest)
