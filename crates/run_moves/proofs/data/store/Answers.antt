-- `run_moves::data::store` meets its contract: the access of a store. Assumes nothing.
use Rattle.decode_base.specs.Base.{decode_store_of}
use Rattle.step_transfer.specs.Access.{access_of, passed_of}
use Rattle.step_meaning.specs.Instruction.{execute_of}
use Rattle.run_done.proofs.Ways.{read, does_as}
use Rattle.run_done.proofs.Parts.{store_parts}
use Rattle.run_moves.proofs.data.store.Goals as goal

pub returns : goal.returns
unfolding execute_of access_of passed_of
returns c =
    let i = c.in-Memory-Store-default-default-default-default in
    let told = read decode_store_of c.split.ensures c.imm_s.ensures c.store.ensures i.is in
    λ ssp rest. does_as c.store_at.result _ _ _ rest _ _ rest _ (rw (
      told,
      i.field-0-is,
      c.reg-2.ensures,
      c.sum-a.ensures,
      c.reg.ensures,
    ) (store_parts _ _ _ _ _ _ _ _)) (c.store_at.ensures _ rest)
