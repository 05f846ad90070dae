-- `run_form::shaped` meets its contract: an instruction an arm. Assumes nothing.
use mathlib.Core.Path.{sym, ◌∙◌}
use Rattle.run_form.proofs.Laws.{lui_means, auipc_means, mop_means, mop2_means, unread_means, fence_means, op_imm_means}
use Rattle.run_form.proofs.Laws.{branch_means, jalr_means}
use Rattle.run_form.proofs.Laws.{op_imm_32_means, op_means, op_32_means, jal_means, read_means}
use Rattle.run_form.proofs.shaped.Goals as goal

pub returns-in-Lui : goal.returns-in-Lui
returns-in-Lui c word s p q = lui_means word _ s c.make.ensures c.in-Lui.is

pub returns-in-Auipc : goal.returns-in-Auipc
returns-in-Auipc c word s p q = auipc_means word _ s c.make-in-Auipc.ensures c.in-Auipc.is c.sum.ensures

pub returns-in-Jal : goal.returns-in-Jal
returns-in-Jal c word s p q = jal_means word _ s c.make-in-Jal.ensures c.in-Jal.is c.sum-in-Jal.ensures

pub returns-in-Memory : goal.returns-in-Memory
returns-in-Memory c word s p q = rw c.in-Memory.is (c.access.ensures word _ s q)

pub returns-in-OpImm : goal.returns-in-OpImm
returns-in-OpImm c word s p q = op_imm_means word _ s c.make-in-OpImm.ensures c.in-OpImm.is c.operation.ensures

pub returns-in-OpImm32 : goal.returns-in-OpImm32
returns-in-OpImm32 c word s p q = op_imm_32_means word _ s c.make-in-OpImm32.ensures c.in-OpImm32.is c.word_operation.ensures

pub returns-in-Op : goal.returns-in-Op
returns-in-Op c word s p q = op_means word _ s c.make-in-Op.ensures c.in-Op.is c.operation-in-Op.ensures

pub returns-in-Op32 : goal.returns-in-Op32
returns-in-Op32 c word s p q = op_32_means word _ s c.make-in-Op32.ensures c.in-Op32.is c.word_operation-in-Op32.ensures

pub returns-in-Fence : goal.returns-in-Fence
returns-in-Fence c word s p q = fence_means word _ s c.zero.ensures c.in-Fence.is

pub returns-in-ReadSsp : goal.returns-in-ReadSsp
returns-in-ReadSsp c word s p q = read_means word _ s c.make-in-ReadSsp.ensures c.in-ReadSsp.is (q ∙ c.if-on.true)

pub returns-in-ReadSsp-2 : goal.returns-in-ReadSsp-2
returns-in-ReadSsp-2 c word s p q = unread_means word _ s c.zero-in-ReadSsp-2.ensures c.in-ReadSsp-2.is (q ∙ c.if-on.false)

pub returns-in-MopR : goal.returns-in-MopR
returns-in-MopR c word s p q = mop_means word _ s c.zero-in-MopR.ensures c.in-MopR.is

pub returns-in-MopRr : goal.returns-in-MopRr
returns-in-MopRr c word s p q = mop2_means word _ s c.zero-in-MopRr.ensures c.in-MopRr.is

pub returns-else-expected : goal.returns-else-expected
returns-else-expected c word s p q =
    let exempt = rw c.needs_no_pad.ensures at (sym c.expected.ensures ∙ c.if-expected.false) in
    jalr_means word _ s c.make-in-Jalr.ensures c.in-Jalr.is (rw p exempt)

pub returns-in-Branch : goal.returns-in-Branch
returns-in-Branch c word s p q =
    branch_means word _ s c.make-in-Branch.ensures c.in-Branch.is c.branch-k.ensures c.sum-in-Branch.ensures
