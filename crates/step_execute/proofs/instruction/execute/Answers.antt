-- `step_execute::instruction::execute` meets its contract: an instruction an arm. Assumes nothing.
use Rattle.step_meaning.specs.Instruction.{execute_of}
use Rattle.step_execute.proofs.instruction.execute.Goals as goal

pub returns-in-Illegal : goal.returns-in-Illegal
unfolding execute_of
returns-in-Illegal c = rw (c.illegal.ensures, c.in-Illegal.is)

pub returns-in-Lui : goal.returns-in-Lui
unfolding execute_of
returns-in-Lui c = rw (c.in-Lui.is, c.sum-next.ensures)

pub returns-in-Auipc : goal.returns-in-Auipc
unfolding execute_of
returns-in-Auipc c = rw (c.sum.ensures, c.in-Auipc.is, c.sum-next.ensures)

pub returns-in-Jal : goal.returns-in-Jal
unfolding execute_of
returns-in-Jal c =
    rw (c.jal.ensures, c.sum-in-Jal.ensures, c.in-Jal.is, c.sum-next.ensures)

pub returns-in-Jalr : goal.returns-in-Jalr
unfolding execute_of
returns-in-Jalr c =
    rw (c.jalr.ensures, c.reg.ensures, c.in-Jalr.is, c.sum-next.ensures)

pub returns-in-Branch : goal.returns-in-Branch
unfolding execute_of
returns-in-Branch c =
    rw (c.branch-k.ensures, c.reg-in-Branch-2.ensures, c.reg-in-Branch.ensures, c.in-Branch.is, c.sum-next.ensures)

pub returns-in-Memory : goal.returns-in-Memory
unfolding execute_of
returns-in-Memory c =
    rw (c.access.ensures, c.reg-in-Memory-2.ensures, c.reg-in-Memory.ensures, c.in-Memory.is, c.sum-next.ensures)

pub returns-in-OpImm : goal.returns-in-OpImm
unfolding execute_of
returns-in-OpImm c =
    rw (c.op.ensures, c.reg-in-OpImm.ensures, c.in-OpImm.is, c.sum-next.ensures)

pub returns-in-OpImm32 : goal.returns-in-OpImm32
unfolding execute_of
returns-in-OpImm32 c =
    rw (c.op_32.ensures, c.reg-in-OpImm32.ensures, c.in-OpImm32.is, c.sum-next.ensures)

pub returns-in-Op : goal.returns-in-Op
unfolding execute_of
returns-in-Op c =
    rw (c.op-in-Op.ensures, c.reg-in-Op-2.ensures, c.reg-in-Op.ensures, c.in-Op.is, c.sum-next.ensures)

pub returns-in-Op32 : goal.returns-in-Op32
unfolding execute_of
returns-in-Op32 c =
    rw (c.op_32-in-Op32.ensures, c.reg-in-Op32-2.ensures, c.reg-in-Op32.ensures, c.in-Op32.is, c.sum-next.ensures)

pub returns-in-Fence : goal.returns-in-Fence
unfolding execute_of
returns-in-Fence c = rw (c.in-Fence.is, c.sum-next.ensures)

pub returns-in-Ecall : goal.returns-in-Ecall
unfolding execute_of
returns-in-Ecall c = rw (c.ecall.ensures, c.in-Ecall.is)

pub returns-in-Ebreak : goal.returns-in-Ebreak
unfolding execute_of
returns-in-Ebreak c = rw (c.ebreak.ensures, c.in-Ebreak.is)

pub returns-in-Sret : goal.returns-in-Sret
unfolding execute_of
returns-in-Sret c = rw (c.sret.ensures, c.in-Sret.is)

pub returns-in-Mret : goal.returns-in-Mret
unfolding execute_of
returns-in-Mret c = rw (c.mret.ensures, c.in-Mret.is)

pub returns-in-Csr : goal.returns-in-Csr
unfolding execute_of
returns-in-Csr c = rw (c.csr.ensures, c.in-Csr.is, c.sum-next.ensures)

pub returns-in-ReadSsp : goal.returns-in-ReadSsp
unfolding execute_of
returns-in-ReadSsp c = rw (c.shown.ensures, c.in-ReadSsp.is, c.sum-next.ensures)

pub returns-in-MopR : goal.returns-in-MopR
unfolding execute_of
returns-in-MopR c = rw (c.in-MopR.is, c.sum-next.ensures)

pub returns-in-MopRr : goal.returns-in-MopRr
unfolding execute_of
returns-in-MopRr c = rw (c.in-MopRr.is, c.sum-next.ensures)
