-- `run_quick::opcodes::word` meets its contract: a major opcode an arm, the rows of `opcodes`. Assumes nothing.
use mathlib.Core.Path.{refl}
use Rattle.decode.specs.Decode.{decode_of}
use Rattle.run_quick.proofs.opcodes.word.Goals as goal

pub returns-in-55 : goal.returns-in-55
unfolding decode_of
returns-in-55 c = rw c.in-55.is (c.lui.ensures _ _ _ _ _ _ refl)

pub returns-in-23 : goal.returns-in-23
unfolding decode_of
returns-in-23 c = rw c.in-23.is (c.auipc.ensures _ _ _ _ _ _ refl)

pub returns-in-111 : goal.returns-in-111
unfolding decode_of
returns-in-111 c = rw c.in-111.is (c.jal.ensures _ _ _ _ _ _ refl)

pub returns-in-103 : goal.returns-in-103
unfolding decode_of
returns-in-103 c = rw c.in-103.is (c.jalr.ensures _ _ _ _ _ refl)

pub returns-in-99 : goal.returns-in-99
unfolding decode_of
returns-in-99 c = rw c.in-99.is (c.branch-w.ensures _ _ _ _ _ _ refl)

pub returns-in-3 : goal.returns-in-3
unfolding decode_of
returns-in-3 c = rw c.in-3.is (c.load.ensures _ _)

pub returns-in-35 : goal.returns-in-35
unfolding decode_of
returns-in-35 c = rw c.in-35.is (c.store.ensures _ _)

pub returns-in-19 : goal.returns-in-19
unfolding decode_of
returns-in-19 c = rw c.in-19.is (c.op_imm.ensures _ _ _ _ _ _ refl)

pub returns-in-27 : goal.returns-in-27
unfolding decode_of
returns-in-27 c = rw c.in-27.is (c.op_imm_32.ensures _ _ _ _ _ _ refl)

pub returns-in-51 : goal.returns-in-51
unfolding decode_of
returns-in-51 c = rw c.in-51.is (c.op.ensures _ _ _ _ _ _ refl)

pub returns-in-59 : goal.returns-in-59
unfolding decode_of
returns-in-59 c = rw c.in-59.is (c.op_32.ensures _ _ _ _ _ _ refl)

pub returns-in-115 : goal.returns-in-115
unfolding decode_of
returns-in-115 c = rw c.in-115.is c.shadow.ensures
