-- `apply::privileged` meets its contract. Assumes nothing.
use mathlib.Core.Path.{refl}
use mathlib.Core.Bool.{true≢false}
use Rattle.step_hart.specs.Step.{privileged_of}
use Rattle.step_hart.proofs.apply.privileged.Goals as goal

pub returns-in-Csr : goal.returns-in-Csr
unfolding privileged_of
returns-in-Csr c = rw c.in-Csr.is c.csr.ensures

pub returns-in-Mret : goal.returns-in-Mret
unfolding privileged_of
returns-in-Mret c = rw c.in-Mret.is record {
  registers = refl;
  words = c.mret.ensures;
  setting = λ z. absurd (true≢false z);
}

pub returns-in-Sret : goal.returns-in-Sret
unfolding privileged_of
returns-in-Sret c = rw c.in-Sret.is record {
  registers = refl;
  words = c.sret.ensures;
  setting = λ z. absurd (true≢false z);
}
