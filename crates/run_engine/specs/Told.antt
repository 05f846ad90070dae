-- A run as the code tells it.
use Rattle.step_hart.specs.Run.{Run}
use Rattle.step_hart.specs.Step.{trap_told}
use Rattle.run_engine.specs.declared.run.Ran.{Ran}
use Rattle.run_engine.specs.declared.run.Told.{Told}

-- its numbers, beside the hart and memory
abbrev pub told_of : Run → Told
told_of r = record { count = r.count; trap = trap_told r.trapped r.cause }

-- a run of a hart by value, memory apart
abbrev pub ran_of : Run → Ran
ran_of r = record { hart = r.hart; count = r.count; trap = trap_told r.trapped r.cause }
