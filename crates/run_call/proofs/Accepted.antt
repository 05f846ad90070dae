-- What follows where no refusal applies.
-- Assumes nothing.
use mathlib.Core.Bool.{Bool, true, false, not}
use mathlib.Core.List.{List}
use mathlib.Core.Path.{◌≡◌, refl}
use Prim.Native.Nat.{ℕ, ◌^◌, ◌≤◌}
use lib.Dec.{ltb}
use lib.ListN.{length}
use Rattle.std.specs.Prelude.{Option, Some, None}
use Rattle.word.specs.Choice.{pick}
use Rattle.memory.specs.Refusal as memory
use Rattle.memory.proofs.Accepted.{accepted}
use Rattle.address_page.specs.Map as page
use Rattle.step_hart.specs.Hart.{legal}
use Rattle.step_hart.specs.declared.Hart.{Hart}
use Rattle.run_call.specs.Call.{refusal_of, or_over, run_refusal_of}
use Rattle.run_call.specs.declared.Refusal.{Refusal}
use Rattle.run_call.specs.declared.Refusal.TheVariants as refusal

none : (a b c : Bool) → pick a (Some refusal.Hart) (pick b (Some refusal.Memory) (pick c (Some refusal.Map) None)) ≡ None
    → (a ≡ false) × (b ≡ false) × (c ≡ false)
none true b c e = cc
none false true c e = cc
none false false true e = cc
none false false false e = (refl, refl, refl)

-- refusals 1 to 3 do not apply
pub no_refusal : (h : Hart) (m map : List ℕ) → refusal_of h m map ≡ None
    → (not (legal h) ≡ false) × (memory.memory_refused_of (length m) ≡ false) × (page.map_refused_of map ≡ false)
unfolding refusal_of
no_refusal h m map e = none (not (legal h)) (memory.memory_refused_of (length m)) (page.map_refused_of map) e

-- so memory has at most 2 ^ 20 bytes
pub small : (h : Hart) (m map : List ℕ) → refusal_of h m map ≡ None → length m ≤ 2 ^ 20
small h m map e = (accepted (length m) (no_refusal h m map e).1).2

run_none : (n : Option Refusal) (over : Bool) → or_over n over ≡ None → n ≡ None
run_none None over e = refl
run_none (Some n) over e = e

-- a run that no refusal applies to is one that refusals 1 to 3 do not apply to
pub run_no_refusal : (budget : ℕ) (h : Hart) (m map : List ℕ) → run_refusal_of budget h m map ≡ None → refusal_of h m map ≡ None
unfolding run_refusal_of
run_no_refusal budget h m map e = run_none (refusal_of h m map) (ltb 1000000 budget) e
