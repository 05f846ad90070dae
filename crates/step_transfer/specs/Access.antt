-- Loads, stores and the shadow stack. `access_of` is the whole: whether the instruction is on and legal, then its place, and
-- then what it does there. Rules 4.21, 4.22 and 8.2 to 8.8 of docs/HART.md.
--
-- Below, a and b are the values of rs1 and rs2, next is the address of the next instruction, s what the hart's mode and CSRs
-- say, m memory.
use Rattle.std.specs.Prelude.{Bool, true, List, ℕ, ◌-◌, eqb, length, Ok, Err}
use Rattle.word.specs.Choice.{pick}
use Rattle.word.specs.Sum.{sum_of, difference_of}
use Rattle.isa.specs.Size.{size_of, width_of}
use Rattle.isa.specs.declared.Access.{Access}
use Rattle.isa.specs.declared.Access.TheVariants as access
use Rattle.isa.specs.declared.Width.{Width}
use Rattle.isa.specs.declared.Width.TheVariants.{Double}
use Rattle.memory.specs.Bytes.{load_of}
use Rattle.memory.specs.Extend.{extend_of}
use Rattle.address.specs.Kind.{kind_of}
use Rattle.address_place.specs.Place.{base, place_of, PlaceOrFault}
use Rattle.address.specs.Stack.{push_of}
use Rattle.address_place.specs.declared.Physical.{Physical}
use Rattle.csr_access.specs.Exception.{illegal_of}
use Rattle.step_effect.specs.System.{trap_with}
use Rattle.csr_setting.specs.declared.Setting.{Setting}
use Rattle.step_effect.specs.declared.Effect.{Effect}
use Rattle.step_effect.specs.declared.Effect.TheVariants.{Write, Store, Push, Pop, Swap, Trap}
use Rattle.step_transfer.specs.declared.access.Gate.{Gate}
use Rattle.step_transfer.specs.declared.access.Gate.TheVariants.{Open, Off, Illegal}

-- push and pop-check are Zimop words: off, they write 0 to rd
abbrev pub zimop_gate : (shadow : Bool) → Gate
zimop_gate shadow = pick shadow Open Off

-- swap: illegal below M without menvcfg.SSE, and in U without senvcfg.SSE
abbrev pub swap_gate : (permitted : Bool) → Gate
swap_gate permitted = pick permitted Open Illegal

abbrev pub gate_of_instruction : Access → (shadow permitted : Bool) → Gate
gate_of_instruction (access.Load w sign) shadow permitted = Open
gate_of_instruction (access.Store w) shadow permitted = Open
gate_of_instruction access.Push shadow permitted = zimop_gate shadow
gate_of_instruction access.Pop shadow permitted = zimop_gate shadow
gate_of_instruction (access.Swap w aq rl) shadow permitted = swap_gate permitted

-- the address of an access, where at is rs1 with the offset added: a push goes to ssp − 8, a pop-check to ssp
abbrev pub address_of : Access → (at ssp : ℕ) → ℕ
address_of (access.Load w sign) at ssp = at
address_of (access.Store w) at ssp = at
address_of access.Push at ssp = push_of ssp
address_of access.Pop at ssp = ssp
address_of (access.Swap w aq rl) at ssp = at

-- the bytes of a width at a physical address, as a number
abbrev pub read_of : (m : List ℕ) → Physical → Width → ℕ
read_of m q w = load_of m (q.0 - base) (size_of w)

-- a pop-check that found top where the register has v: unequal is cause 18, tval 3, ssp unchanged; equal raises ssp by 8
unfoldable pub popped_of : (top v ssp next : ℕ) → Effect
popped_of top v ssp next = pick (eqb top v) (Pop (sum_of ssp 8) next) (Trap 18 3)

-- at a place that was given: a load's register takes the bytes; a push stores and lets ssp fall by 8; a swap's register takes
-- the old bytes, and the .w form sign-extends them
unfoldable pub done_of : Access → Physical → (rd a b ssp next : ℕ) → (m : List ℕ) → Effect
done_of (access.Load w sign) q rd a b ssp next m = Write rd (extend_of w sign (read_of m q w)) next
done_of (access.Store w) q rd a b ssp next m = Store q w b next
done_of access.Push q rd a b ssp next m = Push q b (difference_of ssp 8) next
done_of access.Pop q rd a b ssp next m = popped_of (read_of m q Double) a ssp next
done_of (access.Swap w aq rl) q rd a b ssp next m = Swap rd (extend_of w true (read_of m q w)) q w b next

-- a fault is the instruction's exception, and changes nothing else
unfoldable pub at_of : Access → PlaceOrFault → (rd a b ssp next : ℕ) → (m : List ℕ) → Effect
at_of k (Ok q) rd a b ssp next m = done_of k q rd a b ssp next m
at_of k (Err fault) rd a b ssp next m = Trap fault.cause fault.tval

unfoldable pub passed_of : Gate → Access → (word rd a b off ssp next : ℕ) → Setting → (m map : List ℕ) → Effect
passed_of Open k word rd a b off ssp next s m map =
    at_of k (place_of s.control (kind_of k) (width_of k) (address_of k (sum_of a off) ssp) map (length m)) rd a b ssp next m
passed_of Off k word rd a b off ssp next s m map = Write rd 0 next
passed_of Illegal k word rd a b off ssp next s m map = trap_with (illegal_of word)

unfoldable pub access_of : Access → (word rd a b off ssp next : ℕ) → Setting → (m map : List ℕ) → Effect
access_of k word rd a b off ssp next s m map =
    passed_of (gate_of_instruction k s.shadow s.permitted) k word rd a b off ssp next s m map
