-- What the effect of an access is made from: not every operand counts for every access, and so the functions that make the accesses
-- take only those that do. Where one does not count, it is written 0.
-- Assumes nothing.
use Rattle.std.specs.Prelude.{Ok, Err}
use mathlib.Core.Bool.{Bool, true}
use mathlib.Core.List.{List}
use mathlib.Core.Path.{◌≡◌, refl, ap, ◌∙◌}
use Prim.Native.Nat.{ℕ}
use lib.ListN.{length}
use Rattle.word.proofs.Choices.{first}
use Rattle.isa.specs.declared.Access.TheVariants.{Load, Store, Push, Pop}
use Rattle.isa.specs.declared.Instruction.TheVariants.{Memory}
use Rattle.isa.specs.declared.Width.{Width}
use Rattle.isa.specs.declared.Width.TheVariants.{Double}
use Rattle.isa.specs.declared.Kind.TheVariants as kind
use Rattle.address.specs.Stack.{push_of}
use Rattle.address_place.specs.Place.{place_of, PlaceOrFault}
use Rattle.step_transfer.specs.Access.{done_of, at_of, passed_of, access_of}
use Rattle.step_transfer.specs.declared.access.Gate.{Gate}
use Rattle.step_transfer.specs.declared.access.Gate.TheVariants.{Open, Off}
use Rattle.step_effect.specs.Register.{reg_of}
use Rattle.csr_setting.specs.declared.Setting.{Setting}
use Rattle.step_meaning.specs.Instruction.{next_of, execute_of}

-- a load: its register
pub load_parts : (n : Width) (sign : Bool) (p : PlaceOrFault) (rd a b ssp next : ℕ) (m : List ℕ)
    → at_of (Load n sign) p rd a b ssp next m ≡ at_of (Load n sign) p rd 0 0 0 next m
unfolding at_of done_of
load_parts n sign (Ok q) rd a b ssp next m = refl
load_parts n sign (Err fault) rd a b ssp next m = refl

-- a store: the value of rs2
pub store_parts : (n : Width) (p : PlaceOrFault) (rd a b ssp next : ℕ) (m : List ℕ)
    → at_of (Store n) p rd a b ssp next m ≡ at_of (Store n) p 0 0 b 0 next m
unfolding at_of done_of
store_parts n (Ok q) rd a b ssp next m = refl
store_parts n (Err fault) rd a b ssp next m = refl

-- a push: the value of rs2, and ssp
push_parts : (p : PlaceOrFault) (rd a b ssp next : ℕ) (m : List ℕ) → at_of Push p rd a b ssp next m ≡ at_of Push p 0 0 b ssp next m
unfolding at_of done_of
push_parts (Ok q) rd a b ssp next m = refl
push_parts (Err fault) rd a b ssp next m = refl

-- a pop-check: the value of rs1, and ssp
pop_parts : (p : PlaceOrFault) (rd a b ssp next : ℕ) (m : List ℕ) → at_of Pop p rd a b ssp next m ≡ at_of Pop p 0 a 0 ssp next m
unfolding at_of done_of
pop_parts (Ok q) rd a b ssp next m = refl
pop_parts (Err fault) rd a b ssp next m = refl

-- while the active shadow enable is set, a push and a pop-check make their accesses
module _ (word : ℕ) (x : List ℕ) (pc ssp : ℕ) (s : Setting) (m map : List ℕ) (on : s.shadow ≡ true) (r : ℕ) where
  pub push_on : execute_of (Memory Push 0 0 r 0) word x pc ssp s m map
      ≡ at_of Push (place_of s.control kind.Push Double (push_of ssp) map (length m)) 0 0 (reg_of x r) ssp (next_of pc) m
  unfolding execute_of access_of passed_of
  push_on =
      ap (λ (g : Gate). passed_of g Push word 0 (reg_of x 0) (reg_of x r) 0 ssp (next_of pc) s m map) (first s.shadow Open Off on)
      ∙ push_parts (place_of s.control kind.Push Double (push_of ssp) map (length m)) 0 (reg_of x 0) (reg_of x r) ssp (next_of pc) m

  pub pop_on : execute_of (Memory Pop 0 r 0 0) word x pc ssp s m map
      ≡ at_of Pop (place_of s.control kind.Pop Double ssp map (length m)) 0 (reg_of x r) 0 ssp (next_of pc) m
  unfolding execute_of access_of passed_of
  pop_on =
      ap (λ (g : Gate). passed_of g Pop word 0 (reg_of x r) (reg_of x 0) 0 ssp (next_of pc) s m map) (first s.shadow Open Off on)
      ∙ pop_parts (place_of s.control kind.Pop Double ssp map (length m)) 0 (reg_of x r) (reg_of x 0) ssp (next_of pc) m
