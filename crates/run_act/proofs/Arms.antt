-- A form's arm: what its functions ensure says what the form does. One law an ending.
-- Assumes nothing.
--
-- Below, a and r are the values of the two registers, v the form's number, P what is known of the pages besides.
use Rattle.std.specs.Prelude.{Option, Some, None, Ok, Err}
use mathlib.Core.Bool.{Bool, true, false}
use mathlib.Core.List.{List}
use mathlib.Core.Path.{◌≡◌, refl, ap}
use Prim.Native.Nat.{ℕ, ◌%◌}
use lib.Dec.{eqb}
use lib.ListN.{length, get_or}
use Rattle.word.specs.Choice.{pick}
use Rattle.word.specs.Sum.{sum_of}
use Rattle.isa.specs.declared.Access.TheVariants as access
use Rattle.isa.specs.declared.Condition.{Condition}
use Rattle.isa.specs.declared.Kind.TheVariants as kind
use Rattle.isa.specs.declared.Operation.{Operation}
use Rattle.isa.specs.declared.Width.{Width}
use Rattle.isa.specs.declared.Width.TheVariants.{Double}
use Rattle.isa.specs.declared.WordOperation.{WordOperation}
use Rattle.address.specs.Stack.{push_of}
use Rattle.address.specs.declared.control.Control.{Control}
use Rattle.address_place.specs.Place.{place_of, PlaceOrFault}
use Rattle.step_effect.specs.Compute.{operation_of, word_operation_of, condition_of}
use Rattle.step_effect.specs.Jump.{jal_of, jalr_of, branch_of, even_of}
use Rattle.step_effect.specs.Register.{put_of}
use Rattle.step_effect.specs.declared.Effect.TheVariants.{Write, Jump, Trap}
use Rattle.step_transfer.specs.Access.{at_of, done_of}
use Rattle.step_meaning.specs.Instruction.{next_of}
use Rattle.run_done.proofs.Parts.{load_parts, store_parts}
use Rattle.run_form.specs.Form.{Shape, Compute, ComputeWord, Jal, Jalr, Branch, Memory, ReadSsp, shape_of, shape_does, does_of}
use Rattle.run_form.specs.declared.Op.{Op}
use Rattle.run_act.specs.Act.{Acts}
use Rattle.run_act.specs.declared.Acted.{Acted}
use Rattle.run_act.proofs.Ways.{wrote_does, does_as}

push_parts : (p : PlaceOrFault) (rd a b ssp next : ℕ) (m : List ℕ) → at_of access.Push p rd a b ssp next m ≡ at_of access.Push p 0 0 b ssp next m
unfolding at_of done_of
push_parts (Ok q) rd a b ssp next m = refl
push_parts (Err fault) rd a b ssp next m = refl

pop_parts : (p : PlaceOrFault) (rd a b ssp next : ℕ) (m : List ℕ) → at_of access.Pop p rd a b ssp next m ≡ at_of access.Pop p 0 a 0 ssp next m
unfolding at_of done_of
pop_parts (Ok q) rd a b ssp next m = refl
pop_parts (Err fault) rd a b ssp next m = refl

-- what JALR says where no landing pad is expected is what JAL says
padless : (t : Option Acted) (aligned : Bool) (rd link to cause tval : ℕ) (x w m x' : List ℕ)
    → Acts t (pick aligned (Write rd link to) (Trap cause tval)) x w m x' w m
    → Acts t (pick aligned (Jump rd link to false) (Trap cause tval)) x w m x' w m
padless (Some t) true rd link to cause tval x w m x' h = ((refl, h.0.0, h.0.1, h.0.2, h.0.3), h.1)
padless (Some t) false rd link to cause tval x w m x' h = h
padless None aligned rd link to cause tval x w m x' h = h

jalr_does : (t : Option Acted) (rd link target : ℕ) (x w m x' : List ℕ) → Acts t (jal_of rd link (even_of target)) x w m x' w m
    → Acts t (jalr_of rd 0 link target false) x w m x' w m
unfolding jal_of jalr_of
jalr_does t rd link target x w m x' h = padless t (eqb (even_of target % 4) 0) rd link (even_of target) _ (even_of target) x w m x' h

-- what a form is carried out on: its operation and numbers, the setting, registers, words, memory and map
pub record Case : Type 0 where
  pub op : Op
  pub rd : ℕ
  pub a : ℕ
  pub r : ℕ
  pub v : ℕ
  pub pc : ℕ
  pub ssp : ℕ
  pub control : Control
  pub x : List ℕ
  pub w : List ℕ
  pub m : List ℕ
  pub map : List ℕ

module _ (q : Case) (P : Type 0) where
  abbrev o : Op
  o = q.op

  abbrev rd : ℕ
  rd = q.rd

  abbrev a : ℕ
  a = q.a

  abbrev r : ℕ
  r = q.r

  abbrev v : ℕ
  v = q.v

  abbrev pc : ℕ
  pc = q.pc

  abbrev ssp : ℕ
  ssp = q.ssp

  abbrev c : Control
  c = q.control

  abbrev x : List ℕ
  x = q.x

  abbrev w : List ℕ
  w = q.w

  abbrev m : List ℕ
  m = q.m

  abbrev map : List ℕ
  map = q.map

  abbrev pub Arm : (t : Option Acted) (x' w' m' : List ℕ) → Type 0
  Arm t x' w' m' = Acts t (does_of o rd a r v pc ssp c m map) x w m x' w' m' × P

  shaped : (s : Shape) → shape_of o ≡ s → does_of o rd a r v pc ssp c m map ≡ shape_does s rd a r v pc ssp c m map
  unfolding does_of
  shaped s h = ap (λ (z : Shape). shape_does z rd a r v pc ssp c m map) h

  abbrev does : (s : Shape) (t : Option Acted) (x' w' m' : List ℕ) → Type 0
  does s t x' w' m' = Acts t (shape_does s rd a r v pc ssp c m map) x w m x' w' m'

  told : (s : Shape) → shape_of o ≡ s → (t : Option Acted) (x' w' m' : List ℕ) → does s t x' w' m' → P → Arm t x' w' m'
  told s h t x' w' m' d p = (does_as t _ (shape_does s rd a r v pc ssp c m map) x w m x' w' m' (shaped s h) d, p)

  -- rd takes a value
  module _ (u : ℕ) (t : Option Acted) (x' : List ℕ) (h : (t ≡ Some (record { pc = next_of pc; stored = None })) × (x' ≡ put_of rd u x)) (p : P) where
    written : (s : Shape) → shape_of o ≡ s → shape_does s rd a r v pc ssp c m map ≡ Write rd u (next_of pc) → Arm t x' w m
    written s f e = told s f t x' w m (wrote_does t rd u (next_of pc) x x' h _ e w m) p

    pub compute_arm : (k : Operation) → shape_of o ≡ Compute k → (b : ℕ) → b ≡ sum_of r v → u ≡ operation_of k a b → Arm t x' w m
    compute_arm k f b e g = written (Compute k) f (rw (g, e))

    pub word_arm : (k : WordOperation) → shape_of o ≡ ComputeWord k → (b : ℕ) → b ≡ sum_of r v → u ≡ word_operation_of k a b → Arm t x' w m
    word_arm k f b e g = written (ComputeWord k) f (rw (g, e))

    pub ssp_arm : shape_of o ≡ ReadSsp → u ≡ ssp → Arm t x' w m
    ssp_arm f e = written ReadSsp f (rw e)

  -- pc goes to a target, or on
  module _ (t : Option Acted) (x' : List ℕ) (p : P) where
    pub jal_arm : (link : ℕ) → ((w m : List ℕ) → Acts t (jal_of rd link v) x w m x' w m)
        → shape_of o ≡ Jal → link ≡ next_of pc → Arm t x' w m
    jal_arm link h f e = told Jal f t x' w m (rw (← e) (h w m)) p

    pub jalr_arm : (link to : ℕ) → ((w m : List ℕ) → Acts t (jal_of rd link to) x w m x' w m)
        → shape_of o ≡ Jalr → link ≡ next_of pc → to ≡ even_of (sum_of a v) → Arm t x' w m
    jalr_arm link to h f e g =
        told Jalr f t x' w m (jalr_does t rd (next_of pc) (sum_of a v) x w m x' (rw (← e, ← g) (h w m))) p

  pub branch_arm : (t : Option Acted) → P → get_or x 0 0 ≡ 0 → (b : Bool)
      → ((x w m : List ℕ) → get_or x 0 0 ≡ 0 → Acts t (branch_of b (next_of pc) v) x w m x w m)
      → (k : Condition) → shape_of o ≡ Branch k → b ≡ condition_of k a r → Arm t x w m
  branch_arm t p z b h k f e = told (Branch k) f t x w m (rw (← e) (h x w m z)) p

  -- an access
  module _ (t : Option Acted) where
    pub load_arm : (n : Width) (sign : Bool) (x' : List ℕ)
        → ((w : List ℕ) → Acts t (at_of (access.Load n sign) (place_of c kind.Load n (sum_of a v) map (length m)) rd 0 0 0 (next_of pc) m) x w m x' w m) × P
        → shape_of o ≡ Memory (access.Load n sign) → Arm t x' w m
    load_arm n sign x' h f =
        told (Memory (access.Load n sign)) f t x' w m (does_as t _ _ x w m x' w m (load_parts n sign _ rd a r ssp (next_of pc) m) (h.0 w)) h.1

    pub store_arm : (n : Width) (m' : List ℕ)
        → ((x w : List ℕ) → Acts t (at_of (access.Store n) (place_of c kind.Store n (sum_of a v) map (length m)) 0 0 r 0 (next_of pc) m) x w m x w m') × P
        → shape_of o ≡ Memory (access.Store n) → Arm t x w m'
    store_arm n m' h f =
        told (Memory (access.Store n)) f t x w m' (does_as t _ _ x w m x w m' (store_parts n _ rd a r ssp (next_of pc) m) (h.0 x w)) h.1

    pub push_arm : (w' m' : List ℕ)
        → ((x : List ℕ) → Acts t (at_of access.Push (place_of c kind.Push Double (push_of ssp) map (length m)) 0 0 r ssp (next_of pc) m) x w m x w' m') × P
        → shape_of o ≡ Memory access.Push → Arm t x w' m'
    push_arm w' m' h f =
        told (Memory access.Push) f t x w' m' (does_as t _ _ x w m x w' m' (push_parts _ rd a r ssp (next_of pc) m) (h.0 x)) h.1

    pub pop_arm : (w' : List ℕ)
        → ((x : List ℕ) → Acts t (at_of access.Pop (place_of c kind.Pop Double ssp map (length m)) 0 a 0 ssp (next_of pc) m) x w m x w' m) × P
        → shape_of o ≡ Memory access.Pop → Arm t x w' m
    pop_arm w' h f =
        told (Memory access.Pop) f t x w' m (does_as t _ _ x w m x w' m (pop_parts _ rd a r ssp (next_of pc) m) (h.0 x)) h.1
