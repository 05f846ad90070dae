-- Two memories that are alike where an access can reach give one effect, along the cases of the step's definition.
-- Assumes nothing.
use Rattle.std.specs.Prelude.{Ok, Err}
use mathlib.Core.Bool.{Bool, true, ◌&&◌}
use mathlib.Core.List.{List}
use mathlib.Core.Path.{◌≡◌, refl, ap}
use Prim.Native.Nat.{ℕ}
use lib.ListN.{length}
use Rattle.word.specs.Choice.{pick}
use Rattle.word.specs.Sum.{sum_of}
use Rattle.decode.specs.Decode.{decode_of}
use Rattle.isa.specs.Size.{size_of, width_of}
use Rattle.isa.specs.declared.Access.{Access}
use Rattle.isa.specs.declared.Access.TheVariants as access
use Rattle.isa.specs.declared.Instruction.{Instruction}
use Rattle.isa.specs.declared.Instruction.TheVariants.{Illegal, Lui, Auipc, Jal, Jalr, Branch, Memory, OpImm, OpImm32, Op, Op32, Fence, Ecall}
use Rattle.isa.specs.declared.Instruction.TheVariants.{Ebreak, Sret, Mret, Csr, ReadSsp, MopR, MopRr}
use Rattle.isa.specs.declared.Width.{Width}
use Rattle.isa.specs.declared.Width.TheVariants as width
use Rattle.memory.specs.Extend.{extend_of}
use Rattle.isa.specs.declared.Kind.{Kind}
use Rattle.isa.specs.declared.Kind.TheVariants as kind
use Rattle.address.specs.Kind.{kind_of}
use Rattle.address.specs.declared.control.Control.{Control}
use Rattle.address_place.specs.Place.{place_of, PlaceOrFault}
use Rattle.address_place.specs.declared.Physical.{Physical}
use Rattle.step_effect.specs.Register.{reg_of}
use Rattle.step_effect.specs.declared.Effect.{Effect}
use Rattle.step_effect.specs.declared.Effect.TheVariants.{Write, Pad, Swap, Trap}
use Rattle.csr_setting.specs.declared.Setting.{Setting}
use Rattle.step_transfer.specs.Access.{gate_of_instruction, address_of, read_of, popped_of, done_of, at_of, passed_of, access_of}
use Rattle.step_transfer.specs.declared.access.Gate.{Gate}
use Rattle.step_transfer.specs.declared.access.Gate.TheVariants as gate
use Rattle.step_meaning.specs.Instruction.{next_of, execute_of}
use Rattle.step_meaning.specs.Plan.{word_at, fetched_of, is_pad_of, landed_of, arrived_of, effect_of, Fetched}
use Rattle.step_meaning.specs.declared.Source.{Source}
use Rattle.step_meaning.specs.declared.Source.TheVariants.{Fetch, Given}
use Rattle.theorem_isolation.specs.Unseen.{Alike}
use Rattle.theorem_isolation.proofs.Bytes.{load_alike}
use Rattle.theorem_isolation.proofs.Frames.{Covers, same_place}

module _ (Of : (o : ℕ) → Type 0) (s : Setting) (map m n : List ℕ) (A : Alike Of m n) (C : Covers s.control map Of) where
  abbrev c : Control
  c = s.control

  -- at a place that an access was given, both hold the same
  read_alike : (k : Kind) (w : Width) (a : ℕ) (q : Physical) → place_of c k w a map (length m) ≡ Ok q → read_of m q w ≡ read_of n q w
  read_alike k w a q e = load_alike Of m n _ (size_of w) A (C (length m) k w a q e)

  done_twin : (k : Access) (q : Physical) (at rd a b ssp next : ℕ) → place_of c (kind_of k) (width_of k) at map (length m) ≡ Ok q
      → done_of k q rd a b ssp next m ≡ done_of k q rd a b ssp next n
  unfolding done_of
  done_twin (access.Load w sign) q at rd a b ssp next e =
      ap (λ (v : ℕ). Write rd (extend_of w sign v) next) (read_alike kind.Load w at q e)
  done_twin (access.Store w) q at rd a b ssp next e = refl
  done_twin access.Push q at rd a b ssp next e = refl
  done_twin access.Pop q at rd a b ssp next e = ap (λ (v : ℕ). popped_of v a ssp next) (read_alike kind.Pop width.Double at q e)
  done_twin (access.Swap w aq rl) q at rd a b ssp next e =
      ap (λ (v : ℕ). Swap rd (extend_of w true v) q w b next) (read_alike kind.Swap w at q e)

  at_twin : (k : Access) (p : PlaceOrFault) (at rd a b ssp next : ℕ) → place_of c (kind_of k) (width_of k) at map (length m) ≡ p
      → at_of k p rd a b ssp next m ≡ at_of k p rd a b ssp next n
  unfolding at_of
  at_twin k (Ok q) at rd a b ssp next e = done_twin k q at rd a b ssp next e
  at_twin k (Err fault) at rd a b ssp next e = refl

  passed_twin : (g : Gate) (k : Access) (word rd a b off ssp next : ℕ)
      → passed_of g k word rd a b off ssp next s m map ≡ passed_of g k word rd a b off ssp next s n map
  unfolding passed_of
  passed_twin gate.Open k word rd a b off ssp next =
      let at : ℕ = address_of k (sum_of a off) ssp in
      rw (← same_place Of m n A c (kind_of k) (width_of k) at map) (at_twin k _ at rd a b ssp next refl)
  passed_twin gate.Off k word rd a b off ssp next = refl
  passed_twin gate.Illegal k word rd a b off ssp next = refl

  module _ (x : List ℕ) (pc ssp word : ℕ) where
    execute_twin : (i : Instruction) → execute_of i word x pc ssp s m map ≡ execute_of i word x pc ssp s n map
    unfolding execute_of access_of
    execute_twin Illegal = refl
    execute_twin (Lui rd v) = refl
    execute_twin (Auipc rd v) = refl
    execute_twin (Jal rd off) = refl
    execute_twin (Jalr rd rs1 off) = refl
    execute_twin (Branch k rs1 rs2 off) = refl
    execute_twin (Memory k rd rs1 rs2 off) =
        passed_twin (gate_of_instruction k s.shadow s.permitted) k word rd (reg_of x rs1) (reg_of x rs2) off ssp (next_of pc)
    execute_twin (OpImm o rd rs1 v) = refl
    execute_twin (OpImm32 o rd rs1 v) = refl
    execute_twin (Op o rd rs1 rs2) = refl
    execute_twin (Op32 o rd rs1 rs2) = refl
    execute_twin (Fence fm pred succ rs1 rd) = refl
    execute_twin Ecall = refl
    execute_twin Ebreak = refl
    execute_twin Sret = refl
    execute_twin Mret = refl
    execute_twin (Csr o from rd address) = refl
    execute_twin (ReadSsp rd) = refl
    execute_twin (MopR n rd rs1) = refl
    execute_twin (MopRr n rd rs1 rs2) = refl

  module _ (x : List ℕ) (pc : ℕ) (elp : Bool) (ssp : ℕ) where
    landed_twin : (w : ℕ) → landed_of w x pc elp ssp s m map ≡ landed_of w x pc elp ssp s n map
    unfolding landed_of
    landed_twin w =
        ap (λ (e : Effect). pick (elp && s.pad) (pick (is_pad_of w (reg_of x 7)) (Pad (next_of pc)) (Trap 18 2)) e)
        (execute_twin x pc ssp w (decode_of w))

    arrived_twin : (f : Fetched) → arrived_of f x pc elp ssp s m map ≡ arrived_of f x pc elp ssp s n map
    unfolding arrived_of
    arrived_twin (Ok w) = landed_twin w
    arrived_twin (Err fault) = refl

    word_alike : (p : PlaceOrFault) → place_of c kind.Fetch width.Word pc map (length m) ≡ p → word_at p m ≡ word_at p n
    word_alike (Ok q) e = ap (λ (v : ℕ). Ok v) (read_alike kind.Fetch width.Word pc q e)
    word_alike (Err fault) e = refl

    fetched_alike : (source : Source) → fetched_of source c pc m map ≡ fetched_of source c pc n map
    unfolding fetched_of
    fetched_alike Fetch = rw (← same_place Of m n A c kind.Fetch width.Word pc map) (word_alike _ refl)
    fetched_alike (Given w) = refl

    -- of a step
    pub effect_twin : (source : Source) → effect_of source x pc elp ssp s m map ≡ effect_of source x pc elp ssp s n map
    unfolding effect_of
    effect_twin source = rw (← fetched_alike source) (arrived_twin (fetched_of source c pc m map))
