-- What the forms of each kind mean: a law a kind, which the arms of the match cite.
-- Assumes nothing.
use mathlib.Core.Bool.{true, false, ◌&&◌, not}
use mathlib.Core.List.{List}
use mathlib.Core.Logic.{◌⊎◌, inl, inr}
use mathlib.Core.Path.{◌≡◌, refl, ap, ◌∙◌}
use Prim.Native.Nat.{ℕ, ◌^◌, ◌<◌}
use native.Mathlib.Omega.{arith}
use Rattle.word.proofs.Choices.{first, second}
use Rattle.word.specs.Sum.{sum_of}
use Rattle.isa.specs.declared.Access.{Access}
use Rattle.isa.specs.declared.Condition.{Condition}
use Rattle.isa.specs.declared.Instruction.{Instruction}
use Rattle.isa.specs.declared.Instruction.TheVariants as instruction
use Rattle.isa.specs.declared.Operation.{Operation}
use Rattle.isa.specs.declared.WordOperation.{WordOperation}
use Rattle.step_effect.specs.Compute.{operation_of, word_operation_of}
use Rattle.step_effect.specs.Jump.{needs_no_pad_of, jalr_of}
use Rattle.step_effect.specs.Register.{reg_of}
use Rattle.step_effect.specs.declared.Effect.TheVariants.{Write}
use Rattle.step_transfer.specs.Access.{gate_of_instruction, passed_of, access_of}
use Rattle.step_transfer.specs.declared.access.Gate.{Gate}
use Rattle.step_transfer.specs.declared.access.Gate.TheVariants.{Open, Off}
use Rattle.csr_setting.specs.declared.Setting.{Setting}
use Rattle.step_meaning.specs.Instruction.{next_of, execute_of}
use Rattle.run_form.specs.Form.{Shape, Compute, ComputeWord, Branch, Memory, shape_of, shape_does, does_of, Means}
use Rattle.run_form.specs.declared.Form.{Form}
use Rattle.run_form.specs.declared.Op.{Op}
use Rattle.run_form.specs.declared.Op.TheVariants as op

-- a number alone, as the sum of two operands of which the other is 0
before_zero : (r : ℕ) → r < 2 ^ 64 → r ≡ sum_of r 0
before_zero r b = omega arith

behind_zero : (r v : ℕ) → r ≡ 0 → v < 2 ^ 64 → v ≡ sum_of r v
behind_zero r v z b = omega arith

behind_zeros : (r v : ℕ) → r ≡ 0 → v < 2 ^ 64 → v ≡ sum_of r (sum_of r v)
behind_zeros r v z b = omega arith

-- left to the slow path
pub left_means : {f : Form} → f ≡ record { op = op.Left; rd = 0; rs1 = 0; rs2 = 0; value = 0 }
    → (i : Instruction) (word pc : ℕ) (s : Setting) → Means f i word pc s
left_means e i word pc s = inl (ap (λ (f : Form). f.op) e)

-- a form whose shape is known
shape_means : {f : Form} {i j : Instruction} {o : Op} {rd rs1 rs2 v : ℕ} {h : Shape}
    → f ≡ record { op = o; rd = rd; rs1 = rs1; rs2 = rs2; value = v } → i ≡ j → shape_of o ≡ h → (word pc : ℕ) (s : Setting)
    → ((x : List ℕ) (ssp : ℕ) (m map : List ℕ) → reg_of x 0 ≡ 0 → reg_of x rs2 < 2 ^ 64 → v < 2 ^ 64
    → execute_of j word x pc ssp s m map ≡ shape_does h rd (reg_of x rs1) (reg_of x rs2) v pc ssp s.control m map)
    → Means f i word pc s
unfolding does_of
shape_means ef ei eo word pc s p = rw (ef, ei) (inr (λ x ssp m map z b c. rw eo (p x ssp m map z b c)))

module _ (word pc : ℕ) (s : Setting) where
  -- rd takes a number: a sum with two operands that are 0
  module _ {f : Form} {rd v : ℕ} (ef : f ≡ record { op = op.Add; rd = rd; rs1 = 0; rs2 = 0; value = v }) where
    number_means : {i j : Instruction} → i ≡ j
        → ((x : List ℕ) (ssp : ℕ) (m map : List ℕ) → execute_of j word x pc ssp s m map ≡ Write rd v (next_of pc))
        → Means f i word pc s
    number_means ei p =
        shape_means ef ei refl word pc s (λ x ssp m map z b c.
        p x ssp m map ∙ ap (λ (n : ℕ). Write rd n (next_of pc)) (behind_zeros (reg_of x 0) v z c))

    pub lui_means : {i : Instruction} → i ≡ instruction.Lui rd v → Means f i word pc s
    unfolding execute_of
    lui_means ei = number_means ei (λ x ssp m map. refl)

    pub auipc_means : {i : Instruction} {u : ℕ} → i ≡ instruction.Auipc rd u → v ≡ sum_of pc u → Means f i word pc s
    unfolding execute_of
    auipc_means ei ev = number_means ei (λ x ssp m map. rw ev)

  module _ {f : Form} {rd : ℕ} (ef : f ≡ record { op = op.Add; rd = rd; rs1 = 0; rs2 = 0; value = 0 }) where
    pub mop_means : {i : Instruction} {n rs1 : ℕ} → i ≡ instruction.MopR n rd rs1 → Means f i word pc s
    unfolding execute_of
    mop_means ei = number_means ef ei (λ x ssp m map. refl)

    pub mop2_means : {i : Instruction} {n rs1 rs2 : ℕ} → i ≡ instruction.MopRr n rd rs1 rs2 → Means f i word pc s
    unfolding execute_of
    mop2_means ei = number_means ef ei (λ x ssp m map. refl)

    pub unread_means : {i : Instruction} → i ≡ instruction.ReadSsp rd → s.shadow ≡ false → Means f i word pc s
    unfolding execute_of
    unread_means ei e = number_means ef ei (λ x ssp m map. ap (λ (n : ℕ). Write rd n (next_of pc)) (second s.shadow ssp 0 e))

    -- push and pop-check where the shadow stack is off
    pub off_means : {k j : Access} (rs1 rs2 off : ℕ) → k ≡ j → gate_of_instruction j s.shadow s.permitted ≡ Off
        → Means f (instruction.Memory k rd rs1 rs2 off) word pc s
    unfolding execute_of access_of passed_of
    off_means {j = j} rs1 rs2 off ek e =
        number_means ef (ap (λ (k : Access). instruction.Memory k rd rs1 rs2 off) ek) (λ x ssp m map.
        ap (λ (g : Gate). passed_of g j word rd (reg_of x rs1) (reg_of x rs2) off ssp (next_of pc) s m map) e)

  pub fence_means : {f : Form} {i : Instruction} {fm pred succ rs1 rd : ℕ}
      → f ≡ record { op = op.Add; rd = 0; rs1 = 0; rs2 = 0; value = 0 } → i ≡ instruction.Fence fm pred succ rs1 rd → Means f i word pc s
  unfolding execute_of
  fence_means ef ei = number_means ef ei (λ x ssp m map. refl)

  -- a computation with a number: the second register is 0
  module _ {f : Form} {i : Instruction} {k : Op} {rd rs1 v : ℕ} (ef : f ≡ record { op = k; rd = rd; rs1 = rs1; rs2 = 0; value = v }) where
    pub op_imm_means : {o : Operation} → i ≡ instruction.OpImm o rd rs1 v → shape_of k ≡ Compute o → Means f i word pc s
    unfolding execute_of
    op_imm_means {o = o} ei ek =
        shape_means ef ei ek word pc s (λ x ssp m map z b c.
        ap (λ (n : ℕ). Write rd (operation_of o (reg_of x rs1) n) (next_of pc)) (behind_zero (reg_of x 0) v z c))

    pub op_imm_32_means : {o : WordOperation} → i ≡ instruction.OpImm32 o rd rs1 v → shape_of k ≡ ComputeWord o → Means f i word pc s
    unfolding execute_of
    op_imm_32_means {o = o} ei ek =
        shape_means ef ei ek word pc s (λ x ssp m map z b c.
        ap (λ (n : ℕ). Write rd (word_operation_of o (reg_of x rs1) n) (next_of pc)) (behind_zero (reg_of x 0) v z c))

  -- a computation with two registers: the number is 0
  module _ {f : Form} {i : Instruction} {k : Op} {rd rs1 rs2 : ℕ} (ef : f ≡ record { op = k; rd = rd; rs1 = rs1; rs2 = rs2; value = 0 }) where
    pub op_means : {o : Operation} → i ≡ instruction.Op o rd rs1 rs2 → shape_of k ≡ Compute o → Means f i word pc s
    unfolding execute_of
    op_means {o = o} ei ek =
        shape_means ef ei ek word pc s (λ x ssp m map z b c.
        ap (λ (n : ℕ). Write rd (operation_of o (reg_of x rs1) n) (next_of pc)) (before_zero (reg_of x rs2) b))

    pub op_32_means : {o : WordOperation} → i ≡ instruction.Op32 o rd rs1 rs2 → shape_of k ≡ ComputeWord o → Means f i word pc s
    unfolding execute_of
    op_32_means {o = o} ei ek =
        shape_means ef ei ek word pc s (λ x ssp m map z b c.
        ap (λ (n : ℕ). Write rd (word_operation_of o (reg_of x rs1) n) (next_of pc)) (before_zero (reg_of x rs2) b))

  -- jumps and branches: the number is the target
  pub jal_means : {f : Form} {i : Instruction} {rd off to : ℕ}
      → f ≡ record { op = op.Jal; rd = rd; rs1 = 0; rs2 = 0; value = to } → i ≡ instruction.Jal rd off → to ≡ sum_of pc off
      → Means f i word pc s
  unfolding execute_of
  jal_means ef ei et = shape_means ef ei refl word pc s (λ x ssp m map z b c. rw et)

  pub branch_means : {f : Form} {i : Instruction} {o : Op} {k : Condition} {rs1 rs2 off to : ℕ}
      → f ≡ record { op = o; rd = 0; rs1 = rs1; rs2 = rs2; value = to } → i ≡ instruction.Branch k rs1 rs2 off
      → shape_of o ≡ Branch k → to ≡ sum_of pc off → Means f i word pc s
  unfolding execute_of
  branch_means ef ei ek et = shape_means ef ei ek word pc s (λ x ssp m map z b c. rw et)

  -- where no landing pad is expected
  pub jalr_means : {f : Form} {i : Instruction} {rd rs1 off : ℕ}
      → f ≡ record { op = op.Jalr; rd = rd; rs1 = rs1; rs2 = 0; value = off } → i ≡ instruction.Jalr rd rs1 off
      → (s.pad && not (needs_no_pad_of rs1)) ≡ false → Means f i word pc s
  unfolding execute_of jalr_of
  jalr_means ef ei e = shape_means ef ei refl word pc s (λ x ssp m map z b c. rw e)

  pub read_means : {f : Form} {i : Instruction} {rd : ℕ}
      → f ≡ record { op = op.ReadSsp; rd = rd; rs1 = 0; rs2 = 0; value = 0 } → i ≡ instruction.ReadSsp rd → s.shadow ≡ true
      → Means f i word pc s
  unfolding execute_of
  read_means {rd = rd} ef ei e =
      shape_means ef ei refl word pc s (λ x ssp m map z b c. ap (λ (n : ℕ). Write rd n (next_of pc)) (first s.shadow ssp 0 e))

  -- an access that is made
  module _ {f : Form} {o : Op} {k j : Access} {rd rs1 rs2 off : ℕ}
      (ef : f ≡ record { op = o; rd = rd; rs1 = rs1; rs2 = rs2; value = off }) (ek : k ≡ j) where
    pub open_means : shape_of o ≡ Memory j → gate_of_instruction j s.shadow s.permitted ≡ Open
        → Means f (instruction.Memory k rd rs1 rs2 off) word pc s
    unfolding execute_of access_of passed_of
    open_means eo e =
        shape_means ef (ap (λ (k : Access). instruction.Memory k rd rs1 rs2 off) ek) eo word pc s (λ x ssp m map z b c.
        ap (λ (g : Gate). passed_of g j word rd (reg_of x rs1) (reg_of x rs2) off ssp (next_of pc) s m map) e)

    -- there is no LDU
    pub load_means : (o ≡ op.Left) ⊎ (shape_of o ≡ Memory j) → gate_of_instruction j s.shadow s.permitted ≡ Open
        → Means f (instruction.Memory k rd rs1 rs2 off) word pc s
    load_means (inl l) e = inl (ap (λ (f : Form). f.op) ef ∙ l)
    load_means (inr eo) e = open_means eo e
