-- What a form does, and which instruction it stands for. Rule 10.10 of docs/HART.md.
--
-- Below, a and r are the values of the two registers, v the form's number, c what the hart's mode and CSRs say about accesses, m memory.
use Rattle.std.specs.Prelude.{true, false, List, ◌⊎◌, ◌≡◌, ℕ, ◌^◌, ◌<◌, length}
use Rattle.word.specs.Sum.{sum_of}
use Rattle.isa.specs.Size.{width_of}
use Rattle.isa.specs.declared.Access.{Access}
use Rattle.isa.specs.declared.Access.TheVariants as access
use Rattle.isa.specs.declared.Condition.{Condition}
use Rattle.isa.specs.declared.Condition.TheVariants as condition
use Rattle.isa.specs.declared.Instruction.{Instruction}
use Rattle.isa.specs.declared.Operation.{Operation}
use Rattle.isa.specs.declared.Operation.TheVariants as operation
use Rattle.isa.specs.declared.Width.TheVariants as width
use Rattle.isa.specs.declared.WordOperation.{WordOperation}
use Rattle.isa.specs.declared.WordOperation.TheVariants as word
use Rattle.address.specs.Kind.{kind_of}
use Rattle.address.specs.declared.control.Control.{Control}
use Rattle.address_place.specs.Place.{place_of}
use Rattle.step_effect.specs.Compute.{operation_of, word_operation_of, condition_of}
use Rattle.step_effect.specs.Jump.{jal_of, jalr_of, branch_of}
use Rattle.step_effect.specs.Register.{reg_of}
use Rattle.step_effect.specs.declared.Effect.{Effect}
use Rattle.step_effect.specs.declared.Effect.TheVariants.{Write, Trap}
use Rattle.step_transfer.specs.Access.{address_of, at_of}
use Rattle.csr_setting.specs.declared.Setting.{Setting}
use Rattle.step_meaning.specs.Instruction.{next_of, execute_of}
use Rattle.run_form.specs.declared.Op.{Op}
use Rattle.run_form.specs.declared.Op.TheVariants as op
use Rattle.run_form.specs.declared.Form.{Form}

-- what a byte names
pub data Shape : Type 0 where
  Compute : Operation → Shape
  ComputeWord : WordOperation → Shape
  Jal : Shape
  Jalr : Shape
  Branch : Condition → Shape
  Memory : Access → Shape
  ReadSsp : Shape
  Left : Shape

abbrev pub shape_of : Op → Shape
shape_of op.Add = Compute operation.Add
shape_of op.Sub = Compute operation.Sub
shape_of op.Sll = Compute operation.Sll
shape_of op.Slt = Compute operation.Slt
shape_of op.Sltu = Compute operation.Sltu
shape_of op.Xor = Compute operation.Xor
shape_of op.Srl = Compute operation.Srl
shape_of op.Sra = Compute operation.Sra
shape_of op.Or = Compute operation.Or
shape_of op.And = Compute operation.And
shape_of op.Mul = Compute operation.Mul
shape_of op.Mulh = Compute operation.Mulh
shape_of op.Mulhsu = Compute operation.Mulhsu
shape_of op.Mulhu = Compute operation.Mulhu
shape_of op.Div = Compute operation.Div
shape_of op.Divu = Compute operation.Divu
shape_of op.Rem = Compute operation.Rem
shape_of op.Remu = Compute operation.Remu
shape_of op.Min = Compute operation.Min
shape_of op.Minu = Compute operation.Minu
shape_of op.Max = Compute operation.Max
shape_of op.Maxu = Compute operation.Maxu
shape_of op.Clz = Compute operation.Clz
shape_of op.Ctz = Compute operation.Ctz
shape_of op.Cpop = Compute operation.Cpop
shape_of op.Addw = ComputeWord word.Addw
shape_of op.Subw = ComputeWord word.Subw
shape_of op.Sllw = ComputeWord word.Sllw
shape_of op.Srlw = ComputeWord word.Srlw
shape_of op.Sraw = ComputeWord word.Sraw
shape_of op.Mulw = ComputeWord word.Mulw
shape_of op.Divw = ComputeWord word.Divw
shape_of op.Divuw = ComputeWord word.Divuw
shape_of op.Remw = ComputeWord word.Remw
shape_of op.Remuw = ComputeWord word.Remuw
shape_of op.Clzw = ComputeWord word.Clzw
shape_of op.Ctzw = ComputeWord word.Ctzw
shape_of op.Cpopw = ComputeWord word.Cpopw
shape_of op.Jal = Jal
shape_of op.Jalr = Jalr
shape_of op.Beq = Branch condition.Equal
shape_of op.Bne = Branch condition.NotEqual
shape_of op.Blt = Branch condition.Less
shape_of op.Bge = Branch condition.NotLess
shape_of op.Bltu = Branch condition.LessUnsigned
shape_of op.Bgeu = Branch condition.NotLessUnsigned
shape_of op.Lb = Memory (access.Load width.Byte true)
shape_of op.Lh = Memory (access.Load width.Half true)
shape_of op.Lw = Memory (access.Load width.Word true)
shape_of op.Ld = Memory (access.Load width.Double true)
shape_of op.Lbu = Memory (access.Load width.Byte false)
shape_of op.Lhu = Memory (access.Load width.Half false)
shape_of op.Lwu = Memory (access.Load width.Word false)
shape_of op.Sb = Memory (access.Store width.Byte)
shape_of op.Sh = Memory (access.Store width.Half)
shape_of op.Sw = Memory (access.Store width.Word)
shape_of op.Sd = Memory (access.Store width.Double)
shape_of op.Push = Memory access.Push
shape_of op.Pop = Memory access.Pop
shape_of op.ReadSsp = ReadSsp
shape_of op.Left = Left

-- JALR where no landing pad is expected, push and pop-check where the shadow stack is on; and nothing that is left to the slow path
abbrev pub shape_does : Shape → (rd a r v pc ssp : ℕ) → Control → (m map : List ℕ) → Effect
shape_does (Compute o) rd a r v pc ssp c m map = Write rd (operation_of o a (sum_of r v)) (next_of pc)
shape_does (ComputeWord o) rd a r v pc ssp c m map = Write rd (word_operation_of o a (sum_of r v)) (next_of pc)
shape_does Jal rd a r v pc ssp c m map = jal_of rd (next_of pc) v
shape_does Jalr rd a r v pc ssp c m map = jalr_of rd 0 (next_of pc) (sum_of a v) false
shape_does (Branch k) rd a r v pc ssp c m map = branch_of (condition_of k a r) (next_of pc) v
shape_does (Memory k) rd a r v pc ssp c m map =
    at_of k (place_of c (kind_of k) (width_of k) (address_of k (sum_of a v) ssp) map (length m)) rd a r ssp (next_of pc) m
shape_does ReadSsp rd a r v pc ssp c m map = Write rd ssp (next_of pc)
shape_does Left rd a r v pc ssp c m map = Trap 0 0

unfoldable pub does_of : Op → (rd a r v pc ssp : ℕ) → Control → (m map : List ℕ) → Effect
does_of o rd a r v pc ssp c m map = shape_does (shape_of o) rd a r v pc ssp c m map

-- at pc, under this setting, a form does what the instruction does, whose word this is; or it is left to the slow path
abbrev pub Means : Form → Instruction → (word pc : ℕ) → Setting → Type 0
Means f i word pc s =
    (f.op ≡ op.Left)
    ⊎ ((x : List ℕ) (ssp : ℕ) (m map : List ℕ) → reg_of x 0 ≡ 0 → reg_of x f.rs2 < 2 ^ 64 → f.value < 2 ^ 64
    → execute_of i word x pc ssp s m map
    ≡ does_of f.op f.rd (reg_of x f.rs1) (reg_of x f.rs2) f.value pc ssp s.control m map)
