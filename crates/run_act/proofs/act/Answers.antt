-- `run_act::act` meets its contract: an arm is a form. Assumes nothing.
use Rattle.std.specs.Prelude.{Option, Some, None}
use mathlib.Core.Bool.{not}
use mathlib.Core.List.{List}
use mathlib.Core.Path.{◌≡◌, refl, ap, ◌∙◌}
use Prim.Native.Nat.{ℕ}
use lib.ListN.{length}
use Rattle.isa.specs.declared.Condition.TheVariants as condition
use Rattle.isa.specs.declared.Operation.{Operation}
use Rattle.isa.specs.declared.Operation.TheVariants as operation
use Rattle.isa.specs.declared.WordOperation.{WordOperation}
use Rattle.isa.specs.declared.WordOperation.TheVariants as word
use Rattle.step_effect.specs.Compute.{one_of, operation_of, word_operation_of}
use Rattle.step_effect.specs.Jump.{even_of}
use Rattle.step_effect.specs.Register.{put_of}
use Rattle.step_meaning.specs.Instruction.{next_of}
use Rattle.csr_words.specs.Words.{◌of◌, SSP}
use Rattle.run_pages.specs.Pages.{Remembers}
use Rattle.run_form.specs.Form.{Compute, ComputeWord, shape_of}
use Rattle.run_act.specs.declared.Acted.{Acted}
use Rattle.run_act.proofs.Arms.{Case, Arm, compute_arm, word_arm, ssp_arm, jal_arm, jalr_arm, branch_arm}
use Rattle.run_act.proofs.Arms.{load_arm, store_arm, push_arm, pop_arm}
use Rattle.run_act.proofs.act.Goals as goal
use Rattle.run_act.proofs.act.Goals.{After-sum-b}

module _ (g : After-sum-b) where
  -- what the form is carried out on
  abbrev case : Case
  case =
      record {
        op = g.args.op;
        rd = g.args.rd;
        a = g.args.a;
        r = g.args.r;
        v = g.args.v;
        pc = g.args.pc;
        ssp = SSP of g.args.w.now;
        control = g.args.c;
        x = g.args.x.now;
        w = g.args.w.now;
        m = g.args.mem.now;
        map = g.args.map.now;
      }

  -- what is remembered of the pages, where they are not touched
  abbrev Pages : Type 0
  Pages = Remembers g.args.pages.now g.args.c case.map (length case.m)

  row : (k : Operation) (u : ℕ) (t : Option Acted) (x' : List ℕ)
      → (t ≡ Some (record { pc = next_of case.pc; stored = None })) × (x' ≡ put_of case.rd u case.x)
      → shape_of case.op ≡ Compute k → u ≡ operation_of k case.a g.sum-b.result
      → Arm case Pages t x' case.w case.m
  row k u t x' h f e = compute_arm case Pages u t x' h g.requires.3 k f _ g.sum-b.ensures e

  word_row : (k : WordOperation) (u : ℕ) (t : Option Acted) (x' : List ℕ)
      → (t ≡ Some (record { pc = next_of case.pc; stored = None })) × (x' ≡ put_of case.rd u case.x)
      → shape_of case.op ≡ ComputeWord k → u ≡ word_operation_of k case.a g.sum-b.result
      → Arm case Pages t x' case.w case.m
  word_row k u t x' h f e = word_arm case Pages u t x' h g.requires.3 k f _ g.sum-b.ensures e

pub returns-in-Add : goal.returns-in-Add
returns-in-Add c =
    let all = row ((goal.at.returns-in-Add c).After-sum-b) operation.Add _ _ _ c.computed.ensures
    (ap shape_of c.in-Add.is) c.sum.ensures in
    record { does = all.0; pages = all.1 }

pub returns-in-Sub : goal.returns-in-Sub
returns-in-Sub c =
    let all = row ((goal.at.returns-in-Sub c).After-sum-b) operation.Sub _ _ _ c.computed-in-Sub.ensures
    (ap shape_of c.in-Sub.is) c.difference.ensures in
    record { does = all.0; pages = all.1 }

pub returns-in-Sll : goal.returns-in-Sll
returns-in-Sll c =
    let all = row ((goal.at.returns-in-Sll c).After-sum-b) operation.Sll _ _ _ c.computed-in-Sll.ensures
    (ap shape_of c.in-Sll.is) c.left.ensures in
    record { does = all.0; pages = all.1 }

pub returns-in-Slt : goal.returns-in-Slt
returns-in-Slt c =
    let all = row ((goal.at.returns-in-Slt c).After-sum-b) operation.Slt _ _ _ c.computed-in-Slt.ensures
    (ap shape_of c.in-Slt.is)
    (c.one.ensures ∙ ap one_of c.signed_less.ensures) in
    record { does = all.0; pages = all.1 }

pub returns-in-Sltu : goal.returns-in-Sltu
returns-in-Sltu c =
    let all = row ((goal.at.returns-in-Sltu c).After-sum-b) operation.Sltu _ _ _ c.computed-in-Sltu.ensures
    (ap shape_of c.in-Sltu.is)
    (c.one-in-Sltu.ensures ∙ ap one_of c.unsigned_less.ensures) in
    record { does = all.0; pages = all.1 }

pub returns-in-Xor : goal.returns-in-Xor
returns-in-Xor c =
    let all = row ((goal.at.returns-in-Xor c).After-sum-b) operation.Xor _ _ _ c.computed-in-Xor.ensures
    (ap shape_of c.in-Xor.is) c.xor.ensures in
    record { does = all.0; pages = all.1 }

pub returns-in-Srl : goal.returns-in-Srl
returns-in-Srl c =
    let all = row ((goal.at.returns-in-Srl c).After-sum-b) operation.Srl _ _ _ c.computed-in-Srl.ensures
    (ap shape_of c.in-Srl.is) c.right.ensures in
    record { does = all.0; pages = all.1 }

pub returns-in-Sra : goal.returns-in-Sra
returns-in-Sra c =
    let all = row ((goal.at.returns-in-Sra c).After-sum-b) operation.Sra _ _ _ c.computed-in-Sra.ensures
    (ap shape_of c.in-Sra.is) c.arithmetic.ensures in
    record { does = all.0; pages = all.1 }

pub returns-in-Or : goal.returns-in-Or
returns-in-Or c =
    let all = row ((goal.at.returns-in-Or c).After-sum-b) operation.Or _ _ _ c.computed-in-Or.ensures
    (ap shape_of c.in-Or.is) c.or.ensures in
    record { does = all.0; pages = all.1 }

pub returns-in-And : goal.returns-in-And
returns-in-And c =
    let all = row ((goal.at.returns-in-And c).After-sum-b) operation.And _ _ _ c.computed-in-And.ensures
    (ap shape_of c.in-And.is) c.and.ensures in
    record { does = all.0; pages = all.1 }

pub returns-in-Mul : goal.returns-in-Mul
returns-in-Mul c =
    let all = row ((goal.at.returns-in-Mul c).After-sum-b) operation.Mul _ _ _ c.computed-in-Mul.ensures
    (ap shape_of c.in-Mul.is) c.product.ensures in
    record { does = all.0; pages = all.1 }

pub returns-in-Mulh : goal.returns-in-Mulh
returns-in-Mulh c =
    let all = row ((goal.at.returns-in-Mulh c).After-sum-b) operation.Mulh _ _ _ c.computed-in-Mulh.ensures
    (ap shape_of c.in-Mulh.is) c.upper.ensures in
    record { does = all.0; pages = all.1 }

pub returns-in-Mulhsu : goal.returns-in-Mulhsu
returns-in-Mulhsu c =
    let all = row ((goal.at.returns-in-Mulhsu c).After-sum-b) operation.Mulhsu _ _ _ c.computed-in-Mulhsu.ensures
    (ap shape_of c.in-Mulhsu.is) c.upper-in-Mulhsu.ensures in
    record { does = all.0; pages = all.1 }

pub returns-in-Mulhu : goal.returns-in-Mulhu
returns-in-Mulhu c =
    let all = row ((goal.at.returns-in-Mulhu c).After-sum-b) operation.Mulhu _ _ _ c.computed-in-Mulhu.ensures
    (ap shape_of c.in-Mulhu.is) c.upper-in-Mulhu.ensures in
    record { does = all.0; pages = all.1 }

pub returns-in-Div : goal.returns-in-Div
returns-in-Div c =
    let all = row ((goal.at.returns-in-Div c).After-sum-b) operation.Div _ _ _ c.computed-in-Div.ensures
    (ap shape_of c.in-Div.is) c.quotient.ensures in
    record { does = all.0; pages = all.1 }

pub returns-in-Divu : goal.returns-in-Divu
returns-in-Divu c =
    let all = row ((goal.at.returns-in-Divu c).After-sum-b) operation.Divu _ _ _ c.computed-in-Divu.ensures
    (ap shape_of c.in-Divu.is) c.quotient-in-Divu.ensures in
    record { does = all.0; pages = all.1 }

pub returns-in-Rem : goal.returns-in-Rem
returns-in-Rem c =
    let all = row ((goal.at.returns-in-Rem c).After-sum-b) operation.Rem _ _ _ c.computed-in-Rem.ensures
    (ap shape_of c.in-Rem.is) c.remainder.ensures in
    record { does = all.0; pages = all.1 }

pub returns-in-Remu : goal.returns-in-Remu
returns-in-Remu c =
    let all = row ((goal.at.returns-in-Remu c).After-sum-b) operation.Remu _ _ _ c.computed-in-Remu.ensures
    (ap shape_of c.in-Remu.is) c.remainder-in-Remu.ensures in
    record { does = all.0; pages = all.1 }

pub returns-in-Min : goal.returns-in-Min
returns-in-Min c =
    let all = row ((goal.at.returns-in-Min c).After-sum-b) operation.Min _ _ _ c.computed-in-Min.ensures
    (ap shape_of c.in-Min.is) c.smaller.ensures in
    record { does = all.0; pages = all.1 }

pub returns-in-Minu : goal.returns-in-Minu
returns-in-Minu c =
    let all = row ((goal.at.returns-in-Minu c).After-sum-b) operation.Minu _ _ _ c.computed-in-Minu.ensures
    (ap shape_of c.in-Minu.is) c.smaller-in-Minu.ensures in
    record { does = all.0; pages = all.1 }

pub returns-in-Max : goal.returns-in-Max
returns-in-Max c =
    let all = row ((goal.at.returns-in-Max c).After-sum-b) operation.Max _ _ _ c.computed-in-Max.ensures
    (ap shape_of c.in-Max.is) c.larger.ensures in
    record { does = all.0; pages = all.1 }

pub returns-in-Maxu : goal.returns-in-Maxu
returns-in-Maxu c =
    let all = row ((goal.at.returns-in-Maxu c).After-sum-b) operation.Maxu _ _ _ c.computed-in-Maxu.ensures
    (ap shape_of c.in-Maxu.is) c.larger-in-Maxu.ensures in
    record { does = all.0; pages = all.1 }

pub returns-in-Clz : goal.returns-in-Clz
returns-in-Clz c =
    let all = row ((goal.at.returns-in-Clz c).After-sum-b) operation.Clz _ _ _ c.computed-in-Clz.ensures
    (ap shape_of c.in-Clz.is) c.leading.ensures in
    record { does = all.0; pages = all.1 }

pub returns-in-Ctz : goal.returns-in-Ctz
returns-in-Ctz c =
    let all = row ((goal.at.returns-in-Ctz c).After-sum-b) operation.Ctz _ _ _ c.computed-in-Ctz.ensures
    (ap shape_of c.in-Ctz.is) c.trailing.ensures in
    record { does = all.0; pages = all.1 }

pub returns-in-Cpop : goal.returns-in-Cpop
returns-in-Cpop c =
    let all = row ((goal.at.returns-in-Cpop c).After-sum-b) operation.Cpop _ _ _ c.computed-in-Cpop.ensures
    (ap shape_of c.in-Cpop.is) c.set.ensures in
    record { does = all.0; pages = all.1 }

pub returns-in-Addw : goal.returns-in-Addw
returns-in-Addw c =
    let all = word_row ((goal.at.returns-in-Addw c).After-sum-b) word.Addw _ _ _ c.computed-in-Addw.ensures
    (ap shape_of c.in-Addw.is) c.sum_word.ensures in
    record { does = all.0; pages = all.1 }

pub returns-in-Subw : goal.returns-in-Subw
returns-in-Subw c =
    let all = word_row ((goal.at.returns-in-Subw c).After-sum-b) word.Subw _ _ _ c.computed-in-Subw.ensures
    (ap shape_of c.in-Subw.is) c.difference_word.ensures in
    record { does = all.0; pages = all.1 }

pub returns-in-Sllw : goal.returns-in-Sllw
returns-in-Sllw c =
    let all = word_row ((goal.at.returns-in-Sllw c).After-sum-b) word.Sllw _ _ _ c.computed-in-Sllw.ensures
    (ap shape_of c.in-Sllw.is) c.left-in-Sllw.ensures in
    record { does = all.0; pages = all.1 }

pub returns-in-Srlw : goal.returns-in-Srlw
returns-in-Srlw c =
    let all = word_row ((goal.at.returns-in-Srlw c).After-sum-b) word.Srlw _ _ _ c.computed-in-Srlw.ensures
    (ap shape_of c.in-Srlw.is) c.right-in-Srlw.ensures in
    record { does = all.0; pages = all.1 }

pub returns-in-Sraw : goal.returns-in-Sraw
returns-in-Sraw c =
    let all = word_row ((goal.at.returns-in-Sraw c).After-sum-b) word.Sraw _ _ _ c.computed-in-Sraw.ensures
    (ap shape_of c.in-Sraw.is) c.arithmetic-in-Sraw.ensures in
    record { does = all.0; pages = all.1 }

pub returns-in-Mulw : goal.returns-in-Mulw
returns-in-Mulw c =
    let all = word_row ((goal.at.returns-in-Mulw c).After-sum-b) word.Mulw _ _ _ c.computed-in-Mulw.ensures
    (ap shape_of c.in-Mulw.is) c.product-in-Mulw.ensures in
    record { does = all.0; pages = all.1 }

pub returns-in-Divw : goal.returns-in-Divw
returns-in-Divw c =
    let all = word_row ((goal.at.returns-in-Divw c).After-sum-b) word.Divw _ _ _ c.computed-in-Divw.ensures
    (ap shape_of c.in-Divw.is) c.quotient-in-Divw.ensures in
    record { does = all.0; pages = all.1 }

pub returns-in-Divuw : goal.returns-in-Divuw
returns-in-Divuw c =
    let all = word_row ((goal.at.returns-in-Divuw c).After-sum-b) word.Divuw _ _ _ c.computed-in-Divuw.ensures
    (ap shape_of c.in-Divuw.is) c.quotient-in-Divuw.ensures in
    record { does = all.0; pages = all.1 }

pub returns-in-Remw : goal.returns-in-Remw
returns-in-Remw c =
    let all = word_row ((goal.at.returns-in-Remw c).After-sum-b) word.Remw _ _ _ c.computed-in-Remw.ensures
    (ap shape_of c.in-Remw.is) c.remainder-in-Remw.ensures in
    record { does = all.0; pages = all.1 }

pub returns-in-Remuw : goal.returns-in-Remuw
returns-in-Remuw c =
    let all = word_row ((goal.at.returns-in-Remuw c).After-sum-b) word.Remuw _ _ _ c.computed-in-Remuw.ensures
    (ap shape_of c.in-Remuw.is) c.remainder-in-Remuw.ensures in
    record { does = all.0; pages = all.1 }

pub returns-in-Clzw : goal.returns-in-Clzw
returns-in-Clzw c =
    let all = word_row ((goal.at.returns-in-Clzw c).After-sum-b) word.Clzw _ _ _ c.computed-in-Clzw.ensures
    (ap shape_of c.in-Clzw.is) c.leading-in-Clzw.ensures in
    record { does = all.0; pages = all.1 }

pub returns-in-Ctzw : goal.returns-in-Ctzw
returns-in-Ctzw c =
    let all = word_row ((goal.at.returns-in-Ctzw c).After-sum-b) word.Ctzw _ _ _ c.computed-in-Ctzw.ensures
    (ap shape_of c.in-Ctzw.is) c.trailing-in-Ctzw.ensures in
    record { does = all.0; pages = all.1 }

pub returns-in-Cpopw : goal.returns-in-Cpopw
returns-in-Cpopw c =
    let all = word_row ((goal.at.returns-in-Cpopw c).After-sum-b) word.Cpopw _ _ _ c.computed-in-Cpopw.ensures
    (ap shape_of c.in-Cpopw.is) c.set-in-Cpopw.ensures in
    record { does = all.0; pages = all.1 }

pub returns-in-Jal : goal.returns-in-Jal
returns-in-Jal c =
    let all = jal_arm (case ((goal.at.returns-in-Jal c).After-sum-b)) _ c.jumped.result _
    c.requires.3 _ c.jumped.ensures
    (ap shape_of c.in-Jal.is) c.sum-in-Jal.ensures in
    record { does = all.0; pages = all.1 }

pub returns-in-Jalr : goal.returns-in-Jalr
returns-in-Jalr c =
    let all = jalr_arm (case ((goal.at.returns-in-Jalr c).After-sum-b)) _ c.jumped-in-Jalr.result _
    c.requires.3 _ _ c.jumped-in-Jalr.ensures
    (ap shape_of c.in-Jalr.is) c.sum-in-Jalr.ensures
    (c.even.ensures ∙ ap even_of c.sum-in-Jalr-2.ensures) in
    record { does = all.0; pages = all.1 }

pub returns-in-Beq : goal.returns-in-Beq
returns-in-Beq c =
    let all = branch_arm (case ((goal.at.returns-in-Beq c).After-sum-b)) _ c.branch-a.result c.requires.3
    c.requires.2 _ c.branch-a.ensures condition.Equal
    (ap shape_of c.in-Beq.is) refl in
    record { does = all.0; pages = all.1 }

pub returns-in-Bne : goal.returns-in-Bne
returns-in-Bne c =
    let all = branch_arm (case ((goal.at.returns-in-Bne c).After-sum-b)) _ c.branch-a-in-Bne.result c.requires.3
    c.requires.2 _ c.branch-a-in-Bne.ensures condition.NotEqual
    (ap shape_of c.in-Bne.is) refl in
    record { does = all.0; pages = all.1 }

pub returns-in-Blt : goal.returns-in-Blt
returns-in-Blt c =
    let all = branch_arm (case ((goal.at.returns-in-Blt c).After-sum-b)) _ c.branch-signed_less.result c.requires.3
    c.requires.2 _ c.branch-signed_less.ensures condition.Less
    (ap shape_of c.in-Blt.is) c.signed_less-in-Blt.ensures in
    record { does = all.0; pages = all.1 }

pub returns-in-Bge : goal.returns-in-Bge
returns-in-Bge c =
    let all = branch_arm (case ((goal.at.returns-in-Bge c).After-sum-b)) _ c.branch-signed_less-in-Bge.result c.requires.3
    c.requires.2 _ c.branch-signed_less-in-Bge.ensures condition.NotLess
    (ap shape_of c.in-Bge.is) (ap not c.signed_less-in-Bge.ensures) in
    record { does = all.0; pages = all.1 }

pub returns-in-Bltu : goal.returns-in-Bltu
returns-in-Bltu c =
    let all = branch_arm (case ((goal.at.returns-in-Bltu c).After-sum-b)) _ c.branch-unsigned_less.result c.requires.3
    c.requires.2 _ c.branch-unsigned_less.ensures condition.LessUnsigned
    (ap shape_of c.in-Bltu.is) c.unsigned_less-in-Bltu.ensures in
    record { does = all.0; pages = all.1 }

pub returns-in-Bgeu : goal.returns-in-Bgeu
returns-in-Bgeu c =
    let all = branch_arm (case ((goal.at.returns-in-Bgeu c).After-sum-b)) _ c.branch-unsigned_less-in-Bgeu.result c.requires.3
    c.requires.2 _ c.branch-unsigned_less-in-Bgeu.ensures condition.NotLessUnsigned
    (ap shape_of c.in-Bgeu.is) (ap not c.unsigned_less-in-Bgeu.ensures) in
    record { does = all.0; pages = all.1 }

pub returns-in-Lb : goal.returns-in-Lb
returns-in-Lb c =
    let all = load_arm (case ((goal.at.returns-in-Lb c).After-sum-b)) _ c.load.result _ _ _ (c.load.ensures.does, c.load.ensures.pages)
    (ap shape_of c.in-Lb.is) in
    record { does = all.0; pages = all.1 }

pub returns-in-Lh : goal.returns-in-Lh
returns-in-Lh c =
    let all = load_arm (case ((goal.at.returns-in-Lh c).After-sum-b)) _ c.load-in-Lh.result _ _ _ (c.load-in-Lh.ensures.does, c.load-in-Lh.ensures.pages)
    (ap shape_of c.in-Lh.is) in
    record { does = all.0; pages = all.1 }

pub returns-in-Lw : goal.returns-in-Lw
returns-in-Lw c =
    let all = load_arm (case ((goal.at.returns-in-Lw c).After-sum-b)) _ c.load-in-Lw.result _ _ _ (c.load-in-Lw.ensures.does, c.load-in-Lw.ensures.pages)
    (ap shape_of c.in-Lw.is) in
    record { does = all.0; pages = all.1 }

pub returns-in-Ld : goal.returns-in-Ld
returns-in-Ld c =
    let all = load_arm (case ((goal.at.returns-in-Ld c).After-sum-b)) _ c.load-in-Ld.result _ _ _ (c.load-in-Ld.ensures.does, c.load-in-Ld.ensures.pages)
    (ap shape_of c.in-Ld.is) in
    record { does = all.0; pages = all.1 }

pub returns-in-Lbu : goal.returns-in-Lbu
returns-in-Lbu c =
    let all = load_arm (case ((goal.at.returns-in-Lbu c).After-sum-b)) _ c.load-in-Lbu.result _ _ _ (c.load-in-Lbu.ensures.does, c.load-in-Lbu.ensures.pages)
    (ap shape_of c.in-Lbu.is) in
    record { does = all.0; pages = all.1 }

pub returns-in-Lhu : goal.returns-in-Lhu
returns-in-Lhu c =
    let all = load_arm (case ((goal.at.returns-in-Lhu c).After-sum-b)) _ c.load-in-Lhu.result _ _ _ (c.load-in-Lhu.ensures.does, c.load-in-Lhu.ensures.pages)
    (ap shape_of c.in-Lhu.is) in
    record { does = all.0; pages = all.1 }

pub returns-in-Lwu : goal.returns-in-Lwu
returns-in-Lwu c =
    let all = load_arm (case ((goal.at.returns-in-Lwu c).After-sum-b)) _ c.load-in-Lwu.result _ _ _ (c.load-in-Lwu.ensures.does, c.load-in-Lwu.ensures.pages)
    (ap shape_of c.in-Lwu.is) in
    record { does = all.0; pages = all.1 }

pub returns-in-Sb : goal.returns-in-Sb
returns-in-Sb c =
    let all = store_arm (case ((goal.at.returns-in-Sb c).After-sum-b)) _ c.store.result _ _
    (c.store.ensures.does, c.store.ensures.pages) (ap shape_of c.in-Sb.is) in
    record { does = all.0; pages = all.1 }

pub returns-in-Sh : goal.returns-in-Sh
returns-in-Sh c =
    let all = store_arm (case ((goal.at.returns-in-Sh c).After-sum-b)) _ c.store-in-Sh.result _ _
    (c.store-in-Sh.ensures.does, c.store-in-Sh.ensures.pages) (ap shape_of c.in-Sh.is) in
    record { does = all.0; pages = all.1 }

pub returns-in-Sw : goal.returns-in-Sw
returns-in-Sw c =
    let all = store_arm (case ((goal.at.returns-in-Sw c).After-sum-b)) _ c.store-in-Sw.result _ _
    (c.store-in-Sw.ensures.does, c.store-in-Sw.ensures.pages) (ap shape_of c.in-Sw.is) in
    record { does = all.0; pages = all.1 }

pub returns-in-Sd : goal.returns-in-Sd
returns-in-Sd c =
    let all = store_arm (case ((goal.at.returns-in-Sd c).After-sum-b)) _ c.store-in-Sd.result _ _
    (c.store-in-Sd.ensures.does, c.store-in-Sd.ensures.pages) (ap shape_of c.in-Sd.is) in
    record { does = all.0; pages = all.1 }

pub returns-in-Push : goal.returns-in-Push
returns-in-Push c =
    let all = push_arm (case ((goal.at.returns-in-Push c).After-sum-b)) _ c.push.result _ _
    (c.push.ensures.does, c.push.ensures.pages) (ap shape_of c.in-Push.is) in
    record { does = all.0; pages = all.1 }

pub returns-in-Pop : goal.returns-in-Pop
returns-in-Pop c =
    let all = pop_arm (case ((goal.at.returns-in-Pop c).After-sum-b)) _ c.pop.result _ (c.pop.ensures.does, c.pop.ensures.pages)
    (ap shape_of c.in-Pop.is) in
    record { does = all.0; pages = all.1 }

pub returns-in-ReadSsp : goal.returns-in-ReadSsp
returns-in-ReadSsp c =
    let all = ssp_arm (case ((goal.at.returns-in-ReadSsp c).After-sum-b)) _ _ _ _ c.computed-in-ReadSsp.ensures
    c.requires.3 (ap shape_of c.in-ReadSsp.is) refl in
    record { does = all.0; pages = all.1 }
