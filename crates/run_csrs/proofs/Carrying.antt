-- What stands at a found word is what the definitions of the CSR instructions ask for.
-- Assumes nothing.
use mathlib.Core.Bool.{Bool, true, false}
use mathlib.Core.List.{List}
use mathlib.Core.Path.{◌≡◌, refl, sym, subst}
use Prim.Native.Nat.{ℕ, ◌%◌}
use lib.Dec.{eqb}
use Rattle.word.specs.Choice.{pick}
use Rattle.word.specs.Field.{bits, fields_of}
use Rattle.word.specs.declared.field.Fields.{Fields}
use Rattle.word.specs.Row.{row_read_of, row_write_of}
use Rattle.isa.specs.declared.CsrOperation.{CsrOperation}
use Rattle.isa.specs.declared.CsrSource.TheVariants.{Register}
use Rattle.isa.specs.declared.Mode.{Mode}
use Rattle.csr.specs.Row.{fours, word}
use Rattle.csr_access.specs.Enable.{sse_of}
use Rattle.step_effect.specs.Csrs.{csr_effect_of, csr_reached_of, writes_of, merged_of}
use Rattle.step_effect.specs.Register.{reg_of, put_of}
use Rattle.csr_words.specs.Warl.{shown_of, written_of}
use Rattle.csr_words.specs.Words.{◌of◌, ◌but◌≔◌, csr_slot_of, MENVCFG}
use Rattle.run_csrs.specs.Handler.{Handled}
use Rattle.run_csrs.specs.Named.{CsrStands, named_of, held_of}

-- a write of either row leaves what a read shows of it, whatever stood there
leaves : (b : Bool) (old v : ℕ) → row_write_of (pick b fours word) old v ≡ row_read_of (pick b fours word) v
leaves true old v = refl
leaves false old v = refl

shown : (k a : ℕ) (m : Mode) (rest : List ℕ) → CsrStands k a m → shown_of (named_of a) rest ≡ held_of a (k of rest)
unfolding shown_of held_of
shown k a m rest st = rw (st.3 (sse_of (MENVCFG of rest)), st.1)

written : (k a v : ℕ) (m : Mode) (rest : List ℕ) → CsrStands k a m → written_of (named_of a) v rest ≡ held_of a v
unfolding written_of held_of
written k a v m rest st = rw (st.3 (sse_of (MENVCFG of rest))) (leaves (eqb (a % 4) 1) (csr_slot_of (named_of a) of rest) v)

-- the instruction was carried out
carried : (o : CsrOperation) (rs1 rd a w k next : ℕ) (x rest : List ℕ) (m : Mode) (permitted : Bool) (x' rest' : List ℕ)
    → CsrStands k a m
    → x' ≡ put_of rd (held_of a (k of rest)) x
    → rest' ≡ pick (writes_of o rs1) (rest but k ≔ held_of a (merged_of o (held_of a (k of rest)) (reg_of x rs1))) rest
    → Handled (csr_effect_of o (Register rs1) rd a w x next m permitted) x rest next x' rest'
unfolding csr_effect_of csr_reached_of
carried o rs1 rd a w k next x rest m permitted x' rest' st ex er =
    rw (st.2 permitted) (
      refl,
      st.4,
      rw (shown k a m rest st) ex,
      rw (shown k a m rest st, written k a (merged_of o (held_of a (k of rest)) (reg_of x rs1)) m rest st, sym st.1) er,
    )

-- the same, with the registers' numbers out of the word's fields
pub done : (o : CsrOperation) (f : Fields) (a w k next : ℕ) (x rest : List ℕ) (m : Mode) (permitted : Bool) (x' rest' : List ℕ)
    → f ≡ fields_of w
    → CsrStands k a m
    → x' ≡ put_of f.rd (held_of a (k of rest)) x
    → rest' ≡ pick (writes_of o f.rs1) (rest but k ≔ held_of a (merged_of o (held_of a (k of rest)) (reg_of x f.rs1))) rest
    → Handled (csr_effect_of o (Register (bits w 19 15)) (bits w 11 7) a w x next m permitted) x rest next x' rest'
done o f a w k next x rest m permitted x' rest' e st ex er =
    subst (λ (g : Fields). Handled (csr_effect_of o (Register g.rs1) g.rd a w x next m permitted) x rest next x' rest') e
    (carried o f.rs1 f.rd a w k next x rest m permitted x' rest' st ex er)
