-- `intel_hex::scan::end` meets its contract: what stands at the end of a line, case by case. Assumes nothing.
use mathlib.Core.List.{[], ◌∷◌}
use Prim.Native.Nat.{◌-◌}
use lib.ListN.{length, take, drop}
use native.Mathlib.Omega.{arith}
use Rattle.std.proofs.lemmas.Slice.Eq.{strip_prefix_is}
use Rattle.std.proofs.lemmas.Bool.Decides.{Decides-eqb}
use Rattle.intel_hex.proofs.Lines.{ends_text, ends_lf, after_cr, on_end}
use Rattle.intel_hex.proofs.scan.end.Goals as goal

pub returns-in-empty : goal.returns-in-empty
returns-in-empty c = ends_text c.args.text.now (omega arith)

pub returns-in-10 : goal.returns-in-10
returns-in-10 c = ends_lf c.args.text.now (omega arith) (omega arith)

pub returns-in-13 : goal.returns-in-13
returns-in-13 c =
    after_cr c.args.text.now (omega arith) (omega arith) c.strip_prefix.result
    (strip_prefix_is Decides-eqb (take (length c.args.text.now - 1) (drop 1 c.args.text.now)) (10 ∷ []) c.strip_prefix.result c.strip_prefix.ensures.cases)

pub returns-in_default : goal.returns-in_default
returns-in_default c = on_end c.args.text.now (omega arith) (λ e. omega arith) (λ e f. omega arith)
