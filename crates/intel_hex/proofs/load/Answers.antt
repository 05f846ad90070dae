-- `intel_hex::load` meets its contract: refusal 2, the first bad line, or every line stored. Assumes nothing.
use mathlib.Core.Path.{◌≡◌, sym, ap, ◌∙◌}
use lib.ListN.{length}
use borrow.Author.Rules.{rules}
use Rattle.std.specs.Prelude.{Err}
use Rattle.intel_hex.specs.Lines.{lines_of}
use Rattle.intel_hex.proofs.Loads.{answer_of, memory_of, start_answer, refused_2, refused_6, told_good, taken}
use Rattle.intel_hex.proofs.Turns.{none_bad}
use Rattle.intel_hex.proofs.load.Goals as goal

pub returns-then-refused : goal.returns-then-refused
returns-then-refused c =
    let e = refused_2 c.args.text.now c.args.mem.now (sym c.refused.ensures ∙ c.if-refused.true) in
    record { answer = sym (ap answer_of e); memory = sym (ap memory_of e) }

pub returns-in_err-start : goal.returns-in_err-start
returns-in_err-start c =
    let e = refused_6 c.args.text.now c.args.mem.now (sym c.refused.ensures ∙ c.if-refused.false) _ _ (sym c.in_err-start.ensures) in
    let r : c.from_residual.result ≡ Err c.in_err-start.field-0.0 = search rules in
    record { answer = r ∙ sym (ap answer_of e); memory = sym (ap memory_of e) }

pub store-requires : goal.store-requires
store-requires c =
    none_bad (length c.args.mem.now) 0 1 (lines_of c.args.text.now) (told_good _ _ _ (sym c.in_ok-start.ensures)).0

pub returns : goal.returns
returns c =
    let (z, s) = told_good _ _ _ (sym c.in_ok-start.ensures) in
    let e = taken c.args.text.now c.args.mem.now (sym c.refused.ensures ∙ c.if-refused.false) z in
    record { answer = ap start_answer (sym s) ∙ sym (ap answer_of e); memory = c.store.ensures ∙ sym (ap memory_of e) }
