-- `run_call::step_refusal` meets its contract: the three tests, lowest first. Assumes nothing.
use mathlib.Core.Bool.{Bool, true, false}
use mathlib.Core.Path.{◌≡◌, refl}
use Rattle.std.specs.Prelude.{Some, None}
use Rattle.std.specs.Bool.{then_some}
use Rattle.word.specs.Choice.{pick}
use Rattle.run_call.specs.Call.{refusal_of}
use Rattle.run_call.specs.declared.Refusal.{Refusal}
use Rattle.run_call.proofs.step_refusal.Goals as goal

pub returns-then-not-of_words : goal.returns-then-not-of_words
unfolding refusal_of
returns-then-not-of_words c = rw (← c.of_words.ensures, c.if-not-of_words.true)

pub returns-then-refused : goal.returns-then-refused
unfolding refusal_of
returns-then-refused c = rw (← c.of_words.ensures, c.if-not-of_words.false, ← c.refused.ensures, c.if-refused.true)

-- a value where a test holds, chosen
chosen : (b : Bool) (n : Refusal) → then_some b n ≡ pick b (Some n) None
chosen true n = refl
chosen false n = refl

pub returns : goal.returns
unfolding refusal_of
returns c =
    rw (
      c.then_some.ensures,
      chosen,
      ← c.of_words.ensures,
      c.if-not-of_words.false,
      ← c.refused.ensures,
      c.if-refused.false,
      c.refused-2.ensures,
    )
