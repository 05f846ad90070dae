-- `intel_hex::line::Line::is` meets its contract: types are the same where their numbers are. Assumes nothing.
use mathlib.Core.Path.{refl, ◌∙◌}
use borrow.Author.Tests.{eq-eqb}
use denote.Enum.Bare.{same_true}
use borrow.Author.Rules.{rules}
use Rattle.intel_hex.specs.contracts.line.RecordType.{the_type}
use Rattle.intel_hex.proofs.Records.{same_type}
use Rattle.intel_hex.proofs.line.Line.is.Goals as goal

pub returns : goal.returns
returns c =
    c.eq.ensures
    ∙ same_type _ (λ a b p. same_true the_type (search rules) a b p) (λ a. eq-eqb _ _ refl) _ c.args.wanted _ c.record_type.ensures
