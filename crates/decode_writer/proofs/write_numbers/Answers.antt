-- `decode_writer::write_numbers` meets its contract: where what packs does not read as the numbers, no word does. Assumes nothing.
use mathlib.Core.Path.{◌≡◌}
use Rattle.std.proofs.Common.{arith}
use Rattle.std.proofs.lemmas.Grind.{common_steps}
use Rattle.decode.specs.Decode.{decode_of}
use Rattle.decode_numbers.specs.Numbers.{numbers_of}
use Rattle.decode_writer.proofs.Answer.{refused}
use Rattle.decode_writer.proofs.write_numbers.Goals as goal

pub returns-else-eq : goal.returns-else-eq
returns-else-eq c =
    refused _ _ c.pack-w.ensures
    (λ (e : numbers_of (decode_of c.pack-w.result) ≡ c.args.n).
    let same : c.of_instruction-read.result ≡ c.args.n = cc in
    grind (arith, common_steps))
