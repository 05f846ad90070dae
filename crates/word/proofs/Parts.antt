-- The fields of a word are all of it.
-- Assumes nothing.
use Rattle.std.proofs.Common.{◌≡◌, ℕ, ◌+◌, ◌*◌, ◌/◌, ◌%◌, ◌^◌, ◌<◌, arith}
use Rattle.word.specs.Field.{opcode, fields_of}
use Rattle.word.specs.declared.field.Fields.{Fields}

-- a word put together again, in the R format
abbrev pub joined : ℕ → Fields → ℕ
joined o f = o + f.rd * 2 ^ 7 + f.funct3 * 2 ^ 12 + f.rs1 * 2 ^ 15 + f.rs2 * 2 ^ 20 + f.funct7 * 2 ^ 25

-- field by field, what is above the field as a number of its own: one sum over all of them is more than omega takes
sum_up :
    (w o p d q e r a s b t c : ℕ) → w ≡ o + p * 2 ^ 7 → p ≡ d + q * 2 ^ 5 → q ≡ e + r * 2 ^ 3 → r ≡ a + s * 2 ^ 5
    → s ≡ b + t * 2 ^ 5 → t ≡ c → o + d * 2 ^ 7 + e * 2 ^ 12 + a * 2 ^ 15 + b * 2 ^ 20 + c * 2 ^ 25 ≡ w
sum_up w o p d q e r a s b t c h1 h2 h3 h4 h5 h6 = omega arith

pub whole : (w : ℕ) → w < 2 ^ 32 → joined (opcode w) (fields_of w) ≡ w
whole w h =
    sum_up w (w % 2 ^ 7) (w / 2 ^ 7) (w / 2 ^ 7 % 2 ^ 5) (w / 2 ^ 12) (w / 2 ^ 12 % 2 ^ 3) (w / 2 ^ 15) (w / 2 ^ 15 % 2 ^ 5)
    (w / 2 ^ 20) (w / 2 ^ 20 % 2 ^ 5) (w / 2 ^ 25) (w / 2 ^ 25 % 2 ^ 7) (omega arith) (omega arith) (omega arith)
    (omega arith) (omega arith) (omega arith)
