-- What OP, OP-IMM and their word forms compute from two numbers, and when a branch is taken. Rules 4.3 to 4.16 and 4.19 of docs/HART.md.
use Rattle.std.specs.Prelude.{Bool, true, false, not, ℕ, eqb, ltb}
use Rattle.std.specs.Int.Bits.{bit_and, bit_or, bit_xor}
use Rattle.isa.specs.declared.Condition.{Condition}
use Rattle.isa.specs.declared.Condition.TheVariants.{Equal, NotEqual, Less, NotLess, LessUnsigned, NotLessUnsigned}
use Rattle.isa.specs.declared.Operation.{Operation}
use Rattle.isa.specs.declared.Operation.TheVariants.{Add, Sub, Sll, Slt, Sltu, Xor, Srl, Sra, Or, And, Mul, Mulh, Mulhsu, Mulhu, Div, Divu, Rem}
use Rattle.isa.specs.declared.Operation.TheVariants.{Remu, Min, Minu, Max, Maxu, Clz, Ctz, Cpop}
use Rattle.isa.specs.declared.WordOperation.{WordOperation}
use Rattle.isa.specs.declared.WordOperation.TheVariants.{Addw, Subw, Sllw, Srlw, Sraw, Mulw, Divw, Divuw, Remw, Remuw, Clzw, Ctzw, Cpopw}
use Rattle.product.specs.Count.{leading_of, trailing_of, set_of}
use Rattle.product.specs.Extreme.{smaller_of, larger_of}
use Rattle.product.specs.Product.{product_of, upper_of, product_word_of}
use Rattle.product.specs.Quotient.{quotient_of, remainder_of, quotient_word_of, remainder_word_of}
use Rattle.word.specs.Order.{signed_less_of}
use Rattle.word.specs.Shift.{left_of, right_of, arithmetic_of, left_word_of, right_word_of, arithmetic_word_of}
use Rattle.word.specs.Sum.{sum_of, difference_of, sum_word_of, difference_word_of}

-- 1 where a test holds, else 0
abbrev pub one_of : Bool → ℕ
one_of true = 1
one_of false = 0

abbrev pub operation_of : Operation → (a b : ℕ) → ℕ
operation_of Add a b = sum_of a b
operation_of Sub a b = difference_of a b
operation_of Sll a b = left_of a b
operation_of Slt a b = one_of (signed_less_of a b)
operation_of Sltu a b = one_of (ltb a b)
operation_of Xor a b = bit_xor a b
operation_of Srl a b = right_of a b
operation_of Sra a b = arithmetic_of a b
operation_of Or a b = bit_or a b
operation_of And a b = bit_and a b
operation_of Mul a b = product_of a b
operation_of Mulh a b = upper_of true true a b
operation_of Mulhsu a b = upper_of true false a b
operation_of Mulhu a b = upper_of false false a b
operation_of Div a b = quotient_of true 64 a b
operation_of Divu a b = quotient_of false 64 a b
operation_of Rem a b = remainder_of true 64 a b
operation_of Remu a b = remainder_of false 64 a b
operation_of Min a b = smaller_of true a b
operation_of Minu a b = smaller_of false a b
operation_of Max a b = larger_of true a b
operation_of Maxu a b = larger_of false a b
operation_of Clz a b = leading_of 64 a
operation_of Ctz a b = trailing_of 64 a
operation_of Cpop a b = set_of 64 a

abbrev pub word_operation_of : WordOperation → (a b : ℕ) → ℕ
word_operation_of Addw a b = sum_word_of a b
word_operation_of Subw a b = difference_word_of a b
word_operation_of Sllw a b = left_word_of a b
word_operation_of Srlw a b = right_word_of a b
word_operation_of Sraw a b = arithmetic_word_of a b
word_operation_of Mulw a b = product_word_of a b
word_operation_of Divw a b = quotient_word_of true a b
word_operation_of Divuw a b = quotient_word_of false a b
word_operation_of Remw a b = remainder_word_of true a b
word_operation_of Remuw a b = remainder_word_of false a b
word_operation_of Clzw a b = leading_of 32 a
word_operation_of Ctzw a b = trailing_of 32 a
word_operation_of Cpopw a b = set_of 32 a

-- BEQ, BNE, BLT, BGE, BLTU, BGEU
abbrev pub condition_of : Condition → (a b : ℕ) → Bool
condition_of Equal a b = eqb a b
condition_of NotEqual a b = not (eqb a b)
condition_of Less a b = signed_less_of a b
condition_of NotLess a b = not (signed_less_of a b)
condition_of LessUnsigned a b = ltb a b
condition_of NotLessUnsigned a b = not (ltb a b)
