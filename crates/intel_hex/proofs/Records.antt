-- The types of records, by their numbers.
-- Assumes nothing.
use mathlib.Core.Bool.{Bool, true, false}
use mathlib.Core.Path.{◌≡◌, refl, sym, ap, ◌∙◌}
use Prim.Native.Nat.{ℕ}
use borrow.Author.Tests.{eq-eqb, ne_eqb, eqb-true}
use lib.Dec.{eqb}
use Rattle.std.specs.Prelude.{Option, Some, None}
use Rattle.std.specs.Option.{option_eq}
use Rattle.intel_hex.specs.Line.{is_read}
use Rattle.intel_hex.specs.Inner.{type_number, record_type_at}
use Rattle.intel_hex.specs.declared.line.RecordType.{RecordType}
use Rattle.intel_hex.specs.declared.line.RecordType.TheVariants.{Data, End, UpperAddress, StartAddress}
use Rattle.intel_hex.proofs.Digits.{by_test}

abbrev pub Tells : Option RecordType → ℕ → Type 0
Tells (Some Data) n = n ≡ 0
Tells (Some End) n = n ≡ 1
Tells (Some UpperAddress) n = n ≡ 4
Tells (Some StartAddress) n = n ≡ 5
Tells None n = is_read n ≡ false

told_at : (n : ℕ) → Tells (record_type_at n) n
unfolding record_type_at is_read
told_at n =
    by_test (eqb n 0) (λ a. rw a (eqb-true n 0 a)) (λ a.
    by_test (eqb n 1) (λ b. rw (a, b) (eqb-true n 1 b)) (λ b.
    by_test (eqb n 4) (λ c. rw (a, b, c) (eqb-true n 4 c)) (λ c.
    by_test (eqb n 5) (λ d. rw (a, b, c, d) (eqb-true n 5 d)) (λ d. rw (a, b, c, d) (rw (a, b, c, d) refl)))))

pub told : (n : ℕ) (k : Option RecordType) → k ≡ record_type_at n → Tells k n
told n k e = rw e (told_at n)

-- the type that is asked for
at_number : (k : RecordType) → record_type_at (type_number k) ≡ Some k
unfolding record_type_at
at_number Data = refl
at_number End = refl
at_number UpperAddress = refl
at_number StartAddress = refl

number_told : (n : ℕ) (k : RecordType) → Tells (Some k) n → n ≡ type_number k
number_told n Data e = e
number_told n End e = e
number_told n UpperAddress e = e
number_told n StartAddress e = e

pub same_type : (E : RecordType → RecordType → Bool) → ((a b : RecordType) → E a b ≡ true → a ≡ b) → ((a : RecordType) → E a a ≡ true)
    → (n : ℕ) (k : RecordType) (r : Option RecordType) → r ≡ record_type_at n → option_eq E r (Some k) ≡ eqb n (type_number k)
same_type E one self n k None e =
    sym (ne_eqb n (type_number k) (λ z. let q : ◌≡◌ {A = Option RecordType} None (Some k) = e ∙ ap record_type_at z ∙ at_number k in cc))
same_type E one self n k (Some x) e =
    by_test (E x k)
    (λ h. rw (h, eq-eqb n (type_number k) (number_told n k (told n (Some k) (rw (one x k h) at e)))))
    (λ h. rw (
      h,
      ne_eqb n (type_number k) (λ z.
          let q : ◌≡◌ {A = Option RecordType} (Some x) (Some k) = e ∙ ap record_type_at z ∙ at_number k in
          let y : x ≡ k = cc in
          let w = rw y at h in
          let v : false ≡ true = sym w ∙ self k in cc),
    ))
