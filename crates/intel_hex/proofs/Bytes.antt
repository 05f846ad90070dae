-- What a record does to one byte of memory.
-- Assumes nothing.
use mathlib.Core.Bool.{Bool, true, false}
use mathlib.Core.List.{List, [], ◌∷◌}
use mathlib.Core.Path.{◌≡◌, refl, sym, ap, ◌∙◌}
use Prim.Native.Nat.{ℕ, zero, suc, ◌+◌, ◌-◌, ◌<◌, ◌≤◌}
use native.Mathlib.Omega.{arith}
use borrow.Author.Tests.{eq-eqb, ne_eqb, le-leb, lt-leb, lt-ltb, le-ltb, eqb-true, eqb-false}
use lib.Dec.{eqb}
use lib.ListN.{length, get_or, set, length-set}
use lib.Seq.{sets, length-sets, get_or-set_same, get_or-set_other}
use Rattle.word.specs.Choice.{pick}
use Rattle.word.proofs.Either.{either}
use Rattle.intel_hex.specs.Line.{record_type_of, record_count_of, record_address_of, data_of, good}
use Rattle.intel_hex.specs.Load.{placed}
use Rattle.intel_hex.proofs.Named.{names, data_at}
use Rattle.intel_hex.proofs.Digits.{by_test}
use Rattle.intel_hex.proofs.Good.{data_length, data_inside, placed_other}

-- a row of stores: the bytes before it, behind it, and in it
before : (vs l : List ℕ) (i j : ℕ) → j < i → get_or (sets l i vs) j 0 ≡ get_or l j 0
before [] l i j h = refl
before (a ∷ vs) l i j h = before vs (set l i a) (suc i) j (omega arith) ∙ get_or-set_other l i j a 0 (λ e. omega arith)

behind : (vs l : List ℕ) (i j : ℕ) → i + length vs ≤ j → get_or (sets l i vs) j 0 ≡ get_or l j 0
behind [] l i j h = refl
behind (a ∷ vs) l i j h = behind vs (set l i a) (suc i) j (omega arith) ∙ get_or-set_other l i j a 0 (λ e. omega arith)

within : (vs l : List ℕ) (i k : ℕ) → i + length vs ≤ length l → k < length vs → get_or (sets l i vs) (i + k) 0 ≡ get_or vs k 0
within [] l i k h n = absurd (omega arith)
within (a ∷ vs) l i zero h n =
    let e : i + 0 ≡ i = omega arith in
    rw e (before vs (set l i a) (suc i) i (omega arith) ∙ get_or-set_same l i a 0 (omega arith))
within (a ∷ vs) l i (suc k) h n =
    let e : i + suc k ≡ suc i + k = omega arith in
    rw e (within vs (set l i a) (suc i) k (simp length-set (omega arith)) (omega arith))

length_either : (t : Bool) (mem : List ℕ) (i : ℕ) (vs : List ℕ) → length (pick t (sets mem i vs) mem) ≡ length mem
length_either true mem i vs = length-sets mem i vs
length_either false mem i vs = refl

pub length_placed : (upper : ℕ) (l mem : List ℕ) → length (placed upper l mem) ≡ length mem
unfolding placed
length_placed upper l mem = length_either (eqb (record_type_of l) 0) mem (record_address_of upper l - 0x8000_0000) (data_of l)

-- one byte after a good record: what the record has for it, or what it was
module _ (upper : ℕ) (l mem : List ℕ) (g : good (length mem) upper l ≡ true) (j : ℕ) where
  abbrev After : Type 0
  After = get_or (placed upper l mem) j 0 ≡ pick (names upper l j) (data_at upper l j) (get_or mem j 0)

  other : (record_type_of l ≡ 0 → ⊥) → After
  unfolding names
  other h = rw (ne_eqb (record_type_of l) 0 h) (ap (λ (m : List ℕ). get_or m j 0) (sym (placed_other upper l mem h)))

  module _ (k : record_type_of l ≡ 0) where
    lower : 0x8000_0000 + j < record_address_of upper l → After
    unfolding names placed
    lower h =
        rw (eq-eqb (record_type_of l) 0 k, lt-leb (record_address_of upper l) (0x8000_0000 + j) h)
        (before (data_of l) mem (record_address_of upper l - 0x8000_0000) j (omega arith))

    module _ (h : record_address_of upper l ≤ 0x8000_0000 + j) where
      higher : record_address_of upper l + record_count_of l ≤ 0x8000_0000 + j → After
      unfolding names placed
      higher i =
          let c = data_length (length mem) upper l g in
          let fits : record_address_of upper l - 0x8000_0000 + length (data_of l) ≤ j =
          either 0 (record_count_of l) (λ n. let (a, b) = data_inside (length mem) upper l g k n in omega arith) (λ n. omega arith) in
          rw (eq-eqb (record_type_of l) 0 k, le-leb (record_address_of upper l) (0x8000_0000 + j) h, le-ltb (0x8000_0000 + j) (record_address_of upper l + record_count_of l) i)
          (behind (data_of l) mem (record_address_of upper l - 0x8000_0000) j fits)

      inner : 0x8000_0000 + j < record_address_of upper l + record_count_of l → After
      unfolding names placed data_at
      inner i =
          let (a, b) = data_inside (length mem) upper l g k (omega arith) in
          let c = data_length (length mem) upper l g in
          let e : j ≡ record_address_of upper l - 0x8000_0000 + (0x8000_0000 + j - record_address_of upper l) = omega arith in
          rw (eq-eqb (record_type_of l) 0 k, le-leb (record_address_of upper l) (0x8000_0000 + j) h, lt-ltb (0x8000_0000 + j) (record_address_of upper l + record_count_of l) i)
          (ap (λ (x : ℕ). get_or (sets mem (record_address_of upper l - 0x8000_0000) (data_of l)) x 0) e
          ∙ within (data_of l) mem (record_address_of upper l - 0x8000_0000) (0x8000_0000 + j - record_address_of upper l) (omega arith) (omega arith))

    any : After
    any = either (0x8000_0000 + j) (record_address_of upper l) lower (λ h. either (0x8000_0000 + j) (record_address_of upper l + record_count_of l) (inner h) (higher h))

  pub placed_byte : After
  placed_byte = by_test (eqb (record_type_of l) 0) (λ e. any (eqb-true (record_type_of l) 0 e)) (λ e. other (eqb-false (record_type_of l) 0 e))
