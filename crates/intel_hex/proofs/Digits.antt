-- What the code makes of a byte: the value of a digit, or 0x100000; so two bytes say at most 255 exactly if both are digits. The code's formula for
-- a digit is tested at each of 256 bytes.
-- Assumes nothing.
use mathlib.Core.Bool.{Bool, true, false, ◌&&◌}
use mathlib.Core.Path.{◌≡◌, refl}
use Prim.Native.Nat.{ℕ, zero, suc, ◌+◌, ◌-◌, ◌*◌, ◌<◌, ◌≤◌}
use native.Mathlib.Omega.{arith}
use borrow.Author.Tests.{ltb-true, leb-true, eqb-true, eqb-false, lt-ltb, lt-leb, le-leb}
use lib.Dec.{ltb, leb, eqb}
use Rattle.word.specs.Choice.{pick}
use Rattle.word.proofs.Bools.{both}
use Rattle.word.proofs.Either.{either}
use Rattle.intel_hex.specs.Digits.{digit_of, is_digit}
use Rattle.intel_hex.specs.Inner.{weight_of}

pub by_test : {A : Type 0} (t : Bool) → (t ≡ true → A) → (t ≡ false → A) → A
by_test true f g = f refl
by_test false f g = g refl

all_below : ℕ → (ℕ → Bool) → Bool
all_below zero f = true
all_below (suc k) f = f k && all_below k f

below : (m : ℕ) (f : ℕ → Bool) → all_below m f ≡ true → (n : ℕ) → n < m → f n ≡ true
unfolding all_below
below zero f h n l = absurd (omega arith)
below (suc m) f h n l =
    let (p, q) = both (f m) (all_below m f) h in
    by_test (eqb n m) (λ e. rw (eqb-true n m e) p) (λ e. let d = eqb-false n m e in below m f q n (omega arith))

-- a test of each byte, and what it tells of digits of each kind and of any other byte
formula : ℕ → ℕ
formula n =
    pick (leb 48 n && leb n 57) (n - 48) (pick (leb 65 n && leb n 70) (n - 65 + 10) (pick (leb 97 n && leb n 102) (n - 97 + 10) 0x10_0000))

told : (n : ℕ) → n < 256 → formula n ≡ weight_of n
unfolding all_below formula weight_of is_digit digit_of
told n h = eqb-true (formula n) (weight_of n) (below 256 (λ (k : ℕ). eqb (formula k) (weight_of k)) refl n h)

out : (n a b : ℕ) → (a ≤ n → n ≤ b → ⊥) → leb a n && leb n b ≡ false
out n a b f = by_test (leb a n) (λ h. rw (h, lt-leb n b (either b n (λ l. l) (λ l. absurd (f (leb-true a n h) l))))) (λ h. rw h)

module _ (n : ℕ) where
  pub decimal : 48 ≤ n → n ≤ 57 → n - 48 ≡ weight_of n
  unfolding formula
  decimal h l = rw (le-leb 48 n h, le-leb n 57 l) at (told n (omega arith))

  pub upper_case : 65 ≤ n → n ≤ 70 → n - 65 + 10 ≡ weight_of n
  unfolding formula
  upper_case h l = rw (out n 48 57 (λ a b. omega arith), le-leb 65 n h, le-leb n 70 l) at (told n (omega arith))

  pub lower_case : 97 ≤ n → n ≤ 102 → n - 97 + 10 ≡ weight_of n
  unfolding formula
  lower_case h l = rw (out n 48 57 (λ a b. omega arith), out n 65 70 (λ a b. omega arith), le-leb 97 n h, le-leb n 102 l) at (told n (omega arith))

  pub other_byte : n < 256 → (48 ≤ n → n ≤ 57 → ⊥) → (65 ≤ n → n ≤ 70 → ⊥) → (97 ≤ n → n ≤ 102 → ⊥) → 0x10_0000 ≡ weight_of n
  unfolding formula
  other_byte b f g h = rw (out n 48 57 f, out n 65 70 g, out n 97 102 h) at (told n b)

-- what any byte says
range : {A : Type 0} (b : ℕ) → (digit_of b < 16 → weight_of b ≡ digit_of b → A) → (is_digit b ≡ false → weight_of b ≡ 0x10_0000 → A) → A
unfolding weight_of is_digit
range b f g = by_test (ltb (digit_of b) 16) (λ t. f (ltb-true (digit_of b) 16 t) (rw t)) (λ t. g t (rw t))

pub weight_most : (b : ℕ) → weight_of b ≤ 0x10_0000
weight_most b = range b (λ p e. omega arith) (λ p e. omega arith)

pub weight_is : (b : ℕ) → digit_of b < 16 → weight_of b ≡ digit_of b
unfolding weight_of is_digit
weight_is b h = rw (lt-ltb (digit_of b) 16 h)

-- neither LF nor CR is a digit
pub no_end : (b : ℕ) → digit_of b < 16 → (b ≡ 10 → ⊥) × (b ≡ 13 → ⊥)
unfolding digit_of
no_end b h = ((λ e. let k = rw e at h in omega arith), (λ e. let k = rw e at h in omega arith))

module _ (x y b : ℕ) (e : b ≡ weight_of x * 16 + weight_of y) where
  pub pair_good : b ≤ 255 → (digit_of x < 16) × (digit_of y < 16) × (b ≡ digit_of x * 16 + digit_of y)
  pair_good h = range x (λ p f. range y (λ q g. (p, q, omega arith)) (λ q g. absurd (omega arith))) (λ p f. absurd (omega arith))

  -- then it is more than all pairs of a line add up to
  pub pair_large : 255 < b → 0x10_0000 ≤ b
  pair_large h = range x (λ p f. range y (λ q g. absurd (omega arith)) (λ q g. omega arith)) (λ p f. omega arith)
