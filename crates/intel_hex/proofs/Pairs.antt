-- Hex pairs: the bytes that they say, by place, and the sum of these.
-- Assumes nothing.
use mathlib.Core.Bool.{true, false, ◌&&◌}
use mathlib.Core.List.{List, [], ◌∷◌}
use mathlib.Core.Path.{◌≡◌, refl}
use Prim.Native.Nat.{ℕ, zero, suc, ◌+◌, ◌*◌, ◌/◌, ◌%◌, ◌<◌, ◌≤◌}
use native.Mathlib.Omega.{arith}
use borrow.Author.Tests.{lt-ltb, le-ltb, ltb-true}
use lib.Dec.{ltb, eqb}
use lib.ListN.{length, get_or, drop, drop_of_length-le}
use lib.Seq.{drop-cons}
use native.Mathlib.Numerals.{add-one}
use Rattle.std.specs.Simd.{first_chunks}
use Rattle.word.proofs.Bools.{both}
use Rattle.word.proofs.Either.{either}
use Rattle.intel_hex.specs.Digits.{digit_of, is_digit, hex_pairs, pairs_of, total}
use Rattle.intel_hex.specs.Line.{byte_of}
use Rattle.intel_hex.specs.Inner.{weight_of}
use Rattle.intel_hex.proofs.Digits.{by_test, weight_is, pair_good, pair_large}

pub length_pairs : (ds : List ℕ) → length (pairs_of ds) ≡ length ds / 2
unfolding pairs_of
length_pairs [] = refl
length_pairs (h ∷ []) = refl
length_pairs (h ∷ l ∷ rest) = let r = length_pairs rest in omega arith

-- hex pairs are digits, two at a time
pub first_two : (a b : ℕ) (rest : List ℕ) → hex_pairs (a ∷ b ∷ rest) ≡ true → (digit_of a < 16) × (digit_of b < 16) × (hex_pairs rest ≡ true)
unfolding hex_pairs is_digit
first_two a b rest h =
    let (p, q) = both (ltb (digit_of a) 16) (ltb (digit_of b) 16 && hex_pairs rest) h in
    let (r, s) = both (ltb (digit_of b) 16) (hex_pairs rest) q in
    (ltb-true (digit_of a) 16 p, ltb-true (digit_of b) 16 r, s)

rest_bad : (a b : ℕ) (rest : List ℕ) → digit_of a < 16 → digit_of b < 16 → hex_pairs (a ∷ b ∷ rest) ≡ false → hex_pairs rest ≡ false
unfolding hex_pairs is_digit
rest_bad a b rest p q h = rw (lt-ltb (digit_of a) 16 p, lt-ltb (digit_of b) 16 q) at h

pub even : (ds : List ℕ) → hex_pairs ds ≡ true → length ds % 2 ≡ 0
unfolding hex_pairs
even [] h = refl
even (x ∷ []) h = cc
even (x ∷ y ∷ rest) h = let r = even rest (first_two x y rest h).2 in omega arith

-- byte k is the pair at 2 k
abbrev Pair : (v : ℕ) → (x y : ℕ) → Type 0
Pair v x y = (v ≡ digit_of x * 16 + digit_of y) × (digit_of x < 16) × (digit_of y < 16)

pair_at : (ds : List ℕ) (k : ℕ) → hex_pairs ds ≡ true → 2 * k + 1 < length ds
    → Pair (get_or (pairs_of ds) k 0) (get_or ds (2 * k) 0) (get_or ds (2 * k + 1) 0)
unfolding pairs_of
pair_at [] k h n = absurd (omega arith)
pair_at (x ∷ []) k h n = absurd (omega arith)
pair_at (x ∷ y ∷ rest) zero h n = let (p, q, r) = first_two x y rest h in (refl, p, q)
pair_at (x ∷ y ∷ rest) (suc k) h n =
    let e : 2 * suc k ≡ suc (suc (2 * k)) = omega arith in
    let f : suc (suc (2 * k)) + 1 ≡ suc (suc (2 * k + 1)) = omega arith in
    rw (e, f) (pair_at rest k (first_two x y rest h).2 (omega arith))

pub byte_at : (l : List ℕ) (k : ℕ) → hex_pairs (drop 1 l) ≡ true → 2 * k + 2 < length l
    → Pair (byte_of l k) (get_or l (2 * k + 1) 0) (get_or l (2 * k + 2) 0)
unfolding byte_of
byte_at [] k h n = absurd (omega arith)
byte_at (c ∷ ds) k h n =
    let e : 2 * k + 1 ≡ suc (2 * k) = omega arith in
    let f : 2 * k + 2 ≡ suc (2 * k + 1) = omega arith in
    rw (f, e) (rw e at (pair_at ds k h (omega arith)))

-- what the code makes of bytes, two at a time
unfoldable pub weights : List ℕ → ℕ
weights [] = 0
weights (h ∷ []) = 0
weights (h ∷ l ∷ rest) = weight_of h * 16 + weight_of l + weights rest

-- the same of pairs
abbrev pub pair_weight : List ℕ → ℕ
pair_weight p = weight_of (get_or p 0 0) * 16 + weight_of (get_or p 1 0)

unfoldable pub pair_weights : List (List ℕ) → ℕ
pair_weights [] = 0
pair_weights (p ∷ ps) = pair_weight p + pair_weights ps

pub chunk_weights : (ds : List ℕ) → pair_weights (first_chunks 2 (length ds / 2) ds) ≡ weights ds
unfolding pair_weights weights
chunk_weights [] = refl
chunk_weights (x ∷ []) = refl
chunk_weights (x ∷ y ∷ rest) =
    let n : length (x ∷ y ∷ rest) / 2 ≡ suc (length rest / 2) = omega arith in
    let r = chunk_weights rest in
    rw (n, r)

pub next_pair : (ps : List (List ℕ)) (k : ℕ) → k < length ps → pair_weights (drop k ps) ≡ pair_weight (get_or ps k []) + pair_weights (drop (k + 1) ps)
unfolding pair_weights
next_pair ps k h = rw (drop-cons ps k [] h, add-one)

pub all_weighed : (ps : List (List ℕ)) (k : ℕ) → length ps ≤ k → pair_weights (drop k ps) ≡ 0
unfolding pair_weights
all_weighed ps k h = rw (drop_of_length-le ps {i = k} h)

-- it is at most 255 a pair where all are digits, and more than all pairs of a line add up to where one is not
abbrev Weighed : List ℕ → Type 0
Weighed ds =
    (hex_pairs ds ≡ true → (weights ds ≡ total (pairs_of ds)) × (2 * weights ds ≤ 255 * length ds))
    × (hex_pairs ds ≡ false → 0x10_0000 ≤ weights ds)

weighed : (ds : List ℕ) → length ds % 2 ≡ 0 → Weighed ds
unfolding weights hex_pairs pairs_of total
weighed [] n = (λ _. (refl, omega arith), λ h. cc)
weighed (x ∷ []) n = absurd (omega arith)
weighed (x ∷ y ∷ rest) n =
    let (good, bad) = weighed rest (omega arith) in
    let b = weight_of x * 16 + weight_of y in (
      λ h. let (p, q, r) = first_two x y rest h in let (e, m) = good r in rw (weight_is x p, weight_is y q) (omega (arith, e), omega (arith, m)),
      λ h. either 255 b
          (λ l. omega (arith, pair_large x y b refl l))
          (λ l. let (p, q, _) = pair_good x y b refl l in omega (arith, bad (rest_bad x y rest p q h))),
    )

-- so the one test of the code is the two of the definition
pub summed : (ds : List ℕ) (sum : ℕ) → length ds % 2 ≡ 0 → length ds ≤ 520 → sum ≡ weights ds
    → ltb sum 0x10_0000 && eqb (sum % 256) 0 ≡ hex_pairs ds && eqb (total (pairs_of ds) % 256) 0
summed ds sum n m e =
    let (good, bad) = weighed ds n in
    by_test (hex_pairs ds)
    (λ h. let (p, q) = good h in rw (h, e, p, lt-ltb (total (pairs_of ds)) 0x10_0000 (omega (arith, p, q))))
    (λ h. let l = bad h in rw (h, le-ltb sum 0x10_0000 (omega arith)))
