-- Laws of every row of fields: a write leaves a word that the register can hold, such a word is left by a write of itself, and
-- a read shows what the fields took.
-- Assumes nothing.
use Rattle.std.proofs.Common.{◌≡◌, ℕ, zero, suc, ◌+◌, ◌*◌, ◌/◌, ◌%◌, ◌^◌, ◌<◌, Bool, true, false, ◌&&◌, eqb, ltb, List, [], ◌∷◌, sym, refl, ap, ◌∙◌, mod-lt, mul_assoc, mul_comm, div-lt_iff_lt-mul, add-mul, add_comm, mul-one, div-one, arith, pow_pos, pow-add, shr-shr, ltb-true, eq-eqb, eqb-true}
use lib.Pow.{split, high, low}
use Rattle.word.specs.Choice.{pick}
use Rattle.word.proofs.Bools.{both}
use Rattle.word.specs.Row.{Field, Fixed, Covered, Any, Only, Hidden, field_width_of, takes_of, shows_of, holds_of, digit, write_from, read_from, legal_from}
use Rattle.word.specs.Row.{row_write_of, row_read_of, row_legal_of}

abbrev pub bits_of : List Field → ℕ
bits_of [] = 0
bits_of (f ∷ fs) = field_width_of f + bits_of fs

-- a fixed value fits its field
abbrev pub fits : Field → Bool
fits (Fixed n k) = ltb k (2 ^ n)
fits (Covered n k) = ltb k (2 ^ n)
fits (Any n) = true
fits (Only n ok) = true
fits (Hidden n ok) = true

abbrev pub all_fit : List Field → Bool
all_fit [] = true
all_fit (f ∷ fs) = fits f && all_fit fs

-- a row is well made: its fields fit, and are 64 bits together, so that none of them overlap
abbrev pub well_made : List Field → Bool
well_made fs = all_fit fs && eqb (bits_of fs) 64

-- a field that a write reaches and a read shows
abbrev pub seen : Field → Bool
seen (Fixed n k) = true
seen (Covered n k) = false
seen (Any n) = true
seen (Only n ok) = true
seen (Hidden n ok) = false

-- nothing is hidden
abbrev pub all_seen_of : List Field → Bool
all_seen_of [] = true
all_seen_of (f ∷ fs) = seen f && all_seen_of fs

join : (a b : Bool) → a ≡ true → b ≡ true → (a && b) ≡ true
join a b h g = rw (h, g)

-- a number's lowest digit, and the rest
module _ (n d r : ℕ) (h : d < 2 ^ n) where
  turned : d + 2 ^ n * r ≡ r * 2 ^ n + d
  turned = rw (mul_comm (2 ^ n) r, add_comm d (r * 2 ^ n))

  lowest : (d + 2 ^ n * r) % 2 ^ n ≡ d
  lowest = rw turned (low r n h)

  rest : (d + 2 ^ n * r) / 2 ^ n ≡ r
  rest = rw turned (high r n h)

whole : (m n : ℕ) → m % 2 ^ n + 2 ^ n * (m / 2 ^ n) ≡ m
whole m n = rw (mul_comm (2 ^ n) (m / 2 ^ n), add_comm (m % 2 ^ n) (m / 2 ^ n * 2 ^ n)) (split m n)

one : (P : ℕ → Type 0) (b : Bool) (x y : ℕ) → (b ≡ true → P x) → P y → P (pick b x y)
one P true x y h g = h refl
one P false x y h g = g

-- a field's new value fits it
takes : (f : Field) (old v : ℕ) → fits f ≡ true → old < 2 ^ field_width_of f → v < 2 ^ field_width_of f → takes_of f old v < 2 ^ field_width_of f
takes (Fixed n k) old v h a b = ltb-true k (2 ^ n) h
takes (Covered n k) old v h a b = ltb-true k (2 ^ n) h
takes (Any n) old v h a b = b
takes (Only n ok) old v h a b = one (λ x. x < 2 ^ n) (ok v) v old (λ _. b) a
takes (Hidden n ok) old v h a b = a

-- and is one that it can hold
holds : (f : Field) (old v : ℕ) → holds_of f old ≡ true → holds_of f (takes_of f old v) ≡ true
holds (Fixed n k) old v h = eq-eqb k k refl
holds (Covered n k) old v h = eq-eqb k k refl
holds (Any n) old v h = refl
holds (Only n ok) old v h = one (λ x. ok x ≡ true) (ok v) v old (λ e. e) h
holds (Hidden n ok) old v h = h

-- a value that it can hold is taken, and shown
stays : (f : Field) (old v : ℕ) → seen f ≡ true → holds_of f v ≡ true → takes_of f old v ≡ v
stays (Fixed n k) old v o h = sym (eqb-true v k h)
stays (Covered n k) old v o h = cc
stays (Any n) old v o h = refl
stays (Only n ok) old v o h = rw h
stays (Hidden n ok) old v o h = cc

shows : (f : Field) (d : ℕ) → seen f ≡ true → holds_of f d ≡ true → shows_of f d ≡ d
shows (Fixed n k) d o h = sym (eqb-true d k h)
shows (Covered n k) d o h = cc
shows (Any n) d o h = refl
shows (Only n ok) d o h = refl
shows (Hidden n ok) d o h = cc

-- the same from the word's own bit 0, for induction
unfoldable low_write : List Field → ℕ → ℕ → ℕ
low_write [] old v = 0
low_write (f ∷ fs) old v =
    takes_of f (old % 2 ^ field_width_of f) (v % 2 ^ field_width_of f) + 2 ^ field_width_of f * low_write fs (old / 2 ^ field_width_of f) (v / 2 ^ field_width_of f)

unfoldable low_read : List Field → ℕ → ℕ
low_read [] m = 0
low_read (f ∷ fs) m = shows_of f (m % 2 ^ field_width_of f) + 2 ^ field_width_of f * low_read fs (m / 2 ^ field_width_of f)

unfoldable low_legal : List Field → ℕ → Bool
low_legal [] m = true
low_legal (f ∷ fs) m = holds_of f (m % 2 ^ field_width_of f) && low_legal fs (m / 2 ^ field_width_of f)

-- what a read after a write shows, field by field
unfoldable pub back_of : List Field → (old v : ℕ) → ℕ
back_of [] old v = 0
back_of (f ∷ fs) old v =
    shows_of f (takes_of f (old % 2 ^ field_width_of f) (v % 2 ^ field_width_of f)) + 2 ^ field_width_of f * back_of fs (old / 2 ^ field_width_of f) (v / 2 ^ field_width_of f)

regroup : (t w p q : ℕ) → t * p + w * (p * q) ≡ (t + q * w) * p
regroup t w p q = rw (add-mul, mul_comm q w, mul_assoc, mul_comm p q)

write_is : (k : ℕ) (fs : List Field) (old v : ℕ) → write_from k fs old v ≡ low_write fs (old / 2 ^ k) (v / 2 ^ k) * 2 ^ k
unfolding low_write
write_is k [] old v = omega arith
write_is k (f ∷ fs) old v = rw (write_is (k + field_width_of f) fs old v, shr-shr, shr-shr, pow-add 2 k (field_width_of f)) (regroup _ _ (2 ^ k) (2 ^ field_width_of f))

read_is : (k : ℕ) (fs : List Field) (m : ℕ) → read_from k fs m ≡ low_read fs (m / 2 ^ k) * 2 ^ k
unfolding low_read
read_is k [] m = omega arith
read_is k (f ∷ fs) m = rw (read_is (k + field_width_of f) fs m, shr-shr, pow-add 2 k (field_width_of f)) (regroup _ _ (2 ^ k) (2 ^ field_width_of f))

legal_from_lem : (k : ℕ) (fs : List Field) (m : ℕ) → legal_from k fs m ≡ low_legal fs (m / 2 ^ k)
unfolding low_legal
legal_from_lem k [] m = refl
legal_from_lem k (f ∷ fs) m = rw (legal_from_lem (k + field_width_of f) fs m, shr-shr)

writes : (fs : List Field) (old v : ℕ) → row_write_of fs old v ≡ low_write fs old v
writes fs old v = rw (write_is 0 fs old v) (simp (div-one, mul-one))

reads : (fs : List Field) (m : ℕ) → row_read_of fs m ≡ low_read fs m
reads fs m = rw (read_is 0 fs m) (simp (div-one, mul-one))

legals : (fs : List Field) (m : ℕ) → row_legal_of fs m ≡ low_legal fs m
legals fs m = rw (legal_from_lem 0 fs m) (simp div-one)

low_left : (fs : List Field) (old v : ℕ) → all_fit fs ≡ true → low_legal fs old ≡ true → low_legal fs (low_write fs old v) ≡ true
unfolding low_legal low_write
low_left [] old v g h = refl
low_left (f ∷ fs) old v g h =
    let (a, b) = both (holds_of f (old % 2 ^ field_width_of f)) (low_legal fs (old / 2 ^ field_width_of f)) h in
    let (s, w) = both (fits f) (all_fit fs) g in
    let t = takes f (old % 2 ^ field_width_of f) (v % 2 ^ field_width_of f) s (mod-lt old (pow_pos (field_width_of f))) (mod-lt v (pow_pos (field_width_of f))) in
    let r : ℕ = low_write fs (old / 2 ^ field_width_of f) (v / 2 ^ field_width_of f) in
    rw (lowest (field_width_of f) _ r t, rest (field_width_of f) _ r t)
    (join _ _ (holds f _ _ a) (low_left fs (old / 2 ^ field_width_of f) (v / 2 ^ field_width_of f) w b))

below : (m n k : ℕ) → m < 2 ^ (n + k) → m / 2 ^ n < 2 ^ k
below m n k h = (div-lt_iff_lt-mul (pow_pos n)).1 (rw (pow-add 2 n k, mul_comm (2 ^ n) (2 ^ k)) at h)

low_kept : (fs : List Field) (old m : ℕ) → all_seen_of fs ≡ true → m < 2 ^ bits_of fs → low_legal fs m ≡ true → low_write fs old m ≡ m
unfolding low_legal low_write
low_kept [] old m o l h = omega (arith, l)
low_kept (f ∷ fs) old m o l h =
    let (a, b) = both (holds_of f (m % 2 ^ field_width_of f)) (low_legal fs (m / 2 ^ field_width_of f)) h in
    let (p, q) = both (seen f) (all_seen_of fs) o in
    rw (stays f (old % 2 ^ field_width_of f) _ p a, low_kept fs (old / 2 ^ field_width_of f) _ q (below m (field_width_of f) (bits_of fs) l) b) (whole m (field_width_of f))

low_shown : (fs : List Field) (m : ℕ) → all_seen_of fs ≡ true → m < 2 ^ bits_of fs → low_legal fs m ≡ true → low_read fs m ≡ m
unfolding low_legal low_read
low_shown [] m o l h = omega (arith, l)
low_shown (f ∷ fs) m o l h =
    let (a, b) = both (holds_of f (m % 2 ^ field_width_of f)) (low_legal fs (m / 2 ^ field_width_of f)) h in
    let (p, q) = both (seen f) (all_seen_of fs) o in
    rw (shows f _ p a, low_shown fs _ q (below m (field_width_of f) (bits_of fs) l) b) (whole m (field_width_of f))

low_back : (fs : List Field) (old v : ℕ) → all_fit fs ≡ true → low_read fs (low_write fs old v) ≡ back_of fs old v
unfolding low_read low_write back_of
low_back [] old v g = refl
low_back (f ∷ fs) old v g =
    let (s, w) = both (fits f) (all_fit fs) g in
    let t = takes f (old % 2 ^ field_width_of f) (v % 2 ^ field_width_of f) s (mod-lt old (pow_pos (field_width_of f))) (mod-lt v (pow_pos (field_width_of f))) in
    let r : ℕ = low_write fs (old / 2 ^ field_width_of f) (v / 2 ^ field_width_of f) in
    rw (lowest (field_width_of f) _ r t, rest (field_width_of f) _ r t, low_back fs (old / 2 ^ field_width_of f) (v / 2 ^ field_width_of f) w)

-- every write over a word that the register can hold leaves one that it can hold
pub left : (fs : List Field) (old v : ℕ) → all_fit fs ≡ true → row_legal_of fs old ≡ true → row_legal_of fs (row_write_of fs old v) ≡ true
left fs old v g h = rw (legals fs (row_write_of fs old v), writes) (low_left fs old v g (rw legals at h))

-- a word that the register can hold is left by a write of it, over any word
pub kept : (fs : List Field) (old m : ℕ) → all_seen_of fs ≡ true → m < 2 ^ bits_of fs → row_legal_of fs m ≡ true → row_write_of fs old m ≡ m
kept fs old m o l h = rw writes (low_kept fs old m o l (rw legals at h))

-- such a word reads as it is stored, where nothing is hidden
pub shown : (fs : List Field) (m : ℕ) → all_seen_of fs ≡ true → m < 2 ^ bits_of fs → row_legal_of fs m ≡ true → row_read_of fs m ≡ m
shown fs m o l h = rw reads (low_shown fs m o l (rw legals at h))

-- a read after a write shows what each field took
pub back : (fs : List Field) (old v : ℕ) → all_fit fs ≡ true → row_read_of fs (row_write_of fs old v) ≡ back_of fs old v
back fs old v g = rw (reads fs (row_write_of fs old v), writes) (low_back fs old v g)

same : (a b : Bool) → (a ≡ true → b ≡ true) → (b ≡ true → a ≡ true) → a ≡ b
same true b h g = sym (h refl)
same false true h g = g refl
same false false h g = refl

-- so the register can hold a word exactly where a write of it, over a word that it can hold, leaves it as it is
pub legal_is : (fs : List Field) (r m : ℕ) → all_fit fs ≡ true → all_seen_of fs ≡ true → row_legal_of fs r ≡ true → m < 2 ^ bits_of fs
    → row_legal_of fs m ≡ eqb (row_write_of fs r m) m
legal_is fs r m g o h l =
    same (row_legal_of fs m) (eqb (row_write_of fs r m) m) (λ e. eq-eqb (row_write_of fs r m) m (kept fs r m o l e))
    (λ e. rw (eqb-true (row_write_of fs r m) m e) at (left fs r m g h))

-- as code tests it
pub passes : (fs : List Field) (r m w : ℕ) → all_fit fs ≡ true → all_seen_of fs ≡ true → row_legal_of fs r ≡ true → m < 2 ^ bits_of fs → w ≡ row_write_of fs r m
    → eqb w m ≡ row_legal_of fs m
passes fs r m w g o h l e = ap (λ (x : ℕ). eqb x m) e ∙ sym (legal_is fs r m g o h l)

-- the i-th field of a row, from bit k upward, holds one of its values
abbrev pub HoldsAt : (i k : ℕ) → List Field → ℕ → Type 0
HoldsAt i k [] m = Unit {0}
HoldsAt zero k (f ∷ fs) m = holds_of f (digit k (field_width_of f) m) ≡ true
HoldsAt (suc i) k (f ∷ fs) m = HoldsAt i (k + field_width_of f) fs m

-- each field of a word that the register can hold does
pub each : (i k : ℕ) (fs : List Field) (m : ℕ) → legal_from k fs m ≡ true → HoldsAt i k fs m
each i k [] m h = tt
each zero k (f ∷ fs) m h = (both (holds_of f (digit k (field_width_of f) m)) (legal_from (k + field_width_of f) fs m) h).0
each (suc i) k (f ∷ fs) m h = each i (k + field_width_of f) fs m (both (holds_of f (digit k (field_width_of f) m)) (legal_from (k + field_width_of f) fs m) h).1
