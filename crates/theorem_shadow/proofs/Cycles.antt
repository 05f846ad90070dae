-- With p masked bits the addresses come round in a cycle of 2 ^ (64 - p), and under Sv39 every such cycle has a gap of addresses that are
-- not canonical. The rank of an address counts eights from just above the first one of the gap, 2 ^ 38: it rises by 1 from each
-- address to the next one up, except from that one.
-- Assumes nothing.
use mathlib.Core.Path.{◌≡◌, sym, ◌∙◌, ap}
use mathlib.Core.Bool.{Bool, true, false, true≢false}
use mathlib.Core.Logic.{◌⊎◌, inl, inr}
use Prim.Native.Nat.{ℕ, suc, ◌+◌, ◌*◌, ◌-◌, ◌/◌, ◌%◌, ◌^◌, ◌<◌, ◌≤◌}
use native.Mathlib.Omega.{arith}
use lib.Dec.{eqb}
use borrow.Author.Tests.{eqb-true}
use Rattle.word.proofs.Either.{either}
use Rattle.word.specs.Choice.{pick}
use Rattle.word.specs.Sign.{sign_extend_of}
use Rattle.word.specs.Sum.{sum_of, difference_of}
use Rattle.address.specs.Mask.{pmlen_of}
use Rattle.address_place.specs.Place.{canonical_of, page_number}

-- the numbers of masked bits, one by one, so that every modulus below is a numeral
pub data Masked : ℕ → Type 0 where
  none : Masked 0
  seven : Masked 7
  sixteen : Masked 16

pub masked : (pmm : ℕ) → Masked (pmlen_of pmm)
masked pmm = go (eqb pmm 2) (eqb pmm 3)
  where
    go : (a b : Bool) → Masked (pick a 7 (pick b 16 0))
    go true b = seven
    go false true = sixteen
    go false false = none

abbrev pub cycle : (p : ℕ) → ℕ
cycle p = 2 ^ (64 - p)

-- the cycle, turned so that it starts just above 2 ^ 38
abbrev turned : (p a : ℕ) → ℕ
turned p a = (a % cycle p + (cycle p - (2 ^ 38 + 8))) % cycle p

unfoldable pub rank_of : (p a : ℕ) → ℕ
rank_of p a = turned p a / 8

pub rank_step : {p : ℕ} → Masked p → (a : ℕ) → a % 8 ≡ 0 → (a % cycle p ≡ 2 ^ 38 → ⊥) → rank_of p (sum_of a 8) ≡ suc (rank_of p a)
unfolding rank_of
rank_step none a s h = omega arith
rank_step seven a s h = omega arith
rank_step sixteen a s h = omega arith

-- down by 8 and up again
back : (a : ℕ) → sum_of (difference_of a 8) 8 ≡ a % 2 ^ 64
back a = omega arith

in_cycle : {p : ℕ} → Masked p → (a : ℕ) → a % 2 ^ 64 % cycle p ≡ a % cycle p
in_cycle none a = omega arith
in_cycle seven a = omega arith
in_cycle sixteen a = omega arith

pub rank_back : {p : ℕ} → Masked p → (a : ℕ) → rank_of p (sum_of (difference_of a 8) 8) ≡ rank_of p a
unfolding rank_of
rank_back k a = rw (back a, in_cycle k a)

turned_8 : {p : ℕ} → Masked p → (a : ℕ) → a % 8 ≡ 0 → turned p a % 8 ≡ 0
turned_8 none a s = omega arith
turned_8 seven a s = omega arith
turned_8 sixteen a s = omega arith

turned_inj : {p : ℕ} → Masked p → (a b : ℕ) → turned p a ≡ turned p b → a % cycle p ≡ b % cycle p
turned_inj none a b h = omega arith
turned_inj seven a b h = omega arith
turned_inj sixteen a b h = omega arith

eighths : (r s : ℕ) → r % 8 ≡ 0 → s % 8 ≡ 0 → r / 8 ≡ s / 8 → r ≡ s
eighths r s hr hs h = omega arith

pub rank_same : (p a b : ℕ) → a % cycle p ≡ b % cycle p → rank_of p a ≡ rank_of p b
unfolding rank_of
rank_same p a b h = rw h

pub rank_inj : {p : ℕ} → Masked p → (a b : ℕ) → a % 8 ≡ 0 → b % 8 ≡ 0 → rank_of p a ≡ rank_of p b → a % cycle p ≡ b % cycle p
unfolding rank_of
rank_inj {p} k a b s t h = turned_inj k a b (eighths (turned p a) (turned p b) (turned_8 k a s) (turned_8 k b t) h)

gap_kept : {p : ℕ} → Masked p → (a : ℕ) → a % cycle p ≡ 2 ^ 38 → sign_extend_of (64 - p) a ≡ 2 ^ 38
gap_kept none a h = omega arith
gap_kept seven a h = omega arith
gap_kept sixteen a h = omega arith

-- no address that masking makes canonical is there
pub gap : {p : ℕ} → Masked p → (a : ℕ) → canonical_of (sign_extend_of (64 - p) a) ≡ true → a % cycle p ≡ 2 ^ 38 → ⊥
gap k a c h = true≢false (sym c ∙ ap canonical_of (gap_kept k a h))

-- sign extension tells the addresses of a cycle apart, and no others
pub sign_same : {p : ℕ} → Masked p → (a b : ℕ) → a % cycle p ≡ b % cycle p → sign_extend_of (64 - p) a ≡ sign_extend_of (64 - p) b
sign_same none a b h = omega arith
sign_same seven a b h = omega arith
sign_same sixteen a b h = omega arith

pub sign_inj : {p : ℕ} → Masked p → (a b : ℕ) → sign_extend_of (64 - p) a ≡ sign_extend_of (64 - p) b → a % cycle p ≡ b % cycle p
sign_inj none a b h = omega arith
sign_inj seven a b h = omega arith
sign_inj sixteen a b h = omega arith

pub sign_lt : {p : ℕ} → Masked p → (a : ℕ) → sign_extend_of (64 - p) a < 2 ^ 64
sign_lt none a = omega arith
sign_lt seven a = omega arith
sign_lt sixteen a = omega arith

-- where the canonical addresses are: below the gap, or above it
abbrev Sides : ℕ → Type 0
Sides t = (t < 2 ^ 38) ⊎ (2 ^ 64 - 2 ^ 38 ≤ t)

sides : (t : ℕ) → canonical_of t ≡ true → Sides t
sides t c =
    let h : t / 2 ^ 39 ≡ t / 2 ^ 38 % 2 * (2 ^ 25 - 1) = eqb-true _ _ c in
    either (t / 2 ^ 38 % 2) 1 (λ l. inl (clear (omega arith) (omega arith))) (λ l. inr (set (omega arith) (omega arith)))
  where
    clear : t / 2 ^ 38 % 2 ≡ 0 → t / 2 ^ 39 ≡ 0 → t < 2 ^ 38
    clear b h = omega arith

    set : t / 2 ^ 38 % 2 ≡ 1 → t / 2 ^ 39 ≡ 2 ^ 25 - 1 → 2 ^ 64 - 2 ^ 38 ≤ t
    set b h = omega arith

-- a canonical address is known by its page number and its offset in the page
known : (v u : ℕ) → v < 2 ^ 64 → u < 2 ^ 64 → Sides v → Sides u → page_number v ≡ page_number u → v % 4096 ≡ u % 4096 → v ≡ u
known v u lv lu (inl a) (inl b) hp ho = omega arith
known v u lv lu (inl a) (inr b) hp ho = omega arith
known v u lv lu (inr a) (inl b) hp ho = omega arith
known v u lv lu (inr a) (inr b) hp ho = omega arith

pub canonical_inj : (v u : ℕ) → v < 2 ^ 64 → u < 2 ^ 64 → canonical_of v ≡ true → canonical_of u ≡ true
    → page_number v ≡ page_number u → v % 4096 ≡ u % 4096 → v ≡ u
canonical_inj v u lv lu cv cu = known v u lv lu (sides v cv) (sides u cu)
