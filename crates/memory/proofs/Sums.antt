-- The library's order of bytes, the lowest first, is that of specs/.
-- Assumes nothing.
use mathlib.Core.Path.{◌≡◌, refl, ap, ◌∙◌}
use mathlib.Core.List.{List, ◌++◌, append_assoc}
use Prim.Native.Nat.{ℕ, zero, suc, ◌+◌, ◌-◌, ◌*◌, ◌/◌, ◌%◌, ◌^◌, ◌≤◌}
use native.Mathlib.Nat.{div-div-eq-div-mul, div-one, pow-suc, pow-zero}
use native.Mathlib.Omega.{arith}
use lib.ListN.{length, get_or, drop, take}
use lib.Seq.{drop-cons}
use borrow.Rule.Slice.PartMut.{put_mid, Post-is}
use Rattle.std.specs.Int.{byte_at, bytes_low_first}
use Rattle.memory.specs.Bytes.{number, load_of, bytes_of, store_of}

-- a byte, and the number above it
load_step : (mem : List ℕ) (at n : ℕ) → at + suc n ≤ length mem → load_of mem at (suc n) ≡ get_or mem at 0 + 256 * load_of mem (at + 1) n
unfolding load_of number
load_step mem at n h =
    let e : suc at ≡ at + 1 = omega arith in
    rw (drop-cons mem at 0 (omega arith)) (ap (λ k. get_or mem at 0 + 256 * number (take n (drop k mem))) e)

module _ (mem : List ℕ) (at : ℕ) where
  abbrev byte : ℕ → ℕ
  byte i = get_or mem (at + i) 0

  next : (i n : ℕ) → at + i + suc n ≤ length mem → load_of mem (at + i) (suc n) ≡ byte i + 256 * load_of mem (at + suc i) n
  next i n h = load_step mem (at + i) n h ∙ ap (λ k. byte i + 256 * load_of mem k n) (omega arith)

  none : (k : ℕ) → load_of mem k 0 ≡ 0
  unfolding load_of number
  none k = refl

  pub two : at + 2 ≤ length mem → load_of mem at 2 ≡ get_or mem at 0 + byte 1 * 256
  two h = omega (arith, load_step mem at 1 h, next 1 0 (omega arith), none (at + 2))

  pub four : at + 4 ≤ length mem → load_of mem at 4 ≡ get_or mem at 0 + byte 1 * 256 + byte 2 * 256 ^ 2 + byte 3 * 256 ^ 3
  four h =
      omega (arith, load_step mem at 3 h, next 1 2 (omega arith), next 2 1 (omega arith), next 3 0 (omega arith), none (at + 4))

  pub eight :
      at + 8 ≤ length mem
      → load_of mem at 8
      ≡ get_or mem at 0 + byte 1 * 256 + byte 2 * 256 ^ 2 + byte 3 * 256 ^ 3 + byte 4 * 256 ^ 4 + byte 5 * 256 ^ 5 + byte 6 * 256 ^ 6 + byte 7 * 256 ^ 7
  eight h =
      omega (
        arith,
        load_step mem at 7 h,
        next 1 6 (omega arith),
        next 2 5 (omega arith),
        next 3 4 (omega arith),
        next 4 3 (omega arith),
        next 5 2 (omega arith),
        next 6 1 (omega arith),
        next 7 0 (omega arith),
        none (at + 8),
      )

-- byte i, and the bytes above it
byte_is : (i v : ℕ) → byte_at i v ≡ v / 256 ^ i % 256
byte_is zero v = rw (pow-zero, div-one)
byte_is (suc i) v = refl

taken : (i k n v : ℕ) → n ≤ k → take n (bytes_low_first i k v) ≡ bytes_of n (v / 256 ^ i)
unfolding bytes_of
taken i k zero v l = refl
taken i zero (suc n) v l = absurd (omega arith)
taken i (suc k) (suc n) v l =
    let e : v / 256 ^ suc i ≡ v / 256 ^ i / 256 = rw (pow-suc, div-div-eq-div-mul) in
    rw (byte_is i v, taken (suc i) k n v (omega arith), e)

pub low_bytes : (n v : ℕ) → n ≤ 8 → take n (bytes_low_first 0 8 v) ≡ bytes_of n v
low_bytes n v l = taken 0 8 n v l ∙ ap (bytes_of n) (rw (pow-zero, div-one))

-- the bytes in the place of those that stood there
pub placed : (mem : List ℕ) (at n v : ℕ) → put_mid at (at + n - at) mem (bytes_of n v) ≡ store_of mem at n v
unfolding store_of
placed mem at n v = rw append_assoc (ap (λ z. take at mem ++ (bytes_of n v ++ z)) (Post-is at (at + n) mem (omega arith)))
