-- An access of n + m bytes is one of n bytes and one of the m above them: what a load and a store in two halves give. And the part of
-- memory that a store lends, back in the whole.
-- Assumes nothing.
use mathlib.Core.Path.{◌≡◌, ap, ◌∙◌}
use mathlib.Core.List.{List, [], ◌∷◌, ◌++◌, append_assoc, append-nil}
use Prim.Native.Nat.{ℕ, zero, suc, ◌+◌, ◌-◌, ◌*◌, ◌/◌, ◌%◌, ◌^◌, ◌≤◌}
use native.Mathlib.Nat.{pow-suc, pow-succ', pow-zero, div-div-eq-div-mul, div-one, zero-add, suc-add}
use native.Mathlib.Omega.{arith}
use lib.ListN.{length, get_or, drop, set, length-append, length-drop}
use lib.Seq.{length-take-le, take_all, take-add, take_at, drop-cons, drop-length, drop-drop, drop-append-add, set_split}
use borrow.Rule.Slice.PartMut.{mid_of, put_mid, Post-is}
use Rattle.memory.proofs.Numbers.{length_bytes_of}
use Rattle.memory.specs.Bytes.{number, bytes_of, load_of, store_of}

-- one byte
pub load_one : (mem : List ℕ) (at : ℕ) → at + 1 ≤ length mem → load_of mem at 1 ≡ get_or mem at 0
unfolding load_of number
load_one mem at h = rw (drop-cons mem at 0 (omega arith)) (omega arith)

pub store_one : (l : List ℕ) (v : ℕ) → 1 ≤ length l → set l 0 (v % 256) ≡ bytes_of 1 v ++ drop 1 l
unfolding bytes_of
store_one l v h = set_split l 0 (v % 256) h

-- a load: the bytes above weigh 256 ^ n
number_append : (xs ys : List ℕ) → number (xs ++ ys) ≡ number xs + number ys * 256 ^ length xs
unfolding number
number_append [] ys = rw pow-zero (omega arith)
number_append (x ∷ xs) ys = rw (number_append xs ys, pow-suc) (omega arith)

pub load_halves : (mem : List ℕ) (at n m : ℕ) → at + n ≤ length mem
    → load_of mem at (n + m) ≡ load_of mem at n + load_of mem (at + n) m * 256 ^ n
unfolding load_of
load_halves mem at n m h =
    rw (take-add n m (drop at mem), number_append, length-take-le n (drop at mem) (simp length-drop (omega arith)), drop-drop)

-- the bytes of a number
bytes_halves : (n m v : ℕ) → bytes_of (n + m) v ≡ bytes_of n v ++ bytes_of m (v / 256 ^ n)
unfolding bytes_of
bytes_halves zero m v = rw (zero-add, pow-zero, div-one)
bytes_halves (suc n) m v = rw (suc-add, pow-succ', ← div-div-eq-div-mul, bytes_halves n m (v / 256))

-- the part that was lent, back in the whole
pub stored_at : (mem last : List ℕ) (at n v : ℕ) → at + n ≤ length mem
    → last ≡ bytes_of n v ++ drop n (mid_of at (length mem - at) mem)
    → put_mid at (length mem - at) mem last ≡ store_of mem at n v
unfolding store_of
stored_at mem last at n v h e =
    rw (
      e,
      Post-is at (length mem) mem (omega arith),
      drop-length mem,
      append-nil,
      take_all (length mem - at) (drop at mem) (simp length-drop (omega arith)),
      drop-drop,
      append_assoc,
    )

-- a store: n bytes at the front of l, and m behind them
halves_stored : (l : List ℕ) (n m v : ℕ) → store_of (bytes_of n v ++ drop n l) n m (v / 256 ^ n) ≡ bytes_of (n + m) v ++ drop (n + m) l
unfolding store_of
halves_stored l n m v =
    let e : n + m ≡ length (bytes_of n v) + m = omega (arith, length_bytes_of n v) in
    rw (
      take_at (bytes_of n v) (drop n l) n (length_bytes_of n v),
      ap (λ (k : ℕ). drop k (bytes_of n v ++ drop n l)) e,
      drop-append-add,
      drop-drop,
      ← bytes_halves,
    )

pub store_halves : (l half last : List ℕ) (n m v : ℕ) → n + m ≤ length l
    → half ≡ bytes_of n v ++ drop n l
    → last ≡ bytes_of m (v / 256 ^ n) ++ drop m (mid_of n (length half - n) half)
    → put_mid n (length half - n) half last ≡ bytes_of (n + m) v ++ drop (n + m) l
store_halves l half last n m v h e f =
    let k : length half ≡ length l = rw (e, length-append, length_bytes_of, length-drop) (omega arith) in
    stored_at half last n m (v / 256 ^ n) (omega arith) f ∙ rw e (halves_stored l n m v)
