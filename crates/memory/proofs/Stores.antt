-- What a store does to memory, over the number of bytes: for callers, who then need not look at how it is defined.
-- Assumes nothing.
use mathlib.Core.Path.{◌≡◌, sym, ap, ◌∙◌}
use mathlib.Core.List.{List, ◌++◌, append_assoc}
use mathlib.Core.Logic.{◌⊎◌, ⊎_elim}
use Prim.Native.Nat.{ℕ, ◌+◌, ◌-◌, ◌/◌, ◌%◌, ◌^◌, ◌<◌, ◌≤◌}
use native.Mathlib.Omega.{arith}
use lib.ListN.{length, get_or, take, drop, length-take, length-drop, length-append, get_or-append}
use lib.Seq.{length-take-le, get_or-take, get_or-drop, get_or-append-add, drop_at, take_at, ext_get_or}
use Rattle.memory.proofs.Numbers.{length_bytes_of, number_bytes, byte_of}
use Rattle.memory.specs.Bytes.{number, bytes_of, load_of, store_of}

-- a store within memory
module _ (mem : List ℕ) (at n v : ℕ) (fits : at + n ≤ length mem) where
  head_length : length (take at mem) ≡ at
  head_length = length-take-le at mem (omega arith)

  front_length : length (take at mem ++ bytes_of n v) ≡ at + n
  front_length = rw (length-append, head_length, length_bytes_of)

  -- the length is kept
  pub length_store : length (store_of mem at n v) ≡ length mem
  unfolding store_of
  length_store = simp (length-append, head_length, length_bytes_of, length-drop) (omega arith)

  -- the byte at any index: before the store's place, in it, after it
  pub byte_before : (j : ℕ) → j < at → get_or (store_of mem at n v) j 0 ≡ get_or mem j 0
  unfolding store_of
  byte_before j h =
      get_or-append (take at mem ++ bytes_of n v) _ 0 j (omega (arith, front_length))
      ∙ get_or-append (take at mem) _ 0 j (omega (arith, head_length))
      ∙ get_or-take at mem j 0 h

  pub byte_in : (i : ℕ) → i < n → get_or (store_of mem at n v) (at + i) 0 ≡ v / 256 ^ i % 256
  unfolding store_of
  byte_in i h =
      get_or-append (take at mem ++ bytes_of n v) _ 0 (at + i) (omega (arith, front_length))
      ∙ ap (λ (k : ℕ). get_or (take at mem ++ bytes_of n v) (k + i) 0) (sym head_length)
      ∙ get_or-append-add (take at mem) (bytes_of n v) i 0
      ∙ byte_of n v i h

  pub byte_after_lem : (j : ℕ) → at + n ≤ j → get_or (store_of mem at n v) j 0 ≡ get_or mem j 0
  unfolding store_of
  byte_after_lem j h =
      let e : j ≡ length (take at mem ++ bytes_of n v) + (j - (at + n)) = omega (arith, front_length) in
      let k : at + n + (j - (at + n)) ≡ j = omega arith in
      ap (λ (k : ℕ). get_or ((take at mem ++ bytes_of n v) ++ drop (at + n) mem) k 0) e
      ∙ get_or-append-add (take at mem ++ bytes_of n v) (drop (at + n) mem) (j - (at + n)) 0
      ∙ get_or-drop (at + n) mem (j - (at + n)) 0
      ∙ rw k

  -- a load at the same place gives what was stored
  pub load_same : load_of (store_of mem at n v) at n ≡ v % 256 ^ n
  unfolding store_of load_of
  load_same =
      rw (
        append_assoc,
        drop_at (take at mem) (bytes_of n v ++ drop (at + n) mem) at head_length,
        take_at (bytes_of n v) (drop (at + n) mem) n (length_bytes_of n v),
      )
      (number_bytes n v)

-- equal bytes are loaded as equal numbers
pub load_ext : (xs ys : List ℕ) (b m : ℕ) → length xs ≡ length ys
    → ((j : ℕ) → b ≤ j → j < b + m → get_or xs j 0 ≡ get_or ys j 0)
    → load_of xs b m ≡ load_of ys b m
unfolding load_of
load_ext xs ys b m e f =
    ap number (ext_get_or 0 (take m (drop b xs)) (take m (drop b ys))
    (rw (length-take, length-take, length-drop, length-drop, e))
    (λ i h.
    let k : i < m = omega (arith, length-take m (drop b xs)) in
    rw (get_or-take m (drop b xs) i 0 k, get_or-take m (drop b ys) i 0 k, get_or-drop, get_or-drop)
    (f (b + i) (omega arith) (omega arith))))

-- a load at a disjoint place gives what stood there
pub load_other : (mem : List ℕ) (at n v b m : ℕ) → at + n ≤ length mem
    → (b + m ≤ at) ⊎ (at + n ≤ b)
    → load_of (store_of mem at n v) b m ≡ load_of mem b m
load_other mem at n v b m fits d =
    load_ext (store_of mem at n v) mem b m (length_store mem at n v fits)
    (λ j p q.
    ⊎_elim (λ w. byte_before mem at n v fits j (omega arith)) (λ w. byte_after_lem mem at n v fits j (omega arith)) d)
