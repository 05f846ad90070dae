-- Bytes in memory, little-endian, over the number of bytes n. Rules 1.7 and 1.8 of docs/HART.md.
use Rattle.std.specs.Prelude.{List, [], ◌∷◌, ◌++◌, ℕ, zero, suc, ◌+◌, ◌*◌, ◌/◌, ◌%◌, take, drop}

-- the number that a row of bytes holds, the first byte lowest
unfoldable pub number : List ℕ → ℕ
number [] = 0
number (b ∷ bs) = b + 256 * number bs

-- the lowest n bytes of v, the lowest first
unfoldable pub bytes_of : ℕ → ℕ → List ℕ
bytes_of zero v = []
bytes_of (suc n) v = v % 256 ∷ bytes_of n (v / 256)

-- the n bytes at a place, as a number
unfoldable pub load_of : List ℕ → (at n : ℕ) → ℕ
load_of mem at n = number (take n (drop at mem))

-- memory with the n bytes at a place replaced by those of v
unfoldable pub store_of : List ℕ → (at n v : ℕ) → List ℕ
store_of mem at n v = take at mem ++ bytes_of n v ++ drop (at + n) mem
