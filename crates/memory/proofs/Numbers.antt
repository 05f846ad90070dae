-- Bytes and the numbers that they hold, over the number of bytes.
-- Assumes nothing.
use mathlib.Core.Path.{◌≡◌, refl, ap}
use Prim.Native.Nat.{ℕ, zero, suc, ◌/◌, ◌%◌, ◌^◌, ◌<◌}
use native.Mathlib.Nat.{pow-suc, pow-succ', pow-zero, one-le-pow, div-div-eq-div-mul, div-one, mod-one}
use native.Mathlib.Omega.{arith}
use lib.Arith.{mod-mul}
use lib.ListN.{length, get_or}
use Rattle.memory.specs.Bytes.{number, bytes_of}

pub length_bytes_of : (n v : ℕ) → length (bytes_of n v) ≡ n
unfolding bytes_of
length_bytes_of zero v = refl
length_bytes_of (suc n) v = ap suc (length_bytes_of n _)

-- n bytes of v hold v, as far as n bytes go
pub number_bytes : (n v : ℕ) → number (bytes_of n v) ≡ v % 256 ^ n
unfolding number bytes_of
number_bytes zero v = rw (pow-zero, mod-one)
number_bytes (suc n) v =
    let r = number_bytes n (v / 256) in
    let p : 0 < 256 ^ n = one-le-pow n 256 (omega arith) in
    rw (pow-suc, mod-mul v {m = 256 ^ n} {c = 256} p (omega arith)) (omega arith)

-- byte i of v
pub byte_of : (n v i : ℕ) → i < n → get_or (bytes_of n v) i 0 ≡ v / 256 ^ i % 256
unfolding bytes_of
byte_of zero v i h = omega arith
byte_of (suc n) v zero h = rw (pow-zero, div-one)
byte_of (suc n) v (suc i) h = rw (pow-succ', ← div-div-eq-div-mul) (byte_of n (v / 256) i (omega arith))
