-- What a push does to memory, byte by byte.
-- Assumes nothing.
use mathlib.Core.List.{List}
use mathlib.Core.Path.{◌≡◌, sym, ap, ◌∙◌}
use Prim.Native.Nat.{ℕ, zero, suc, ◌+◌, ◌-◌, ◌/◌, ◌%◌, ◌^◌, ◌≤◌, ◌<◌}
use native.Mathlib.Omega.{arith}
use borrow.Author.Tests.{lt-ltb, le-ltb, le-leb, lt-leb}
use lib.ListN.{get_or, length}
use Rattle.word.proofs.Either.{either}
use Rattle.memory.proofs.Stores.{byte_before, byte_in, byte_after_lem}
use Rattle.memory.specs.Bytes.{store_of}
use Rattle.address_place.specs.Place.{base}
use Rattle.theorem_shadow.specs.Promise.{wrote_of}

-- the eight bytes of v are those of its 64 bits
byte_64 : (v i : ℕ) → i < 8 → v % 2 ^ 64 / 256 ^ i % 256 ≡ v / 256 ^ i % 256
byte_64 v zero h = omega arith
byte_64 v (suc zero) h = omega arith
byte_64 v (suc (suc zero)) h = omega arith
byte_64 v (suc (suc (suc zero))) h = omega arith
byte_64 v (suc (suc (suc (suc zero)))) h = omega arith
byte_64 v (suc (suc (suc (suc (suc zero))))) h = omega arith
byte_64 v (suc (suc (suc (suc (suc (suc zero)))))) h = omega arith
byte_64 v (suc (suc (suc (suc (suc (suc (suc zero))))))) h = omega arith
byte_64 v (suc (suc (suc (suc (suc (suc (suc (suc i)))))))) h = absurd (omega arith)

-- a store of eight bytes of v at a physical address p
module _ (m : List ℕ) (p v : ℕ) (low : base ≤ p) (fits : p - base + 8 ≤ length m) where
  written_below : (o : ℕ) → base + o < p → get_or (store_of m (p - base) 8 v) o 0 ≡ wrote_of p (v % 2 ^ 64) o (get_or m o 0)
  written_below o h = rw (lt-leb p (base + o) h) (byte_before m (p - base) 8 v fits o (omega arith))

  written_above : (o : ℕ) → p + 8 ≤ base + o → get_or (store_of m (p - base) 8 v) o 0 ≡ wrote_of p (v % 2 ^ 64) o (get_or m o 0)
  written_above o h =
      rw (le-leb p (base + o) (omega arith), le-ltb (base + o) (p + 8) h) (byte_after_lem m (p - base) 8 v fits o (omega arith))

  written_at : (o : ℕ) → p ≤ base + o → base + o < p + 8 → get_or (store_of m (p - base) 8 v) o 0 ≡ wrote_of p (v % 2 ^ 64) o (get_or m o 0)
  written_at o h l =
      let i : p - base + (base + o - p) ≡ o = omega arith in
      rw (le-leb p (base + o) h, lt-ltb (base + o) (p + 8) l)
      (ap (λ (k : ℕ). get_or (store_of m (p - base) 8 v) k 0) (sym i)
      ∙ byte_in m (p - base) 8 v fits (base + o - p) (omega arith)
      ∙ sym (byte_64 v (base + o - p) (omega arith)))

  -- is, byte by byte, what the statement says of a push
  pub written : (o : ℕ) → get_or (store_of m (p - base) 8 v) o 0 ≡ wrote_of p (v % 2 ^ 64) o (get_or m o 0)
  written o = either (base + o) p (written_below o) (λ h. either (base + o) (p + 8) (written_at o h) (written_above o))
