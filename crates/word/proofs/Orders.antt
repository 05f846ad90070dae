-- The signed order is that of the signed numbers.
-- Assumes nothing.
use Rattle.std.proofs.Common.{◌≡◌, ℕ, suc, ◌+◌, ◌-◌, ◌%◌, ◌^◌, ◌<◌, arith, le-ltb, lt-ltb}
use lib.Signed.{lt_z}
use Rattle.word.specs.Sign.{signed_of}
use Rattle.word.specs.Order.{signed_less_of}
use Rattle.word.proofs.Either.{either, same_order}

-- a as 2 ^ 63 more
abbrev raised : ℕ → ℕ
raised a = (a + 2 ^ 63) % 2 ^ 64

pub signed_order : (a b : ℕ) → a < 2 ^ 64 → b < 2 ^ 64 → signed_less_of a b ≡ lt_z (signed_of 64 a) (signed_of 64 b)
unfolding signed_of
signed_order a b p q =
    either a (2 ^ 63)
    (λ h.
    either b (2 ^ 63)
    (λ l.
    rw (lt-ltb a (2 ^ 63) h, lt-ltb b (2 ^ 63) l)
    (same_order (raised a) (raised b) a b (λ t. omega arith) (λ t. omega arith)))
    (λ l. rw (lt-ltb a (2 ^ 63) h, le-ltb b (2 ^ 63) l) (le-ltb (raised a) (raised b) (omega arith))))
    (λ h.
    either b (2 ^ 63)
    (λ l. rw (le-ltb a (2 ^ 63) h, lt-ltb b (2 ^ 63) l) (lt-ltb (raised a) (raised b) (omega arith)))
    (λ l.
    rw (le-ltb a (2 ^ 63) h, le-ltb b (2 ^ 63) l)
    (same_order (raised a) (raised b) (2 ^ 64 - suc b) (2 ^ 64 - suc a) (λ t. omega arith) (λ t. omega arith))))
