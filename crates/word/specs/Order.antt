-- Signed order. Adding 2 ^ 63 modulo 2 ^ 64 takes −2 ^ 63 to 0 and 2 ^ 63 − 1 to 2 ^ 64 − 1, so it takes the
-- signed order to the unsigned one. `proofs/Orders.antt` proves it against the integers. Rule 4.4 of docs/HART.md.
use Rattle.std.specs.Prelude.{ℕ, ◌+◌, ◌%◌, ◌^◌, Bool, nat_lt}

abbrev pub signed_less_of : ℕ → ℕ → Bool
signed_less_of a b = nat_lt ((a + 2 ^ 63) % 2 ^ 64) ((b + 2 ^ 63) % 2 ^ 64)
