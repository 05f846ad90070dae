-- Sign extension, and the signed number that k bits stand for, over k. Rule 1.5 of docs/HART.md.
use Rattle.std.specs.Prelude.{ℕ, suc, ◌+◌, ◌-◌, ◌*◌, ◌/◌, ◌%◌, ◌^◌, ℤ, pos, negsuc, nat_lt}
use Rattle.word.specs.Choice.{pick}

-- the low k bits of v, with bit k − 1 copied to all the bits above it up to bit 63
abbrev pub sign_extend_of : ℕ → ℕ → ℕ
sign_extend_of k v = v % 2 ^ k + v / 2 ^ (k - 1) % 2 * (2 ^ 64 - 2 ^ k)

-- two's complement: v of k bits is v, or v − 2 ^ k where bit k − 1 is set (`negsuc n` is −(n + 1))
unfoldable pub signed_of : ℕ → ℕ → ℤ
signed_of k v = pick (nat_lt v (2 ^ (k - 1))) (pos v) (negsuc (2 ^ k - suc v))
