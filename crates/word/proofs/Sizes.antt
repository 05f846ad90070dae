-- The two sizes are between 1 and 64.
-- Assumes nothing.
use Rattle.std.proofs.Common.{ℕ, ◌<◌, ◌≤◌, inl, inr, arith}
use Rattle.word.specs.Size.{IsSize}

pub size_range : (k : ℕ) → IsSize k → (0 < k) × (k ≤ 64)
size_range k (inl e) = (omega (arith, e), omega (arith, e))
size_range k (inr e) = (omega (arith, e), omega (arith, e))
