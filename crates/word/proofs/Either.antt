-- One of two orders holds.
-- Assumes nothing.
use Rattle.std.proofs.Common.{◌≡◌, ℕ, ◌<◌, ◌≤◌, ltb, sym, ◌∙◌, arith, le-ltb, lt-ltb}
use native.Mathlib.Decide.{dec_lt}

pub either : {A : Type 0} (a b : ℕ) → (a < b → A) → (b ≤ a → A) → A
either a b f g = elim (dec_lt a b) [ yes h ↦ f h | no n ↦ g (omega arith) ]

-- two tests of an order agree where the orders do
pub same_order : (a b x y : ℕ) → (a < b → x < y) → (b ≤ a → y ≤ x) → ltb a b ≡ ltb x y
same_order a b x y f g =
    either a b (λ h. lt-ltb a b h ∙ sym (lt-ltb x y (f h))) (λ h. le-ltb a b h ∙ sym (le-ltb x y (g h)))
