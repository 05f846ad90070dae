-- The eight addresses: which word each has, and who reaches it. Four follow each other, and one line is an address.
-- Assumes nothing.
use mathlib.Core.Bool.{false}
use mathlib.Core.Logic.{◌⊎◌, inl, inr}
use mathlib.Core.Path.{◌≡◌, refl, subst}
use Prim.Native.Nat.{ℕ, ◌+◌, ◌*◌, ◌/◌, ◌%◌}
use native.Mathlib.Omega.{arith}
use lib.Dec.{ltb}
use Rattle.word.proofs.Choices.{second}
use Rattle.word.proofs.Either.{either}
use Rattle.isa.specs.declared.Mode.{Mode}
use Rattle.isa.specs.declared.Mode.TheVariants.{Supervisor, Machine}
use Rattle.isa.specs.Mode.{number_of, mode_of}
use Rattle.csr.specs.declared.Csr.TheVariants.{Sscratch, Sepc, Scause, Stval}
use Rattle.csr_access.specs.Reach.{reach_of}
use Rattle.std.specs.Prelude.{Some, None}
use Rattle.csr_words.specs.Words.{SSCRATCH, MSCRATCH}
use Rattle.run_csrs.specs.Named.{CsrStands, named_of}

-- what holds of four addresses that follow each other holds of each that is one of them
four : (P : ℕ → Type 0) (q a : ℕ) → a / 4 ≡ q → P (q * 4) → P (q * 4 + 1) → P (q * 4 + 2) → P (q * 4 + 3) → P a
four P q a e p0 p1 p2 p3 =
    either (a % 4) 2
    (λ h. either (a % 4) 1 (λ g. let s : q * 4 ≡ a = omega arith in subst P s p0) (λ g. let s : q * 4 + 1 ≡ a = omega arith in subst P s p1))
    (λ h. either (a % 4) 3 (λ g. let s : q * 4 + 2 ≡ a = omega arith in subst P s p2) (λ g. let s : q * 4 + 3 ≡ a = omega arith in subst P s p3))

-- M's four, from M
pub machine : (a : ℕ) → a / 4 ≡ 0xd0 → CsrStands (MSCRATCH + a % 4) a Machine
unfolding reach_of named_of
machine a e =
    four (λ i. CsrStands (MSCRATCH + i % 4) i Machine) 0xd0 a e
    (omega arith, refl, λ p. refl, λ sse. refl, refl)
    (omega arith, refl, λ p. refl, λ sse. refl, refl)
    (omega arith, refl, λ p. refl, λ sse. refl, refl)
    (omega arith, refl, λ p. refl, λ sse. refl, refl)

-- S's four, from a mode that is not below S
pub supervisor : (m : Mode) (a : ℕ) → ltb (number_of m) 1 ≡ false → a / 4 ≡ 0x50 → CsrStands (SSCRATCH + a % 4) a m
unfolding reach_of named_of
supervisor m a h e =
    four (λ i. CsrStands (SSCRATCH + i % 4) i m) 0x50 a e
    (omega arith, refl, λ p. second (ltb (number_of m) 1) None (Some Sscratch) h, λ sse. refl, refl)
    (omega arith, refl, λ p. second (ltb (number_of m) 1) None (Some Sepc) h, λ sse. refl, refl)
    (omega arith, refl, λ p. second (ltb (number_of m) 1) None (Some Scause) h, λ sse. refl, refl)
    (omega arith, refl, λ p. second (ltb (number_of m) 1) None (Some Stval) h, λ sse. refl, refl)

-- that is S and M
pub from_s_or_m : (mode a : ℕ) → mode ≡ 1 ⊎ mode ≡ 3 → a / 4 ≡ 0x50 → CsrStands (SSCRATCH + a % 4) a (mode_of mode)
unfolding mode_of
from_s_or_m mode a (inl e) h = rw e (supervisor Supervisor a refl h)
from_s_or_m mode a (inr e) h = rw e (supervisor Machine a refl h)
