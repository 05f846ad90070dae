-- SYSTEM has the privileged words and Zimop's, and no others. Assumes nothing.
use mathlib.Core.Bool.{Bool, true, false, not}
use mathlib.Core.Path.{◌≡◌, refl, sym, ◌∙◌}
use Prim.Native.Nat.{ℕ}
use native.Mathlib.Omega.{arith}
use lib.Dec.{eqb}
use borrow.Author.Tests.{ne_eqb, eqb-true}
use Rattle.word.proofs.Tables.{missed, hit}
use Rattle.word.specs.Field.{bits, opcode, fields_of}
use Rattle.decode.specs.Cfi.{zimop_of}
use Rattle.decode.specs.Decode.{decode_of, is_privileged}
use Rattle.decode.specs.System.{decode_csr_of, csrs, system_of, systems}

-- another opcode
pub no_system : (w : ℕ) → (opcode w ≡ 0b1110011 → ⊥) → is_privileged w ≡ false
no_system w n = rw (ne_eqb (opcode w) 0b1110011 n)

not-false : (b : Bool) → not b ≡ false → b ≡ true
not-false true e = refl
not-false false e = sym e

-- no word of funct3 100 is one of the four whole words
zimops : (w : ℕ) → bits w 14 12 ≡ 0b100 → zimop_of w (fields_of w) ≡ system_of w (fields_of w)
unfolding system_of decode_csr_of
zimops w h =
    hit (csrs w (fields_of w)) h
    ∙ missed w (systems w (fields_of w)) (
      (((Prim.tt, λ e. absurd (omega (arith, rw e at h))), λ e. absurd (omega (arith, rw e at h))), λ e. absurd (omega (arith, rw e at h))),
      λ e. absurd (omega (arith, rw e at h)),
    )

pub only_zimop : (w : ℕ) → opcode w ≡ 0b1110011 → is_privileged w ≡ false → zimop_of w (fields_of w) ≡ decode_of w
unfolding decode_of
only_zimop w o p =
    let q : not (eqb (bits w 14 12) 0b100) ≡ false = rw o at p in
    rw o (zimops w (eqb-true (bits w 14 12) 0b100 (not-false (eqb (bits w 14 12) 0b100) q)))
