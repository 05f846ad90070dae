-- Which instruction a word of SYSTEM is whose funct3 is not 0: a row of `csrs`, since none of the whole words has such a funct3.
-- Assumes nothing.
use mathlib.Core.Path.{◌≡◌, refl, sym, ap, ◌∙◌}
use Prim.Native.Nat.{ℕ, ◌+◌, ◌*◌, ◌/◌, ◌%◌, ◌<◌}
use native.Mathlib.Omega.{arith}
use Rattle.word.specs.Choice.{look}
use Rattle.word.specs.Field.{fields_of}
use Rattle.word.proofs.Tables.{Missed, hit, missed}
use Rattle.decode.specs.Decode.{decode_of, opcodes}
use Rattle.decode.specs.System.{system_of, systems, decode_csr_of, csrs}

-- two digits of a sum
digits : (p r f : ℕ) → r < 128 → p * 128 + r ≡ f * 128 + 0b1110011 → (p ≡ f) × (r ≡ 0b1110011)
digits p r f b e = (omega arith, omega arith)

-- a word whose funct3 is 0 is another one
another : (w v f : ℕ) → 0 < f → w / 4096 % 8 ≡ f → v / 4096 % 8 ≡ 0 → w ≡ v → ⊥
another w v f p e z q =
    let h : f ≡ 0 = sym e ∙ ap (λ (i : ℕ). i / 4096 % 8) q ∙ z in
    omega (arith, h)

pub decoded : (w f : ℕ) → 0 < f → w / 4096 % 8 * 128 + w % 128 ≡ f * 128 + 0b1110011 → decode_of w ≡ look f (csrs w (fields_of w))
unfolding decode_of system_of decode_csr_of
decoded w f p e =
    let (funct3, op) = digits (w / 4096 % 8) (w % 128) f (omega arith) e in
    let whole : Missed w (systems w (fields_of w)) (Unit {0}) = (
      (((tt, another w 0x00000073 f p funct3 refl), another w 0x00100073 f p funct3 refl), another w 0x10200073 f p funct3 refl),
      another w 0x30200073 f p funct3 refl,
    ) in
    sym (hit (opcodes w (fields_of w)) op) ∙ sym (missed w (systems w (fields_of w)) whole) ∙ sym (hit (csrs w (fields_of w)) funct3)
