-- Every word that reads as a legal instruction is what that instruction's numbers pack to.
-- Assumes nothing.
use mathlib.Core.Path.{◌≡◌, sym}
use Prim.Native.Nat.{ℕ, ◌+◌, ◌%◌, ◌^◌, ◌<◌}
use native.Mathlib.Omega.{arith}
use Rattle.word.specs.Field.{bits, opcode, fields_of}
use Rattle.decode.specs.System.{decode_csr_of, csrs, system_of, systems}
use Rattle.decode.specs.Decode.{decode_of, opcodes}
use Rattle.decode_writer.specs.Pack.{pack_of, system_pack_of}
use Rattle.word.proofs.Tables.{looked, ◌and◌}
use Rattle.decode_writer.proofs.Formats.{i_back, u_back, j_back}
use Rattle.decode_writer.proofs.Back.{Back, none, jalr_back, branch_back, load_back, store_back, op_imm_back, op_imm_32_back, op_back, op_32_back}
use Rattle.decode_writer.proofs.Back.{fence_back}
use Rattle.decode_writer.proofs.Cfi.{swap_back, zimop_back}

number : (x : ℕ) → x < 2 ^ 12 → (0 + x % 2 ^ 12) % 2 ^ 12 ≡ x
number x h = omega arith

module _ (w : ℕ) (h : w < 2 ^ 32) where
  csr_back : 0b1110011 ≡ opcode w → Back w (decode_csr_of w (fields_of w))
  unfolding decode_csr_of pack_of system_pack_of
  csr_back o =
      looked (Back w) (bits w 14 12) (csrs w (fields_of w))
      ((λ e n. i_back w h 0b1110011 0b001 _ o (sym e) (number (bits w 31 20) (omega arith))) and
      (λ e n. i_back w h 0b1110011 0b010 _ o (sym e) (number (bits w 31 20) (omega arith))) and
      (λ e n. i_back w h 0b1110011 0b011 _ o (sym e) (number (bits w 31 20) (omega arith))) and
      (λ e n. i_back w h 0b1110011 0b101 _ o (sym e) (number (bits w 31 20) (omega arith))) and
      (λ e n. i_back w h 0b1110011 0b110 _ o (sym e) (number (bits w 31 20) (omega arith))) and
      (λ e n. i_back w h 0b1110011 0b111 _ o (sym e) (number (bits w 31 20) (omega arith))) and
      (λ e. zimop_back w h o (sym e)) and
      none w)

  system_back : 0b1110011 ≡ opcode w → Back w (system_of w (fields_of w))
  unfolding system_of pack_of system_pack_of
  system_back o =
      looked (Back w) w (systems w (fields_of w))
      ((λ e n. sym e) and
      (λ e n. sym e) and
      (λ e n. sym e) and
      (λ e n. sym e) and
      csr_back o)

  pub decoded_back : Back w (decode_of w)
  unfolding decode_of pack_of
  decoded_back =
      looked (Back w) (opcode w) (opcodes w (fields_of w))
      ((λ e n. u_back w h 0b0110111 (sym e)) and
      (λ e n. u_back w h 0b0010111 (sym e)) and
      (λ e n. j_back w h 0b1101111 (sym e)) and
      (λ e. jalr_back w h (sym e)) and
      (λ e. branch_back w h (sym e)) and
      (λ e. load_back w h (sym e)) and
      (λ e. store_back w h (sym e)) and
      (λ e. op_imm_back w h (sym e)) and
      (λ e. op_imm_32_back w h (sym e)) and
      (λ e. op_back w h (sym e)) and
      (λ e. op_32_back w h (sym e)) and
      (λ e. fence_back w h (sym e)) and
      (λ e. swap_back w h (sym e)) and
      (λ e. system_back (sym e)) and
      none w)
