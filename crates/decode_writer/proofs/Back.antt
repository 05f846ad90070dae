-- What a word of RV64I reads as packs to that word again: along the tables of crate `decode_base`, a law a format.
-- Assumes nothing.
use mathlib.Core.Path.{◌≡◌, refl, sym}
use Prim.Native.Nat.{ℕ, ◌+◌, ◌*◌, ◌%◌, ◌^◌, ◌<◌}
use native.Mathlib.Omega.{arith}
use Rattle.word.specs.Field.{bits, opcode, fields_of}
use Rattle.word.specs.Immediate.{imm_i_of, imm_s_of, imm_b_of}
use Rattle.decode_base.specs.Base.{decode_jalr_of, jalrs, decode_branch_of, branches, decode_load_of, loads, decode_store_of, stores, count_of, counts, count_word_of, count_words_of, shift_of}
use Rattle.decode_base.specs.Base.{shifts, op_imm_of, op_imms, word_shift_of, word_shifts_of, op_imm32_of, op_imm32s, extension_of, extensions, op_of, ops, extension32_of}
use Rattle.decode_base.specs.Base.{extension32s, op32_of, op32s, misc_mem_of, misc_mems, functs, shift_key, count_key}
use Rattle.isa.specs.declared.Instruction.{Instruction}
use Rattle.isa.specs.declared.Instruction.TheVariants.{Illegal}
use Rattle.decode_numbers.specs.Numbers.{numbers_of}
use Rattle.decode_writer.specs.Pack.{pack_of, system_pack_of, fence_bits}
use Rattle.word.proofs.Tables.{looked, ◌and◌}
use Rattle.decode_writer.proofs.Formats.{join, i_back, imm_back, r_back, count_back, shift_back, s_back, b_back}

-- i is illegal, or its numbers pack to w
abbrev pub Back : ℕ → Instruction → Type 0
Back w i = (i ≡ Illegal → ⊥) → pack_of (numbers_of i) ≡ w

pub none : (w : ℕ) → Back w Illegal
none w n = absurd (n refl)

-- fm, pred and succ are bits 31:20
fence_parts :
    (q p s y x : ℕ) → q < 2 ^ 4 → p < 2 ^ 4 → s < 2 ^ 4 → q * 2 ^ 4 + p ≡ y → y * 2 ^ 4 + s ≡ x
    → (0 + fence_bits q p s % 2 ^ 12) % 2 ^ 12 ≡ x
fence_parts q p s y x hq hp hs e f = omega arith

module _ (w : ℕ) (h : w < 2 ^ 32) where
  pub jalr_back : 0b1100111 ≡ opcode w → Back w (decode_jalr_of (fields_of w) (imm_i_of w))
  unfolding decode_jalr_of pack_of
  jalr_back o =
      looked (Back w) (bits w 14 12) (jalrs (fields_of w) (imm_i_of w))
      ((λ e n. imm_back w h 0b1100111 0 o (sym e) refl) and
      none w)

  pub branch_back : 0b1100011 ≡ opcode w → Back w (decode_branch_of (fields_of w) (imm_b_of w))
  unfolding decode_branch_of pack_of
  branch_back o =
      looked (Back w) (bits w 14 12) (branches (fields_of w) (imm_b_of w))
      ((λ e n. b_back w h 0b1100011 0b000 o (sym e)) and
      (λ e n. b_back w h 0b1100011 0b001 o (sym e)) and
      (λ e n. b_back w h 0b1100011 0b100 o (sym e)) and
      (λ e n. b_back w h 0b1100011 0b101 o (sym e)) and
      (λ e n. b_back w h 0b1100011 0b110 o (sym e)) and
      (λ e n. b_back w h 0b1100011 0b111 o (sym e)) and
      none w)

  pub load_back : 0b0000011 ≡ opcode w → Back w (decode_load_of (fields_of w) (imm_i_of w))
  unfolding decode_load_of pack_of
  load_back o =
      looked (Back w) (bits w 14 12) (loads (fields_of w) (imm_i_of w))
      ((λ e n. imm_back w h 0b0000011 0b000 o (sym e) refl) and
      (λ e n. imm_back w h 0b0000011 0b001 o (sym e) refl) and
      (λ e n. imm_back w h 0b0000011 0b010 o (sym e) refl) and
      (λ e n. imm_back w h 0b0000011 0b011 o (sym e) refl) and
      (λ e n. imm_back w h 0b0000011 0b100 o (sym e) refl) and
      (λ e n. imm_back w h 0b0000011 0b101 o (sym e) refl) and
      (λ e n. imm_back w h 0b0000011 0b110 o (sym e) refl) and
      none w)

  pub store_back : 0b0100011 ≡ opcode w → Back w (decode_store_of (fields_of w) (imm_s_of w))
  unfolding decode_store_of pack_of
  store_back o =
      looked (Back w) (bits w 14 12) (stores (fields_of w) (imm_s_of w))
      ((λ e n. s_back w h 0b0100011 0b000 o (sym e)) and
      (λ e n. s_back w h 0b0100011 0b001 o (sym e)) and
      (λ e n. s_back w h 0b0100011 0b010 o (sym e)) and
      (λ e n. s_back w h 0b0100011 0b011 o (sym e)) and
      none w)

  counts_back : 0b0010011 ≡ opcode w → Back w (count_of (fields_of w))
  unfolding count_of pack_of
  counts_back o =
      looked (Back w) (count_key (fields_of w)) (counts (fields_of w))
      ((λ e n. count_back w h 0b0010011 0b0110000_00000_001 o e) and
      (λ e n. count_back w h 0b0010011 0b0110000_00001_001 o e) and
      (λ e n. count_back w h 0b0010011 0b0110000_00010_001 o e) and
      none w)

  shifts_back : 0b0010011 ≡ opcode w → Back w (shift_of (fields_of w))
  unfolding shift_of pack_of
  shifts_back o =
      looked (Back w) (shift_key (fields_of w)) (shifts (fields_of w))
      ((λ e n. shift_back w h 0b0010011 0b0000000_00000_001 0b000000_001 o e refl refl) and
      (λ e n. shift_back w h 0b0010011 0b0000000_00000_101 0b000000_101 o e refl refl) and
      (λ e n. shift_back w h 0b0010011 0b0100000_00000_101 0b010000_101 o e refl refl) and
      counts_back o)

  pub op_imm_back : 0b0010011 ≡ opcode w → Back w (op_imm_of (fields_of w) (imm_i_of w))
  unfolding op_imm_of pack_of
  op_imm_back o =
      looked (Back w) (bits w 14 12) (op_imms (fields_of w) (imm_i_of w))
      ((λ e n. imm_back w h 0b0010011 0b000 o (sym e) refl) and
      (λ e n. imm_back w h 0b0010011 0b010 o (sym e) refl) and
      (λ e n. imm_back w h 0b0010011 0b011 o (sym e) refl) and
      (λ e n. imm_back w h 0b0010011 0b100 o (sym e) refl) and
      (λ e n. imm_back w h 0b0010011 0b110 o (sym e) refl) and
      (λ e n. imm_back w h 0b0010011 0b111 o (sym e) refl) and
      shifts_back o)

  count_words_back : 0b0011011 ≡ opcode w → Back w (count_word_of (fields_of w))
  unfolding count_word_of pack_of
  count_words_back o =
      looked (Back w) (count_key (fields_of w)) (count_words_of (fields_of w))
      ((λ e n. count_back w h 0b0011011 0b0110000_00000_001 o e) and
      (λ e n. count_back w h 0b0011011 0b0110000_00001_001 o e) and
      (λ e n. count_back w h 0b0011011 0b0110000_00010_001 o e) and
      none w)

  word_shifts_back : 0b0011011 ≡ opcode w → Back w (word_shift_of (fields_of w))
  unfolding word_shift_of pack_of
  word_shifts_back o =
      looked (Back w) (functs (fields_of w)) (word_shifts_of (fields_of w))
      ((λ e n. r_back w h 0b0011011 0b0000000_00000_001 0b0000000_001 o e refl refl) and
      (λ e n. r_back w h 0b0011011 0b0000000_00000_101 0b0000000_101 o e refl refl) and
      (λ e n. r_back w h 0b0011011 0b0100000_00000_101 0b0100000_101 o e refl refl) and
      count_words_back o)

  pub op_imm_32_back : 0b0011011 ≡ opcode w → Back w (op_imm32_of (fields_of w) (imm_i_of w))
  unfolding op_imm32_of pack_of
  op_imm_32_back o =
      looked (Back w) (bits w 14 12) (op_imm32s (fields_of w) (imm_i_of w))
      ((λ e n. imm_back w h 0b0011011 0b000 o (sym e) refl) and
      word_shifts_back o)

  extensions_back : 0b0110011 ≡ opcode w → Back w (extension_of (fields_of w))
  unfolding extension_of pack_of
  extensions_back o =
      looked (Back w) (functs (fields_of w)) (extensions (fields_of w))
      ((λ e n. r_back w h 0b0110011 0b0000001_00000_000 0b0000001_000 o e refl refl) and
      (λ e n. r_back w h 0b0110011 0b0000001_00000_001 0b0000001_001 o e refl refl) and
      (λ e n. r_back w h 0b0110011 0b0000001_00000_010 0b0000001_010 o e refl refl) and
      (λ e n. r_back w h 0b0110011 0b0000001_00000_011 0b0000001_011 o e refl refl) and
      (λ e n. r_back w h 0b0110011 0b0000001_00000_100 0b0000001_100 o e refl refl) and
      (λ e n. r_back w h 0b0110011 0b0000001_00000_101 0b0000001_101 o e refl refl) and
      (λ e n. r_back w h 0b0110011 0b0000001_00000_110 0b0000001_110 o e refl refl) and
      (λ e n. r_back w h 0b0110011 0b0000001_00000_111 0b0000001_111 o e refl refl) and
      (λ e n. r_back w h 0b0110011 0b0000101_00000_100 0b0000101_100 o e refl refl) and
      (λ e n. r_back w h 0b0110011 0b0000101_00000_101 0b0000101_101 o e refl refl) and
      (λ e n. r_back w h 0b0110011 0b0000101_00000_110 0b0000101_110 o e refl refl) and
      (λ e n. r_back w h 0b0110011 0b0000101_00000_111 0b0000101_111 o e refl refl) and
      none w)

  pub op_back : 0b0110011 ≡ opcode w → Back w (op_of (fields_of w))
  unfolding op_of pack_of
  op_back o =
      looked (Back w) (functs (fields_of w)) (ops (fields_of w))
      ((λ e n. r_back w h 0b0110011 0b0000000_00000_000 0b0000000_000 o e refl refl) and
      (λ e n. r_back w h 0b0110011 0b0100000_00000_000 0b0100000_000 o e refl refl) and
      (λ e n. r_back w h 0b0110011 0b0000000_00000_001 0b0000000_001 o e refl refl) and
      (λ e n. r_back w h 0b0110011 0b0000000_00000_010 0b0000000_010 o e refl refl) and
      (λ e n. r_back w h 0b0110011 0b0000000_00000_011 0b0000000_011 o e refl refl) and
      (λ e n. r_back w h 0b0110011 0b0000000_00000_100 0b0000000_100 o e refl refl) and
      (λ e n. r_back w h 0b0110011 0b0000000_00000_101 0b0000000_101 o e refl refl) and
      (λ e n. r_back w h 0b0110011 0b0100000_00000_101 0b0100000_101 o e refl refl) and
      (λ e n. r_back w h 0b0110011 0b0000000_00000_110 0b0000000_110 o e refl refl) and
      (λ e n. r_back w h 0b0110011 0b0000000_00000_111 0b0000000_111 o e refl refl) and
      extensions_back o)

  extension_32s_back : 0b0111011 ≡ opcode w → Back w (extension32_of (fields_of w))
  unfolding extension32_of pack_of
  extension_32s_back o =
      looked (Back w) (functs (fields_of w)) (extension32s (fields_of w))
      ((λ e n. r_back w h 0b0111011 0b0000001_00000_000 0b0000001_000 o e refl refl) and
      (λ e n. r_back w h 0b0111011 0b0000001_00000_100 0b0000001_100 o e refl refl) and
      (λ e n. r_back w h 0b0111011 0b0000001_00000_101 0b0000001_101 o e refl refl) and
      (λ e n. r_back w h 0b0111011 0b0000001_00000_110 0b0000001_110 o e refl refl) and
      (λ e n. r_back w h 0b0111011 0b0000001_00000_111 0b0000001_111 o e refl refl) and
      none w)

  pub op_32_back : 0b0111011 ≡ opcode w → Back w (op32_of (fields_of w))
  unfolding op32_of pack_of
  op_32_back o =
      looked (Back w) (functs (fields_of w)) (op32s (fields_of w))
      ((λ e n. r_back w h 0b0111011 0b0000000_00000_000 0b0000000_000 o e refl refl) and
      (λ e n. r_back w h 0b0111011 0b0100000_00000_000 0b0100000_000 o e refl refl) and
      (λ e n. r_back w h 0b0111011 0b0000000_00000_001 0b0000000_001 o e refl refl) and
      (λ e n. r_back w h 0b0111011 0b0000000_00000_101 0b0000000_101 o e refl refl) and
      (λ e n. r_back w h 0b0111011 0b0100000_00000_101 0b0100000_101 o e refl refl) and
      extension_32s_back o)

  pub fence_back : 0b0001111 ≡ opcode w → Back w (misc_mem_of w (fields_of w))
  unfolding misc_mem_of pack_of system_pack_of
  fence_back o =
      looked (Back w) (bits w 14 12) (misc_mems w (fields_of w))
      ((λ e n. i_back w h 0b0001111 0 _ o (sym e) (fence_parts _ _ _ _ _ (omega arith) (omega arith) (omega arith) (join w 24 4 4) (join w 20 8 4)))
      and
      none w)
