-- The word of a family's numbers: its opcode and format, and the places that the family gives them. Rule 12.11 of docs/HART.md.
use Rattle.std.specs.Prelude.{ℕ, ◌+◌, ◌*◌, ◌/◌, ◌%◌, ◌^◌}
use Rattle.word.specs.Choice.{Table, ◌⇒◌¦◌, otherwise, look}
use Rattle.decode_numbers.specs.declared.Eight.{Eight}
use Rattle.decode_writer.specs.Format.{word_i, word_s, word_b, word_u, word_j}

-- FENCE: fm, pred and succ in bits 31:20
abbrev pub fence_bits : (fm p s : ℕ) → ℕ
fence_bits fm p s = fm % 2 ^ 4 * 2 ^ 8 + p % 2 ^ 4 * 2 ^ 4 + s % 2 ^ 4

-- the swap: aq in bit 26, rl in bit 25, then rs2
abbrev pub swap_bits : (aq rl b : ℕ) → ℕ
swap_bits aq rl b = aq % 2 * 2 ^ 6 + rl % 2 * 2 ^ 5 + b % 2 ^ 5

-- MOP.R.n: n[4] in bit 30, n[3:2] in bits 27:26, n[1:0] in bits 21:20
abbrev pub mop_r_bits : ℕ → ℕ
mop_r_bits n = n / 2 ^ 4 % 2 * 2 ^ 10 + n / 2 ^ 2 % 2 ^ 2 * 2 ^ 6 + n % 2 ^ 2

-- MOP.RR.n: n[2] in bit 30, n[1:0] in bits 27:26, then rs2
abbrev pub mop_rr_bits : (n b : ℕ) → ℕ
mop_rr_bits n b = n / 2 ^ 2 % 2 * 2 ^ 10 + n % 2 ^ 2 * 2 ^ 6 + b % 2 ^ 5

-- FENCE, ECALL, EBREAK, SRET, MRET, the CSR instructions, the read of ssp, push, pop-check, swap, MOP.R, MOP.RR
abbrev pub system_packs : Eight → Table ℕ
system_packs n =
    12 ⇒ word_i 0b0001111 0 n.rd n.rs1 (fence_bits n.operation n.first n.second)
    ¦ 13 ⇒ 0x00000073
    ¦ 14 ⇒ 0x00100073
    ¦ 15 ⇒ 0x10200073
    ¦ 16 ⇒ 0x30200073
    ¦ 17 ⇒ word_i 0b1110011 n.operation n.rd n.rs1 n.first
    ¦ 18 ⇒ word_i 0b1110011 0b1100110_11100_100 n.rd 0 0
    ¦ 19 ⇒ word_i 0b1110011 0b1100111_00000_100 0 0 n.rs2
    ¦ 20 ⇒ word_i 0b1110011 0b1100110_11100_100 0 n.rs1 0
    ¦ 21 ⇒ word_i 0b0101111 n.operation n.rd n.rs1 (swap_bits n.first n.second n.rs2)
    ¦ 22 ⇒ word_i 0b1110011 0b1000000_11100_100 n.rd n.rs1 (mop_r_bits n.operation)
    ¦ 23 ⇒ word_i 0b1110011 0b1000001_00000_100 n.rd n.rs1 (mop_rr_bits n.operation n.rs2)
    ¦ otherwise 0

unfoldable pub system_pack_of : Eight → ℕ
system_pack_of n = look n.family (system_packs n)

-- LUI, AUIPC, JAL, JALR, branches, loads, stores, OP-IMM, OP-IMM-32, OP, OP-32
abbrev pub packs : Eight → Table ℕ
packs n =
    1 ⇒ word_u 0b0110111 n.rd n.immediate
    ¦ 2 ⇒ word_u 0b0010111 n.rd n.immediate
    ¦ 3 ⇒ word_j 0b1101111 n.rd n.immediate
    ¦ 4 ⇒ word_i 0b1100111 0 n.rd n.rs1 n.immediate
    ¦ 5 ⇒ word_b 0b1100011 n.operation n.rs1 n.rs2 n.immediate
    ¦ 6 ⇒ word_i 0b0000011 n.operation n.rd n.rs1 n.immediate
    ¦ 7 ⇒ word_s 0b0100011 n.operation n.rs1 n.rs2 n.immediate
    ¦ 8 ⇒ word_i 0b0010011 n.operation n.rd n.rs1 n.immediate
    ¦ 9 ⇒ word_i 0b0011011 n.operation n.rd n.rs1 n.immediate
    ¦ 10 ⇒ word_i 0b0110011 n.operation n.rd n.rs1 n.rs2
    ¦ 11 ⇒ word_i 0b0111011 n.operation n.rd n.rs1 n.rs2
    ¦ otherwise (system_pack_of n)

unfoldable pub pack_of : Eight → ℕ
pack_of n = look n.family (packs n)
