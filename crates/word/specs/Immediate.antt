-- The immediates of the five formats: the manual's bits, put together and sign-extended to 64 bits. Rule 3.2 of docs/HART.md.
use Rattle.std.specs.Prelude.{ℕ, ◌+◌, ◌*◌, ◌^◌}
use Rattle.word.specs.Field.{bits}
use Rattle.word.specs.Sign.{sign_extend_of}

-- I: imm[11:0] is bits 31:20
abbrev pub imm_i_of : ℕ → ℕ
imm_i_of w = sign_extend_of 12 (bits w 31 20)

-- S: imm[11:5] is bits 31:25, imm[4:0] bits 11:7
abbrev pub imm_s_of : ℕ → ℕ
imm_s_of w = sign_extend_of 12 (bits w 31 25 * 2 ^ 5 + bits w 11 7)

-- B: imm[12] is bit 31, imm[11] bit 7, imm[10:5] bits 30:25, imm[4:1] bits 11:8
abbrev pub imm_b_of : ℕ → ℕ
imm_b_of w =
    sign_extend_of 13 (bits w 31 31 * 2 ^ 12 + bits w 7 7 * 2 ^ 11 + bits w 30 25 * 2 ^ 5 + bits w 11 8 * 2)

-- U: imm[31:12] is bits 31:12
abbrev pub imm_u_of : ℕ → ℕ
imm_u_of w = sign_extend_of 32 (bits w 31 12 * 2 ^ 12)

-- J: imm[20] is bit 31, imm[19:12] bits 19:12, imm[11] bit 20, imm[10:1] bits 30:21
abbrev pub imm_j_of : ℕ → ℕ
imm_j_of w =
    sign_extend_of 21 (bits w 31 31 * 2 ^ 20 + bits w 19 12 * 2 ^ 12 + bits w 20 20 * 2 ^ 11 + bits w 30 21 * 2)
