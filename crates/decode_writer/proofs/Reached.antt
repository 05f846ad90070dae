-- A branch whose registers are registers and whose distance is in reach is written.
-- Assumes nothing.
use mathlib.Core.Path.{◌≡◌, sym, ◌∙◌, ap}
use Prim.Native.Nat.{ℕ, ◌+◌, ◌-◌, ◌*◌, ◌/◌, ◌%◌, ◌^◌, ◌≤◌, ◌<◌}
use native.Mathlib.Nat.{mod-eq_of_lt}
use native.Mathlib.Omega.{arith}
use lib.Pow.{mod-mod-pow, shr-shr}
use Rattle.word.specs.Field.{bits, opcode, fields_of}
use Rattle.word.specs.Immediate.{imm_b_of}
use Rattle.word.specs.Sign.{sign_extend_of}
use Rattle.word.proofs.Either.{either}
use Rattle.word.proofs.Extension.{extend_low}
use Rattle.word.proofs.Tables.{hit}
use Rattle.decode_base.specs.Base.{decode_branch_of, branches}
use Rattle.decode.specs.Decode.{decode_of}
use Rattle.isa.specs.declared.Condition.{Condition}
use Rattle.isa.specs.declared.Condition.TheVariants.{Equal, NotEqual, Less, NotLess, LessUnsigned, NotLessUnsigned}
use Rattle.isa.specs.declared.Instruction.TheVariants.{Branch}
use Rattle.decode_numbers.specs.Key.{condition_key}
use Rattle.std.specs.Prelude.{Option, Some}
use Rattle.decode_writer.specs.Promise.{Reads, Answers}
use Rattle.decode_writer.proofs.Formats.{join, part}
use Rattle.decode_writer.proofs.Promised.{one_answer}
use Rattle.decode_writer.proofs.Reach.{InReach, branch_legal}

-- a word put together of its fields, and these
abbrev made : (op d f a n : ℕ) → ℕ
made op d f a n = op + d * 2 ^ 7 + f * 2 ^ 12 + a * 2 ^ 15 + n * 2 ^ 20

module _ (op d f a n : ℕ) (ho : op < 2 ^ 7) (hd : d < 2 ^ 5) (hf : f < 2 ^ 3) (ha : a < 2 ^ 5) (hn : n < 2 ^ 12) where
  made_word : made op d f a n < 2 ^ 32
  made_word = omega arith

  made_0 : made op d f a n % 2 ^ 7 ≡ op
  made_0 = omega arith

  made_7 : made op d f a n / 2 ^ 7 % 2 ^ 5 ≡ d
  made_7 = omega arith

  made_12 : made op d f a n / 2 ^ 12 % 2 ^ 3 ≡ f
  made_12 = omega arith

  made_15 : made op d f a n / 2 ^ 15 % 2 ^ 5 ≡ a
  made_15 = omega arith

  made_20 : made op d f a n / 2 ^ 20 ≡ n
  made_20 = omega arith

-- the low 13 bits of an even number, part by part
even_parts : (o : ℕ) → o % 2 ≡ 0 → o / 2 ^ 12 % 2 * 2 ^ 12 + o / 2 ^ 11 % 2 * 2 ^ 11 + o / 2 ^ 5 % 2 ^ 6 * 2 ^ 5 + o / 2 % 2 ^ 4 * 2 ≡ o % 2 ^ 13
even_parts o e = go _ _ _ _ _ _ _ _ (join o 11 1 1) (join o 5 2 6) (join o 1 8 4) (doubled o e)
  where
    doubled : (o : ℕ) → o % 2 ≡ 0 → o / 2 ^ 1 % 2 ^ 12 * 2 ≡ o % 2 ^ 13
    doubled o e = omega arith

    go : (s t p q y z u x : ℕ) → s * 2 + t ≡ y → y * 2 ^ 6 + p ≡ z → z * 2 ^ 4 + q ≡ u → u * 2 ≡ x → s * 2 ^ 12 + t * 2 ^ 11 + p * 2 ^ 5 + q * 2 ≡ x
    go s t p q y z u x e1 e2 e3 e4 = omega arith

-- what is in reach is the extension of its low bits: the low bits l, and their sign q
extended : (o l q : ℕ) → q ≡ 0 → l ≡ o → l + q * (2 ^ 64 - 2 ^ 13) ≡ o
extended o l q e f = rw e (omega arith)

extended_below : (o l q : ℕ) → q ≡ 1 → l + (2 ^ 64 - 2 ^ 13) ≡ o → l + q * (2 ^ 64 - 2 ^ 13) ≡ o
extended_below o l q e f = rw e (omega arith)

below : (o : ℕ) → o < 2 ^ 64 → 2 ^ 12 ≤ o → (o + 2 ^ 12) % 2 ^ 64 < 2 ^ 13 → 2 ^ 64 - 2 ^ 12 ≤ o
below o h b r = omega arith

low_bits : (o : ℕ) → o < 2 ^ 64 → 2 ^ 64 - 2 ^ 12 ≤ o → o % 2 ^ 13 + (2 ^ 64 - 2 ^ 13) ≡ o
low_bits o h b = omega arith

reached_13 : (o : ℕ) → o < 2 ^ 64 → (o + 2 ^ 12) % 2 ^ 64 < 2 ^ 13 → sign_extend_of 13 o ≡ o
reached_13 o h r =
    either o (2 ^ 12) (λ b. extended o (o % 2 ^ 13) (o / 2 ^ 12 % 2) (omega arith) (omega arith))
    (λ b.
    let c : 2 ^ 64 - 2 ^ 12 ≤ o = below o h b r in
    extended_below o (o % 2 ^ 13) (o / 2 ^ 12 % 2) (omega (arith, c, h)) (low_bits o h c))

key_low : (c : Condition) → condition_key c < 2 ^ 3
key_low Equal = omega arith
key_low NotEqual = omega arith
key_low Less = omega arith
key_low NotLess = omega arith
key_low LessUnsigned = omega arith
key_low NotLessUnsigned = omega arith

-- the parts of the two fields that a distance is put into
module _ (s t p q b : ℕ) (hs : s < 2) (ht : t < 2) (hp : p < 2 ^ 6) (hq : q < 2 ^ 4) (hb : b < 2 ^ 5) where
  high_11 : (s * 2 ^ 11 + p * 2 ^ 5 + b) / 2 ^ 11 % 2 ≡ s
  high_11 = omega arith

  high_5 : (s * 2 ^ 11 + p * 2 ^ 5 + b) / 2 ^ 5 % 2 ^ 6 ≡ p
  high_5 = omega arith

  high_0 : (s * 2 ^ 11 + p * 2 ^ 5 + b) % 2 ^ 5 ≡ b
  high_0 = omega arith

  high_fits : s * 2 ^ 11 + p * 2 ^ 5 + b < 2 ^ 12
  high_fits = omega arith

  low_1 : (q * 2 + t) / 2 % 2 ^ 4 ≡ q
  low_1 = omega arith

  low_0 : (q * 2 + t) % 2 ≡ t
  low_0 = omega arith

  low_fits : q * 2 + t < 2 ^ 5
  low_fits = omega arith

-- what a word holds whose fields these are
module _ (w d n : ℕ) (hd : d < 2 ^ 5) (e7 : w / 2 ^ 7 % 2 ^ 5 ≡ d) (e20 : w / 2 ^ 20 ≡ n) where
  bit_7 : bits w 7 7 ≡ d % 2
  bit_7 = sym (mod-mod-pow (w / 2 ^ 7) 4 1) ∙ ap (λ (x : ℕ). x % 2) e7

  bits_11_8 : bits w 11 8 ≡ d / 2 % 2 ^ 4
  bits_11_8 = rw (← shr-shr w 7 1) (part 0 4 1 (w / 2 ^ 7) d (e7 ∙ sym (mod-eq_of_lt {n = d} {m = 2 ^ 5} hd)))

  bit_31 : bits w 31 31 ≡ n / 2 ^ 11 % 2
  bit_31 = rw (← shr-shr w 20 11, e20)

  bits_30_25 : bits w 30 25 ≡ n / 2 ^ 5 % 2 ^ 6
  bits_30_25 = rw (← shr-shr w 20 5, e20)

  bits_24_20 : bits w 24 20 ≡ n % 2 ^ 5
  bits_24_20 = rw e20

decode_branch : (w : ℕ) → opcode w ≡ 0b1100011 → decode_of w ≡ decode_branch_of (fields_of w) (imm_b_of w)
unfolding decode_of
decode_branch w e = rw e

same_branch : (c : Condition) (x y z a b o : ℕ) → x ≡ a → y ≡ b → z ≡ o → Branch c x y z ≡ Branch c a b o
same_branch c x y z a b o ea eb eo = rw (ea, eb, eo)

branch_row :
    (c : Condition) (w a b o : ℕ) → bits w 14 12 ≡ condition_key c → bits w 19 15 ≡ a → bits w 24 20 ≡ b → imm_b_of w ≡ o
    → decode_branch_of (fields_of w) (imm_b_of w) ≡ Branch c a b o
unfolding decode_branch_of
branch_row Equal w a b o e ea eb eo = sym (hit (branches (fields_of w) (imm_b_of w)) e) ∙ same_branch Equal _ _ _ a b o ea eb eo
branch_row NotEqual w a b o e ea eb eo = sym (hit (branches (fields_of w) (imm_b_of w)) e) ∙ same_branch NotEqual _ _ _ a b o ea eb eo
branch_row Less w a b o e ea eb eo = sym (hit (branches (fields_of w) (imm_b_of w)) e) ∙ same_branch Less _ _ _ a b o ea eb eo
branch_row NotLess w a b o e ea eb eo = sym (hit (branches (fields_of w) (imm_b_of w)) e) ∙ same_branch NotLess _ _ _ a b o ea eb eo
branch_row LessUnsigned w a b o e ea eb eo = sym (hit (branches (fields_of w) (imm_b_of w)) e) ∙ same_branch LessUnsigned _ _ _ a b o ea eb eo
branch_row NotLessUnsigned w a b o e ea eb eo = sym (hit (branches (fields_of w) (imm_b_of w)) e) ∙ same_branch NotLessUnsigned _ _ _ a b o ea eb eo

module _ (c : Condition) (a b o : ℕ) (ha : a < 2 ^ 5) (hb : b < 2 ^ 5) (h : o < 2 ^ 64) (r : InReach 13 o) where
  hs : o / 2 ^ 12 % 2 < 2
  hs = omega arith

  ht : o / 2 ^ 11 % 2 < 2
  ht = omega arith

  hp : o / 2 ^ 5 % 2 ^ 6 < 2 ^ 6
  hp = omega arith

  hq : o / 2 % 2 ^ 4 < 2 ^ 4
  hq = omega arith

  abbrev low : ℕ
  low = o / 2 % 2 ^ 4 * 2 + o / 2 ^ 11 % 2

  abbrev high : ℕ
  high = o / 2 ^ 12 % 2 * 2 ^ 11 + o / 2 ^ 5 % 2 ^ 6 * 2 ^ 5 + b

  hl : low < 2 ^ 5
  hl = low_fits _ _ _ _ b hs ht hp hq hb

  hh : high < 2 ^ 12
  hh = high_fits _ _ _ _ b hs ht hp hq hb

  abbrev word : ℕ
  word = made 0b1100011 low (condition_key c) a high

  e7 : word / 2 ^ 7 % 2 ^ 5 ≡ low
  e7 = made_7 0b1100011 low (condition_key c) a high (omega arith) hl (key_low c) ha hh

  e20 : word / 2 ^ 20 ≡ high
  e20 = made_20 0b1100011 low (condition_key c) a high (omega arith) hl (key_low c) ha hh

  distance_back : imm_b_of word ≡ o
  distance_back =
      rw (
        bit_31 word low high hl e7 e20 ∙ high_11 _ _ _ _ b hs ht hp hq hb,
        bit_7 word low high hl e7 e20 ∙ low_0 _ _ _ _ b hs ht hp hq hb,
        bits_30_25 word low high hl e7 e20 ∙ high_5 _ _ _ _ b hs ht hp hq hb,
        bits_11_8 word low high hl e7 e20 ∙ low_1 _ _ _ _ b hs ht hp hq hb,
        even_parts o r.0,
        extend_low 13 o (omega arith),
      )
      (reached_13 o h r.1)

  pub branch_word : Reads word (Branch c a b o)
  branch_word = (
    made_word 0b1100011 low (condition_key c) a high (omega arith) hl (key_low c) ha hh,
    decode_branch word (made_0 0b1100011 low (condition_key c) a high (omega arith) hl (key_low c) ha hh)
        ∙ branch_row c word a b o (made_12 0b1100011 low (condition_key c) a high (omega arith) hl (key_low c) ha hh)
        (made_15 0b1100011 low (condition_key c) a high (omega arith) hl (key_low c) ha hh)
        (bits_24_20 word low high hl e7 e20 ∙ high_0 _ _ _ _ b hs ht hp hq hb) distance_back,
    branch_legal c a b o,
  )

  -- so a branch in reach is never refused
  pub branch_written : (s : Option ℕ) → Answers (Branch c a b o) s → s ≡ Some word
  branch_written s p = one_answer (Branch c a b o) s (Some word) p branch_word
