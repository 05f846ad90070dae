-- What a word of Zicfiss and Zimop reads as packs to that word again: along the tables of `decode::cfi`.
-- Assumes nothing.
use mathlib.Core.Bool.{Bool, true, false}
use mathlib.Core.Path.{◌≡◌, refl, sym, ◌∙◌}
use Prim.Native.Nat.{ℕ, ◌+◌, ◌-◌, ◌*◌, ◌/◌, ◌%◌, ◌^◌, ◌<◌}
use native.Mathlib.Nat.{mod-eq_of_lt}
use native.Mathlib.Omega.{arith}
use borrow.Author.Tests.{eqb-true, eqb-false}
use lib.Arith.{digits_div, digits_mod}
use lib.Dec.{eqb}
use lib.Pow.{split, shr-shr}
use Rattle.word.specs.Choice.{look}
use Rattle.word.specs.Field.{bits, opcode, fields_of}
use Rattle.decode.specs.Cfi.{swap_of, swaps, amo_key, aq, rl, mop_of, mop_r_key, mop_rs, mop_rr_key, mop_rrs, zimop_of, zimops, reads}
use Rattle.decode_numbers.specs.Numbers.{ordering_bit}
use Rattle.decode_writer.specs.Format.{word_i}
use Rattle.decode_writer.specs.Pack.{pack_of, system_pack_of, swap_bits, mop_r_bits, mop_rr_bits}
use Rattle.decode_writer.proofs.Back.{Back, none}
use Rattle.word.proofs.Tables.{looked, ◌and◌}
use Rattle.decode_writer.proofs.Formats.{join, i_back}

-- a bit that became a test becomes the bit again
flag_of_lem : (x : ℕ) → x < 2 → ordering_bit (eqb x 1) ≡ x
flag_of_lem x h = go (eqb x 1) refl
  where
    go : (t : Bool) → eqb x 1 ≡ t → ordering_bit t ≡ x
    go true e = sym (eqb-true x 1 e)
    go false e = let n : (x ≡ 1 → ⊥) = eqb-false x 1 e in omega arith

-- what fills twelve bits is cut nowhere
into : (c v x : ℕ) → x < 2 ^ 12 → c + v ≡ x → (c + v % 2 ^ 12) % 2 ^ 12 ≡ x
into c v x h e = omega arith

-- funct5, aq and rl are funct7
quarters : (f : ℕ) → f / 4 * 4 + f / 2 % 2 * 2 + f % 2 ≡ f
quarters f = rw (← shr-shr f 1 1) (go _ _ _ _ _ (split f 1) (split (f / 2) 1))
  where
    go : (f g q p l : ℕ) → g * 2 + l ≡ f → q * 2 + p ≡ g → q * 4 + p * 2 + l ≡ f
    go f g q p l e d = omega arith

-- with rs2 they are bits 31:20
swap_parts :
    (q p l b f x : ℕ) → p < 2 → l < 2 → b < 2 ^ 5 → x < 2 ^ 12 → q * 4 + p * 2 + l ≡ f → f * 2 ^ 5 + b ≡ x
    → (q * 2 ^ 7 + swap_bits p l b % 2 ^ 12) % 2 ^ 12 ≡ x
swap_parts q p l b f x hp hl hb h d e =
    into (q * 2 ^ 7) (swap_bits p l b) x h
    (rw (mod-eq_of_lt {n = p} {m = 2} hp, mod-eq_of_lt {n = l} {m = 2} hl, mod-eq_of_lt {n = b} {m = 2 ^ 5} hb) (sum q p l b f x d e))
  where
    sum : (q p l b f x : ℕ) → q * 4 + p * 2 + l ≡ f → f * 2 ^ 5 + b ≡ x → q * 2 ^ 7 + (p * 2 ^ 6 + l * 2 ^ 5 + b) ≡ x
    sum q p l b f x d e = omega arith

-- the number of MOP.R
module _ (g m l : ℕ) (hg : g < 2) (hm : m < 2 ^ 2) (hl : l < 2 ^ 2) where
  number_4 : (g * 2 ^ 4 + m * 2 ^ 2 + l) / 2 ^ 4 % 2 ≡ g
  number_4 = omega arith

  number_2 : (g * 2 ^ 4 + m * 2 ^ 2 + l) / 2 ^ 2 % 2 ^ 2 ≡ m
  number_2 = omega arith

  number_0 : (g * 2 ^ 4 + m * 2 ^ 2 + l) % 2 ^ 2 ≡ l
  number_0 = omega arith

-- it and the bits around it are bits 31:20
mop_r_parts :
    (s g z m y l p q r t x : ℕ) → x < 2 ^ 12 → g < 2 → m < 2 ^ 2 → l < 2 ^ 2 → s ≡ 1 → z ≡ 0 → y ≡ 7 → s * 2 + g ≡ p
    → p * 2 ^ 2 + z ≡ q → q * 2 ^ 2 + m ≡ r → r * 2 ^ 4 + y ≡ t → t * 2 ^ 2 + l ≡ x
    → (0b100000011100 + mop_r_bits (g * 2 ^ 4 + m * 2 ^ 2 + l) % 2 ^ 12) % 2 ^ 12 ≡ x
mop_r_parts s g z m y l p q r t x h hg hm hl es ez ey e1 e2 e3 e4 e5 =
    rw (number_4 g m l hg hm hl, number_2 g m l hg hm hl, number_0 g m l hg hm hl)
    (into _ _ x h (sum s g z m y l p q r t x es ez ey e1 e2 e3 e4 e5))
  where
    sum :
        (s g z m y l p q r t x : ℕ) → s ≡ 1 → z ≡ 0 → y ≡ 7 → s * 2 + g ≡ p → p * 2 ^ 2 + z ≡ q → q * 2 ^ 2 + m ≡ r
        → r * 2 ^ 4 + y ≡ t → t * 2 ^ 2 + l ≡ x → 0b100000011100 + (g * 2 ^ 10 + m * 2 ^ 6 + l) ≡ x
    sum s g z m y l p q r t x es ez ey e1 e2 e3 e4 e5 = omega arith

-- the same for MOP.RR and rs2
mop_rr_parts :
    (s g z m y b p q r t x : ℕ) → x < 2 ^ 12 → g < 2 → m < 2 ^ 2 → b < 2 ^ 5 → s ≡ 1 → z ≡ 0 → y ≡ 1 → s * 2 + g ≡ p
    → p * 2 ^ 2 + z ≡ q → q * 2 ^ 2 + m ≡ r → r * 2 + y ≡ t → t * 2 ^ 5 + b ≡ x
    → (0b100000100000 + mop_rr_bits (g * 2 ^ 2 + m) b % 2 ^ 12) % 2 ^ 12 ≡ x
mop_rr_parts s g z m y b p q r t x h hg hm hb es ez ey e1 e2 e3 e4 e5 =
    rw (
      digits_div g hm,
      digits_mod g hm,
      mod-eq_of_lt {n = g} {m = 2} hg,
      mod-eq_of_lt {n = b} {m = 2 ^ 5} hb,
    )
    (into _ _ x h (sum s g z m y b p q r t x es ez ey e1 e2 e3 e4 e5))
  where
    sum :
        (s g z m y b p q r t x : ℕ) → s ≡ 1 → z ≡ 0 → y ≡ 1 → s * 2 + g ≡ p → p * 2 ^ 2 + z ≡ q → q * 2 ^ 2 + m ≡ r
        → r * 2 + y ≡ t → t * 2 ^ 5 + b ≡ x → 0b100000100000 + (g * 2 ^ 10 + m * 2 ^ 6 + b) ≡ x
    sum s g z m y b p q r t x es ez ey e1 e2 e3 e4 e5 = omega arith

-- a key of three parts says each of them
keys_r : (s z y : ℕ) → s < 2 → z < 2 ^ 2 → y < 2 ^ 4 → s * 2 ^ 6 + z * 2 ^ 4 + y ≡ 0b1_00_0111 → (s ≡ 1) × (z ≡ 0) × (y ≡ 7)
keys_r s z y hs hz hy e = (omega arith, omega arith, omega arith)

keys_rr : (s z y : ℕ) → s < 2 → z < 2 ^ 2 → y < 2 → s * 2 ^ 3 + z * 2 + y ≡ 0b1_00_1 → (s ≡ 1) × (z ≡ 0) × (y ≡ 1)
keys_rr s z y hs hz hy e = (omega arith, omega arith, omega arith)

-- the word that reads ssp into d
ssp_word : (w d : ℕ) → d < 2 ^ 5 → w - d * 2 ^ 7 ≡ 0xCDC04073 → word_i 0b1110011 0b1100110_11100_100 d 0 0 ≡ w
ssp_word w d h e = omega arith

module _ (w : ℕ) (h : w < 2 ^ 32) where
  swap_row :
      (k key : ℕ) → 0b0101111 ≡ opcode w → amo_key (fields_of w) ≡ key → k % 2 ^ 3 ≡ key % 8 → k / 2 ^ 3 ≡ key / 8 * 2 ^ 7
      → word_i 0b0101111 k (bits w 11 7) (bits w 19 15)
      (swap_bits (ordering_bit (aq (fields_of w))) (ordering_bit (rl (fields_of w))) (bits w 24 20)) ≡ w
  swap_row k key o e e3 e7 =
      let a : bits w 14 12 < 8 = omega arith in
      let f7 : bits w 31 25 / 4 ≡ key / 8 = omega arith in
      let f3 : bits w 14 12 ≡ key % 8 = omega arith in
      i_back w h 0b0101111 k _ o (e3 ∙ sym f3)
      (rw (e7, ← f7, flag_of_lem (bits w 31 25 / 2 % 2) (omega arith), flag_of_lem (bits w 31 25 % 2) (omega arith))
      (swap_parts _ _ _ _ _ _ (omega arith) (omega arith) (omega arith) (omega arith) (quarters (bits w 31 25)) (join w 20 7 5)))

  pub swap_back : 0b0101111 ≡ opcode w → Back w (swap_of (fields_of w))
  unfolding swap_of pack_of system_pack_of
  swap_back o =
      looked (Back w) (amo_key (fields_of w)) (swaps (fields_of w))
      ((λ e n. swap_row 0b0100100_00000_010 0b01001_010 o e refl refl) and
      (λ e n. swap_row 0b0100100_00000_011 0b01001_011 o e refl refl) and
      none w)

  mop_rr_back : 0b1110011 ≡ opcode w → 0b100 ≡ bits w 14 12 → Back w (look (mop_rr_key w) (mop_rrs w (fields_of w)))
  unfolding pack_of system_pack_of
  mop_rr_back o f =
      looked (Back w) (mop_rr_key w) (mop_rrs w (fields_of w))
      ((λ e n.
      let k = keys_rr (bits w 31 31) (bits w 29 28) (bits w 25 25) (omega arith) (omega arith) (omega arith) e in
      i_back w h 0b1110011 0b1000001_00000_100 _ o f
      (mop_rr_parts _ _ _ _ _ _ _ _ _ _ _ (omega arith) (omega arith) (omega arith) (omega arith) k.0 k.1 k.2
      (join w 30 1 1) (join w 28 2 2) (join w 26 4 2) (join w 25 6 1) (join w 20 7 5))) and
      none w)

  mop_back : 0b1110011 ≡ opcode w → 0b100 ≡ bits w 14 12 → Back w (mop_of w (fields_of w))
  unfolding mop_of pack_of system_pack_of
  mop_back o f =
      looked (Back w) (mop_r_key w) (mop_rs w (fields_of w))
      ((λ e n.
      let k = keys_r (bits w 31 31) (bits w 29 28) (bits w 25 22) (omega arith) (omega arith) (omega arith) e in
      i_back w h 0b1110011 0b1000000_11100_100 _ o f
      (mop_r_parts _ _ _ _ _ _ _ _ _ _ _ (omega arith) (omega arith) (omega arith) (omega arith) k.0 k.1 k.2
      (join w 30 1 1) (join w 28 2 2) (join w 26 4 2) (join w 22 6 4) (join w 20 10 2))) and
      mop_rr_back o f)

  pub zimop_back : 0b1110011 ≡ opcode w → 0b100 ≡ bits w 14 12 → Back w (zimop_of w (fields_of w))
  unfolding zimop_of pack_of system_pack_of
  zimop_back o f =
      looked (Back w) w (zimops w (fields_of w))
      ((λ e n. sym e) and
      (λ e n. sym e) and
      (λ e n. sym e) and
      (λ e n. sym e) and
      (λ e. mop_back o f) and
      looked (Back w) (w - bits w 11 7 * 2 ^ 7) (reads w (fields_of w))
      ((λ e n. ssp_word w (bits w 11 7) (omega arith) e) and mop_back o f))
