-- A law a format: the parts that the reader takes from a word, put together by the format, are that word.
-- Assumes nothing.
use mathlib.Core.Path.{◌≡◌, sym, ◌∙◌, ap}
use Prim.Native.Nat.{ℕ, ◌+◌, ◌*◌, ◌/◌, ◌%◌, ◌^◌, ◌<◌}
use native.Mathlib.Nat.{mod-mod, mod-eq_of_lt}
use native.Mathlib.Omega.{arith}
use lib.Pow.{field, mod-mod-pow, mod-pow-add, shr-shr, shl-shr}
use lib.Arith.{digits_div, digits_mod}
use Rattle.word.specs.Field.{bits, opcode, fields_of}
use Rattle.word.specs.Immediate.{imm_i_of, imm_s_of, imm_b_of, imm_u_of, imm_j_of}
use Rattle.word.proofs.Extension.{extend_keeps}
use Rattle.decode_base.specs.Base.{functs, shift_key, shift_amount, count_key}
use Rattle.decode_writer.specs.Format.{word_from, word_i, word_s, word_b, word_u, word_j}

-- field by field, what is above the field as a number of its own: one sum over all of them is more than omega takes
sum_up :
    (w o p d q f r a s n : ℕ) → w ≡ o + p * 2 ^ 7 → p ≡ d + q * 2 ^ 5 → q ≡ f + r * 2 ^ 3 → r ≡ a + s * 2 ^ 5 → s ≡ n
    → o + d * 2 ^ 7 + f * 2 ^ 12 + a * 2 ^ 15 + n * 2 ^ 20 ≡ w
sum_up w o p d q f r a s n h1 h2 h3 h4 h5 = omega arith

-- five parts that are a word's are that word
pub whole :
    (w op d f a n : ℕ) → w < 2 ^ 32 → op % 2 ^ 7 ≡ opcode w → d % 2 ^ 5 ≡ bits w 11 7 → f % 2 ^ 3 ≡ bits w 14 12
    → a % 2 ^ 5 ≡ bits w 19 15 → n % 2 ^ 12 ≡ bits w 31 20 → word_from op d f a n ≡ w
whole w op d f a n h eo ed ef ea en =
    rw (eo, ed, ef, ea, en)
    (sum_up w (w % 2 ^ 7) (w / 2 ^ 7) (w / 2 ^ 7 % 2 ^ 5) (w / 2 ^ 12) (w / 2 ^ 12 % 2 ^ 3) (w / 2 ^ 15) (w / 2 ^ 15 % 2 ^ 5)
    (w / 2 ^ 20) (w / 2 ^ 20 % 2 ^ 12) (omega arith) (omega arith) (omega arith) (omega arith) (omega arith))

-- numbers that agree in their low bits agree in a part of them
pub part :
    (j n lo x y : ℕ) → x % 2 ^ (j + n + lo) ≡ y % 2 ^ (j + n + lo) → x / 2 ^ lo % 2 ^ n ≡ y / 2 ^ lo % 2 ^ n
part j n lo x y e =
    sym (mod-mod-pow (x / 2 ^ lo) j n)
    ∙ ap (λ (t : ℕ). t % 2 ^ n) (sym (field x (j + n) lo) ∙ ap (λ (t : ℕ). t / 2 ^ lo) e ∙ field y (j + n) lo)
    ∙ mod-mod-pow (y / 2 ^ lo) j n

-- the same of what is above bit k
above :
    (j n lo k x y : ℕ) → x / 2 ^ k % 2 ^ (j + n + lo) ≡ y / 2 ^ k % 2 ^ (j + n + lo)
    → x / 2 ^ (k + lo) % 2 ^ n ≡ y / 2 ^ (k + lo) % 2 ^ n
above j n lo k x y e = rw (← shr-shr x k lo, ← shr-shr y k lo) (part j n lo (x / 2 ^ k) (y / 2 ^ k) e)

-- two neighbouring parts are one
pub join : (w lo j k : ℕ) → w / 2 ^ (lo + k) % 2 ^ j * 2 ^ k + w / 2 ^ lo % 2 ^ k ≡ w / 2 ^ lo % 2 ^ (j + k)
join w lo j k = rw (← shr-shr w lo k) (sym (mod-pow-add (w / 2 ^ lo) j k))

-- the parts of a branch's distance
module _ (s t p q : ℕ) (hs : s < 2) (ht : t < 2) (hp : p < 2 ^ 6) (hq : q < 2 ^ 4) where
  abbrev distance : ℕ
  distance = s * 2 ^ 12 + t * 2 ^ 11 + p * 2 ^ 5 + q * 2

  distance_12 : distance / 2 ^ 12 % 2 ≡ s
  distance_12 = omega arith

  distance_11 : distance / 2 ^ 11 % 2 ≡ t
  distance_11 = omega arith

  distance_5 : distance / 2 ^ 5 % 2 ^ 6 ≡ p
  distance_5 = omega arith

  distance_1 : distance / 2 % 2 ^ 4 ≡ q
  distance_1 = omega arith

-- the parts of a jump's
module _ (s p t r : ℕ) (hs : s < 2) (hp : p < 2 ^ 8) (ht : t < 2) (hr : r < 2 ^ 10) where
  abbrev leap : ℕ
  leap = s * 2 ^ 20 + p * 2 ^ 12 + t * 2 ^ 11 + r * 2

  leap_20 : leap / 2 ^ 20 % 2 ≡ s
  leap_20 = omega arith

  leap_12 : leap / 2 ^ 12 % 2 ^ 8 ≡ p
  leap_12 = omega arith

  leap_11 : leap / 2 ^ 11 % 2 ≡ t
  leap_11 = omega arith

  leap_1 : leap / 2 % 2 ^ 10 ≡ r
  leap_1 = omega arith

-- parts that are known, side by side
two : (p q p' q' x : ℕ) → p' ≡ p → q' ≡ q → p * 2 + q ≡ x → p' * 2 + q' ≡ x
two p q p' q' x d e f = omega arith

three :
    (s p b s' p' b' y x : ℕ) → s' ≡ s → p' ≡ p → b' ≡ b → s * 2 ^ 6 + p ≡ y → y * 2 ^ 5 + b ≡ x
    → s' * 2 ^ 11 + p' * 2 ^ 5 + b' ≡ x
three s p b s' p' b' y x c d e f g = omega arith

jumped :
    (s r t s' r' t' y x : ℕ) → s' ≡ s → r' ≡ r → t' ≡ t → s * 2 ^ 10 + r ≡ y → y * 2 + t ≡ x
    → s' * 2 ^ 11 + r' * 2 + t' ≡ x
jumped s r t s' r' t' y x c d e f g = omega arith

-- a shift's amount reaches into funct7
halved : (f b x : ℕ) → f * 2 ^ 5 + b ≡ x → f / 2 * 2 ^ 6 + (f % 2 * 32 + b) ≡ x
halved f b x e = omega arith

amount : (f b : ℕ) → b < 2 ^ 5 → f % 2 * 32 + b < 2 ^ 12
amount f b h = omega arith

padded : (v x : ℕ) → v ≡ x → v + 0 % 2 ^ 12 ≡ x
padded v x e = omega arith

-- what is in its place stays there
cut : (k x : ℕ) {y : ℕ} → y ≡ x % 2 ^ k → y % 2 ^ k ≡ x % 2 ^ k
cut k x e = rw e (mod-mod x (2 ^ k))

module _ (w : ℕ) (h : w < 2 ^ 32) where
  -- R and I: what is added to the key's upper bits makes them bits 31:20
  pub i_back :
      (op k n : ℕ) → op % 2 ^ 7 ≡ opcode w → k % 2 ^ 3 ≡ bits w 14 12 → (k / 2 ^ 3 + n % 2 ^ 12) % 2 ^ 12 ≡ bits w 31 20
      → word_i op k (bits w 11 7) (bits w 19 15) n ≡ w
  i_back op k n eo ek en = whole w op _ k _ _ h eo (mod-mod _ _) ek (mod-mod _ _) en

  -- I with an immediate
  pub imm_back :
      (op k : ℕ) → op % 2 ^ 7 ≡ opcode w → k % 2 ^ 3 ≡ bits w 14 12 → k / 2 ^ 3 ≡ 0
      → word_i op k (bits w 11 7) (bits w 19 15) (imm_i_of w) ≡ w
  imm_back op k eo ek ez =
      i_back op k (imm_i_of w) eo ek (rw (ez, extend_keeps 12 (bits w 31 20) (omega arith) (omega arith)) (omega arith))

  -- R, and the shifts of words: funct7 and funct3 side by side are the row's key
  pub r_back :
      (op k key : ℕ) → op % 2 ^ 7 ≡ opcode w → functs (fields_of w) ≡ key → k % 2 ^ 3 ≡ key % 8 → k / 2 ^ 3 ≡ key / 8 * 2 ^ 5
      → word_i op k (bits w 11 7) (bits w 19 15) (bits w 24 20) ≡ w
  r_back op k key eo e e3 e7 =
      let a : bits w 14 12 < 8 = omega arith in
      let f7 : bits w 31 25 ≡ key / 8 = omega arith in
      let f3 : bits w 14 12 ≡ key % 8 = omega arith in
      i_back op k (bits w 24 20) eo (e3 ∙ sym f3)
      (cut 12 (w / 2 ^ 20) (rw (e7, ← f7, mod-eq_of_lt {n = bits w 24 20} {m = 2 ^ 12} (omega arith)) (join w 20 7 5)))

  -- the counts: funct7, rs2 and funct3 are the row's key, and there is no operand
  pub count_back : (op key : ℕ) → op % 2 ^ 7 ≡ opcode w → count_key (fields_of w) ≡ key → word_i op key (bits w 11 7) (bits w 19 15) 0 ≡ w
  count_back op key eo e =
      let a : bits w 14 12 < 8 = omega arith in
      let b : bits w 24 20 < 2 ^ 5 = omega arith in
      let f3 : key % 8 ≡ bits w 14 12 = omega arith in
      let f : key / 8 ≡ bits w 31 25 * 2 ^ 5 + bits w 24 20 = omega arith in
      i_back op key 0 eo f3 (cut 12 (w / 2 ^ 20) (rw f (padded _ _ (join w 20 7 5))))

  -- the shifts: bits 31:26 and funct3 are the row's key
  pub shift_back :
      (op k key : ℕ) → op % 2 ^ 7 ≡ opcode w → shift_key (fields_of w) ≡ key → k % 2 ^ 3 ≡ key % 8 → k / 2 ^ 3 ≡ key / 8 * 2 ^ 6
      → word_i op k (bits w 11 7) (bits w 19 15) (shift_amount (fields_of w)) ≡ w
  shift_back op k key eo e e3 e7 =
      let a : bits w 14 12 < 8 = omega arith in
      let f7 : bits w 31 25 / 2 ≡ key / 8 = omega arith in
      let f3 : bits w 14 12 ≡ key % 8 = omega arith in
      i_back op k (shift_amount (fields_of w)) eo (e3 ∙ sym f3)
      (cut 12 (w / 2 ^ 20)
      (rw (e7, ← f7, mod-eq_of_lt {n = shift_amount (fields_of w)} {m = 2 ^ 12} (amount (bits w 31 25) (bits w 24 20) (omega arith)))
      (halved _ _ _ (join w 20 7 5))))

  pub s_back :
      (op k : ℕ) → op % 2 ^ 7 ≡ opcode w → k % 2 ^ 3 ≡ bits w 14 12
      → word_s op k (bits w 19 15) (bits w 24 20) (imm_s_of w) ≡ w
  s_back op k eo ek =
      let hd : bits w 11 7 < 2 ^ 5 = omega arith in
      let e : imm_s_of w % 2 ^ 12 ≡ (bits w 31 25 * 2 ^ 5 + bits w 11 7) % 2 ^ 12 = extend_keeps 12 _ (omega arith) (omega arith) in
      let low : imm_s_of w % 2 ^ 5 ≡ bits w 11 7 = sym (mod-mod-pow (imm_s_of w) 7 5)
      ∙ rw (e, mod-mod-pow (bits w 31 25 * 2 ^ 5 + bits w 11 7) 7 5) (digits_mod (bits w 31 25) hd) in
      let high : imm_s_of w / 2 ^ 5 % 2 ^ 7 ≡ bits w 31 25 = part 0 7 5 (imm_s_of w) _ e ∙ rw (digits_div (bits w 31 25) hd) (mod-mod _ _) in
      whole w op (imm_s_of w) k _ _ h eo low ek (mod-mod _ _)
      (cut 12 (w / 2 ^ 20) (rw (high, mod-mod (w / 2 ^ 20) (2 ^ 5)) (join w 20 7 5)))

  pub b_back :
      (op k : ℕ) → op % 2 ^ 7 ≡ opcode w → k % 2 ^ 3 ≡ bits w 14 12
      → word_b op k (bits w 19 15) (bits w 24 20) (imm_b_of w) ≡ w
  b_back op k eo ek =
      let hs : bits w 31 31 < 2 = omega arith in
      let ht : bits w 7 7 < 2 = omega arith in
      let hp : bits w 30 25 < 2 ^ 6 = omega arith in
      let hq : bits w 11 8 < 2 ^ 4 = omega arith in
      let v : ℕ = distance (bits w 31 31) (bits w 7 7) (bits w 30 25) (bits w 11 8) hs ht hp hq in
      let e : imm_b_of w % 2 ^ 13 ≡ v % 2 ^ 13 = extend_keeps 13 v (omega arith) (omega arith) in
      let p12 : imm_b_of w / 2 ^ 12 % 2 ≡ bits w 31 31 = part 0 1 12 (imm_b_of w) v e ∙ distance_12 _ _ _ _ hs ht hp hq in
      let p11 : imm_b_of w / 2 ^ 11 % 2 ≡ bits w 7 7 = part 1 1 11 (imm_b_of w) v e ∙ distance_11 _ _ _ _ hs ht hp hq in
      let p5 : imm_b_of w / 2 ^ 5 % 2 ^ 6 ≡ bits w 30 25 = part 2 6 5 (imm_b_of w) v e ∙ distance_5 _ _ _ _ hs ht hp hq in
      let p1 : imm_b_of w / 2 % 2 ^ 4 ≡ bits w 11 8 = part 8 4 1 (imm_b_of w) v e ∙ distance_1 _ _ _ _ hs ht hp hq in
      whole w op _ k _ _ h eo (cut 5 (w / 2 ^ 7) (two _ _ _ _ _ p1 p11 (join w 7 4 1))) ek (mod-mod _ _)
      (cut 12 (w / 2 ^ 20) (three _ _ _ _ _ _ _ _ p12 p5 (mod-mod _ _) (join w 25 1 6) (join w 20 7 5)))

  pub u_back : (op : ℕ) → op % 2 ^ 7 ≡ opcode w → word_u op (bits w 11 7) (imm_u_of w) ≡ w
  u_back op eo =
      let v : ℕ = bits w 31 12 * 2 ^ 12 in
      let e : imm_u_of w % 2 ^ 32 ≡ v % 2 ^ 32 = extend_keeps 32 v (omega arith) (omega arith) in
      let f : imm_u_of w / 2 ^ 12 % 2 ^ 20 ≡ w / 2 ^ 12 % 2 ^ 20 = part 0 20 12 (imm_u_of w) v e ∙ rw (shl-shr (bits w 31 12) 12) (mod-mod _ _) in
      whole w op _ _ _ _ h eo (mod-mod _ _) (above 17 3 0 12 (imm_u_of w) w f) (above 12 5 3 12 (imm_u_of w) w f) (above 0 12 8 12 (imm_u_of w) w f)

  pub j_back : (op : ℕ) → op % 2 ^ 7 ≡ opcode w → word_j op (bits w 11 7) (imm_j_of w) ≡ w
  j_back op eo =
      let hs : bits w 31 31 < 2 = omega arith in
      let hp : bits w 19 12 < 2 ^ 8 = omega arith in
      let ht : bits w 20 20 < 2 = omega arith in
      let hr : bits w 30 21 < 2 ^ 10 = omega arith in
      let v : ℕ = leap (bits w 31 31) (bits w 19 12) (bits w 20 20) (bits w 30 21) hs hp ht hr in
      let e : imm_j_of w % 2 ^ 21 ≡ v % 2 ^ 21 = extend_keeps 21 v (omega arith) (omega arith) in
      let p20 : imm_j_of w / 2 ^ 20 % 2 ≡ bits w 31 31 = part 0 1 20 (imm_j_of w) v e ∙ leap_20 _ _ _ _ hs hp ht hr in
      let p12 : imm_j_of w / 2 ^ 12 % 2 ^ 8 ≡ bits w 19 12 = part 1 8 12 (imm_j_of w) v e ∙ leap_12 _ _ _ _ hs hp ht hr in
      let p11 : imm_j_of w / 2 ^ 11 % 2 ≡ bits w 20 20 = part 9 1 11 (imm_j_of w) v e ∙ leap_11 _ _ _ _ hs hp ht hr in
      let p1 : imm_j_of w / 2 % 2 ^ 10 ≡ bits w 30 21 = part 10 10 1 (imm_j_of w) v e ∙ leap_1 _ _ _ _ hs hp ht hr in
      whole w op _ _ _ _ h eo (mod-mod _ _) (above 5 3 0 12 (imm_j_of w) w p12) (above 0 5 3 12 (imm_j_of w) w p12)
      (cut 12 (w / 2 ^ 20) (jumped _ _ _ _ _ _ _ _ p20 p1 p11 (join w 21 1 10) (join w 20 11 1)))
