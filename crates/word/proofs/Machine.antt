-- The library's signed numbers of 64 bits are those of specs/Sign.antt, and its shift of one is the shift that copies the sign.
-- Assumes nothing.
use Rattle.std.proofs.Common.{◌≡◌, ℕ, ℤ, pos, suc, Bool, true, false, ◌+◌, ◌-◌, ◌*◌, ◌/◌, ◌%◌, ◌^◌, ◌<◌, ◌≤◌, refl, sym, ap, ◌∙◌, add-zero, mod-lt, mod-eq_of_lt, arith, pow_pos}
use Rattle.std.proofs.lemmas.Int.{of_z-to_z}
use Rattle.std.proofs.Math.Nat.{mul-mod_left}
use lib.Pow.{mod-pow-add, shl-shr, shr-shr}
use lib.Dec.{ltb}
use lib.IntN.{negsuc}
use lib.Signed.{shr_z}
use mir.Syntax.{w64}
use mir.Val.{of_z, to_z, sel}
use Rattle.word.specs.Choice.{pick}
use Rattle.word.specs.Shift.{shifted_arithmetic}
use Rattle.word.specs.Sign.{sign_extend_of, signed_of}
use Rattle.word.proofs.Extension.{sign_bit, extend_signed, extend_below}
use Rattle.word.proofs.Filling.{fill_below, fill_signed}

as_picked : (b : Bool) (x y : ℤ) → sel b x y ≡ pick b x y
as_picked true x y = refl
as_picked false x y = refl

pub cast_is : (a : ℕ) → to_z w64 a ≡ signed_of 64 a
unfolding signed_of
cast_is a = as_picked (ltb a (2 ^ 63)) (pos a) (negsuc (2 ^ 64 - suc a))

-- and back
pub cast_back : (a : ℕ) → a < 2 ^ 64 → of_z w64 (signed_of 64 a) ≡ a
cast_back a l = ap (of_z w64) (sym (cast_is a)) ∙ of_z-to_z w64 a l

-- as a word's bits that are read as signed
pub cast_held : (a : ℕ) → a < 2 ^ 64 → to_z w64 (of_z w64 (to_z w64 a)) ≡ signed_of 64 a
cast_held a l = ap (to_z w64) (of_z-to_z w64 a l) ∙ cast_is a

-- words of one signed number are one
pub same_word : (a b : ℕ) → a < 2 ^ 64 → b < 2 ^ 64 → signed_of 64 a ≡ signed_of 64 b → a ≡ b
same_word a b p q e = sym (cast_back a p) ∙ ap (of_z w64) e ∙ cast_back b q

-- a word, cast and shifted right by n, and cast back
pub shift_is :
    (a n : ℕ) → a < 2 ^ 64 → n ≤ 64
    → of_z w64 (to_z w64 (of_z w64 (shr_z (to_z w64 (of_z w64 (to_z w64 a))) (2 ^ n)))) ≡ shifted_arithmetic 64 a n
shift_is a n l m =
    let s = shifted_arithmetic 64 a n in
    let b : s < 2 ^ 64 = fill_below 64 n m a (omega arith) l in
    let e : shr_z (to_z w64 (of_z w64 (to_z w64 a))) (2 ^ n) ≡ signed_of 64 s =
    ap (λ y. shr_z (to_z w64 y) (2 ^ n)) (of_z-to_z w64 a l) ∙ ap (λ z. shr_z z (2 ^ n)) (cast_is a)
    ∙ sym (fill_signed 64 n m a (omega arith) l) in
    ap (λ z. of_z w64 (to_z w64 (of_z w64 z))) e ∙ ap (λ y. of_z w64 (to_z w64 y)) (cast_back s b) ∙ of_z-to_z w64 s b

module _ (k v : ℕ) (p : 0 < k) (l : k ≤ 64) where
  -- the low k bits, at the top of the word
  raised : v * 2 ^ (64 - k) % 2 ^ 64 ≡ v % 2 ^ k * 2 ^ (64 - k)
  raised =
      let e : k + (64 - k) ≡ 64 = omega arith in
      rw e at (mod-pow-add (v * 2 ^ (64 - k)) k (64 - k)) ∙ rw (shl-shr v (64 - k), mul-mod_left v (2 ^ (64 - k)), add-zero)

  -- shifted back, with copies of their topmost above them
  pub extend_by_shift : shifted_arithmetic 64 (v * 2 ^ (64 - k) % 2 ^ 64) (64 - k) ≡ sign_extend_of k v
  extend_by_shift =
      let e : 64 - k + (k - 1) ≡ 63 = omega arith in
      let f : 64 - (64 - k) ≡ k = omega arith in
      let t : v % 2 ^ k * 2 ^ (64 - k) / 2 ^ 63 ≡ v % 2 ^ k / 2 ^ (k - 1) =
      sym (rw e at (shr-shr (v % 2 ^ k * 2 ^ (64 - k)) (64 - k) (k - 1))) ∙ ap (λ y. y / 2 ^ (k - 1)) (shl-shr (v % 2 ^ k) (64 - k)) in
      rw (raised, shl-shr (v % 2 ^ k) (64 - k), t, f, sign_bit k v p)

-- all bits are the number
pub extend_all : (a : ℕ) → a < 2 ^ 64 → sign_extend_of 64 a ≡ a
extend_all a l = omega arith

-- k bits extended and shifted are the k bits shifted and extended
pub extend_shifted :
    (k a n : ℕ) → 0 < k → k ≤ 64 → n ≤ k
    → shifted_arithmetic 64 (sign_extend_of k a) n ≡ sign_extend_of k (shifted_arithmetic k (a % 2 ^ k) n)
extend_shifted k a n p l m =
    let x = a % 2 ^ k in
    let s = shifted_arithmetic k x n in
    let w : n ≤ 64 = omega arith in
    let i : x < 2 ^ k = mod-lt a (pow_pos k) in
    let b : s < 2 ^ k = fill_below k n m x p i in
    let c : sign_extend_of k a < 2 ^ 64 = extend_below k a p l in
    same_word _ _ (fill_below 64 n w (sign_extend_of k a) (omega arith) c) (extend_below k s p l)
    (fill_signed 64 n w (sign_extend_of k a) (omega arith) c ∙ ap (λ z. shr_z z (2 ^ n)) (extend_signed k a p l)
    ∙ sym (fill_signed k n m x p i) ∙ ap (signed_of k) (sym (mod-eq_of_lt b)) ∙ sym (extend_signed k s p l))
