-- What the tests of a line say together, and what a good line is.
-- Assumes nothing.
use mathlib.Core.Bool.{Bool, true, false, ◌&&◌}
use mathlib.Core.List.{List}
use mathlib.Core.Path.{◌≡◌, refl, sym, ◌∙◌}
use Prim.Native.Nat.{ℕ, suc, ◌+◌, ◌-◌, ◌*◌, ◌/◌, ◌<◌, ◌≤◌}
use native.Mathlib.Numerals.{add-one}
use native.Mathlib.Omega.{arith}
use borrow.Author.Tests.{eq-eqb, ne_eqb, eqb-true, leb-true}
use lib.Dec.{eqb, leb}
use lib.ListN.{length, get_or, drop, set, length-drop, drop_of_length-le}
use lib.Seq.{sets, drop-cons, get_or-take, get_or-drop, length-take-le}
use Rattle.std.specs.Prelude.{Option, Some}
use Rattle.word.specs.Choice.{pick}
use Rattle.word.proofs.Bools.{both}
use Rattle.intel_hex.specs.Digits.{hex_pairs}
use Rattle.intel_hex.specs.Line.{line_bytes_of, byte_of, half_of, record_count_of, offset_of, record_type_of, colon, counted, shaped, well_formed, checked, is_read, record_address_of, data_of}
use Rattle.intel_hex.specs.Line.{inside, good}
use Rattle.intel_hex.specs.Load.{upper_after_of, start_after_of, placed}
use Rattle.intel_hex.specs.Inner.{Framed}
use Rattle.intel_hex.proofs.Pairs.{length_pairs, even}

module _ (l : List ℕ) where
  bytes_length : length (line_bytes_of l) ≡ (length l - 1) / 2
  bytes_length = length_pairs (drop 1 l) ∙ rw length-drop

  -- a line of hex pairs is as long as its count says
  module _ (h : hex_pairs (drop 1 l) ≡ true) where
    pub counted_is : length l ≡ 2 * record_count_of l + 11 → counted l ≡ true
    unfolding counted
    counted_is e = eq-eqb (length (line_bytes_of l)) (record_count_of l + 5) (omega (arith, bytes_length))

    pub counted_long : counted l ≡ true → length l ≡ 2 * record_count_of l + 11
    unfolding counted
    counted_long e =
        let q = eqb-true (length (line_bytes_of l)) (record_count_of l + 5) e in
        let k = simp length-drop at (even (drop 1 l) h) in
        omega (arith, bytes_length)

  -- what is left to test of a line that has its frame
  pub good_by : Framed l → (len upper : ℕ) → good len upper l
      ≡ shaped (record_type_of l) (record_count_of l) (offset_of l) && (is_read (record_type_of l) && inside len (record_type_of l) (record_count_of l) (record_address_of upper l))
  unfolding good well_formed
  good_by f len upper = rw (f.starts, f.digits, counted_is f.digits f.long, f.sum) refl

  -- a well-formed line
  pub formed : well_formed l ≡ true → (length l ≡ 2 * record_count_of l + 11) × (shaped (record_type_of l) (record_count_of l) (offset_of l) ≡ true)
  unfolding well_formed
  formed w =
      let s = shaped (record_type_of l) (record_count_of l) (offset_of l) in
      let h = (both (colon l) (hex_pairs (drop 1 l) && (counted l && s)) w).1 in
      let (x, n) = both (hex_pairs (drop 1 l)) (counted l && s) h in
      let (m, f) = both (counted l) s n in
      (counted_long x m, f)

  -- the data of types 04 and 05 are in it
  room : (k count : ℕ) → record_type_of l ≡ k → shaped k (record_count_of l) (offset_of l) ≡ eqb (record_count_of l) count && eqb (offset_of l) 0 → well_formed l ≡ true
      → length l ≡ 2 * count + 11
  room k count e f w =
      let (n, s) = formed w in
      let c = eqb-true (record_count_of l) count (both (eqb (record_count_of l) count) (eqb (offset_of l) 0) (sym f ∙ rw e at s)).0 in
      omega arith

  pub room_4 : well_formed l ≡ true → record_type_of l ≡ 4 → length l ≡ 15
  unfolding shaped
  room_4 w e = room 4 2 e refl w

  pub room_5 : well_formed l ≡ true → record_type_of l ≡ 5 → length l ≡ 19
  unfolding shaped
  room_5 w e = room 5 4 e refl w

also : (a : Bool) → a ≡ a && true
also true = refl
also false = refl

never : (a b : Bool) → false ≡ a && (false && b)
never true b = refl
never false b = refl

-- what is left to test of a line that has its frame, by its type
module _ (l : List ℕ) (f : Framed l) (len upper : ℕ) where
  pub good_data : record_type_of l ≡ 0 → inside len 0 (record_count_of l) (record_address_of upper l) ≡ good len upper l
  unfolding shaped is_read
  good_data e = rw (good_by l f len upper, e) refl

  module _ (count : ℕ) where
    abbrev Fixed : Bool
    Fixed = eqb (record_count_of l) count && eqb (offset_of l) 0

  pub good_end : record_type_of l ≡ 1 → Fixed 0 ≡ good len upper l
  unfolding shaped is_read inside
  good_end e = rw (good_by l f len upper, e) (also (Fixed 0))

  pub good_upper : record_type_of l ≡ 4 → Fixed 2 ≡ good len upper l
  unfolding shaped is_read inside
  good_upper e = rw (good_by l f len upper, e) (also (Fixed 2))

  pub good_start : record_type_of l ≡ 5 → Fixed 4 ≡ good len upper l
  unfolding shaped is_read inside
  good_start e = rw (good_by l f len upper, e) (also (Fixed 4))

  pub good_none : is_read (record_type_of l) ≡ false → false ≡ good len upper l
  good_none e = rw (good_by l f len upper, e) (never (shaped (record_type_of l) (record_count_of l) (offset_of l)) (inside len (record_type_of l) (record_count_of l) (record_address_of upper l)))

-- what a line sets, by its type
module _ (l : List ℕ) where
  pub upper_told : (upper : ℕ) → record_type_of l ≡ 4 → half_of l 4 ≡ upper_after_of upper l
  unfolding upper_after_of
  upper_told upper e = rw e

  pub upper_kept : (upper : ℕ) → (record_type_of l ≡ 4 → ⊥) → upper ≡ upper_after_of upper l
  unfolding upper_after_of
  upper_kept upper n = rw (ne_eqb (record_type_of l) 4 n)

  pub start_told : (s : Option ℕ) → record_type_of l ≡ 5 → Some (half_of l 4 * 65536 + half_of l 6) ≡ start_after_of s l
  unfolding start_after_of
  start_told s e = rw e

  pub start_kept : (s : Option ℕ) → (record_type_of l ≡ 5 → ⊥) → s ≡ start_after_of s l
  unfolding start_after_of
  start_kept s n = rw (ne_eqb (record_type_of l) 5 n)

-- the data of a line that is as long as its count says
module _ (l : List ℕ) (n : length l ≡ 2 * record_count_of l + 11) where
  pub data_long : length (data_of l) ≡ record_count_of l
  unfolding data_of
  data_long = length-take-le (record_count_of l) (drop 4 (line_bytes_of l)) (simp length-drop (omega (arith, bytes_length l)))

  -- the byte k stored, and what is left behind it
  pub fill_turn : (mem : List ℕ) (to k b : ℕ) → k < record_count_of l → b ≡ byte_of l (4 + k)
      → sets (set mem (to + k) b) (to + (k + 1)) (drop (k + 1) (data_of l)) ≡ sets mem (to + k) (drop k (data_of l))
  unfolding byte_of data_of
  fill_turn mem to k b h e =
      let f : get_or (data_of l) k 0 ≡ b = get_or-take (record_count_of l) (drop 4 (line_bytes_of l)) k 0 h ∙ get_or-drop 4 (line_bytes_of l) k 0 ∙ sym e in
      let g : to + (k + 1) ≡ suc (to + k) = omega arith in
      rw (drop-cons (data_of l) k 0 (omega (arith, data_long)), f, g, add-one)

  pub fill_end : (mem : List ℕ) (to k : ℕ) → record_count_of l ≤ k → mem ≡ sets mem to (drop k (data_of l))
  fill_end mem to k h = rw (drop_of_length-le (data_of l) {i = k} (omega (arith, data_long)))

-- a good line
module _ (len upper : ℕ) (l : List ℕ) (g : good len upper l ≡ true) where
  pub well_formed_lem : well_formed l ≡ true
  unfolding good
  well_formed_lem = (both (well_formed l) (checked l && (is_read (record_type_of l) && inside len (record_type_of l) (record_count_of l) (record_address_of upper l))) g).0

  pub framed : Framed l
  unfolding good well_formed
  framed =
      let h = hex_pairs (drop 1 l) && (counted l && shaped (record_type_of l) (record_count_of l) (offset_of l)) in
      let r = is_read (record_type_of l) && inside len (record_type_of l) (record_count_of l) (record_address_of upper l) in
      let (w, k) = both (colon l && h) (checked l && r) g in
      let (a, b) = both (colon l) h w in
      let (d, e) = both (hex_pairs (drop 1 l)) (counted l && shaped (record_type_of l) (record_count_of l) (offset_of l)) b in
      record {
        starts = a;
        digits = d;
        long = counted_long l d (both (counted l) (shaped (record_type_of l) (record_count_of l) (offset_of l)) e).0;
        sum = (both (checked l) r k).0;
      }

  within : inside len (record_type_of l) (record_count_of l) (record_address_of upper l) ≡ true
  unfolding good
  within =
      let i = inside len (record_type_of l) (record_count_of l) (record_address_of upper l) in
      let r = (both (well_formed l) (checked l && (is_read (record_type_of l) && i)) g).1 in
      (both (is_read (record_type_of l)) i (both (checked l) (is_read (record_type_of l) && i) r).1).1

  pub data_length : length (data_of l) ≡ record_count_of l
  data_length = data_long l framed.long

  -- its data are in memory
  pub data_inside : record_type_of l ≡ 0 → 0 < record_count_of l → (0x8000_0000 ≤ record_address_of upper l) × (record_address_of upper l + record_count_of l ≤ 0x8000_0000 + len)
  unfolding inside
  data_inside k n =
      let h = rw (eq-eqb (record_type_of l) 0 k, ne_eqb (record_count_of l) 0 (λ e. omega arith)) at within in
      let (a, b) = both (leb 0x8000_0000 (record_address_of upper l)) (leb (record_address_of upper l + record_count_of l) (0x8000_0000 + len)) h in
      (leb-true 0x8000_0000 (record_address_of upper l) a, leb-true (record_address_of upper l + record_count_of l) (0x8000_0000 + len) b)

-- what a line does to memory
module _ (upper : ℕ) (l mem : List ℕ) where
  pub placed_other : (record_type_of l ≡ 0 → ⊥) → mem ≡ placed upper l mem
  unfolding placed
  placed_other n = rw (ne_eqb (record_type_of l) 0 n)

  pub placed_none : record_count_of l ≡ 0 → mem ≡ placed upper l mem
  unfolding placed data_of
  placed_none n = rw n (go (eqb (record_type_of l) 0))
    where
      go : (t : Bool) → mem ≡ pick t mem mem
      go true = refl
      go false = refl

  pub placed_data : record_type_of l ≡ 0 → sets mem (record_address_of upper l - 0x8000_0000) (data_of l) ≡ placed upper l mem
  unfolding placed
  placed_data k = rw (eq-eqb (record_type_of l) 0 k)
