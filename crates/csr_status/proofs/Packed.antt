-- mstatus: its struct and its word.
-- Assumes nothing.
use mathlib.Core.Path.{◌≡◌, refl, sym, ap, ◌∙◌}
use mathlib.Core.Bool.{Bool, true, false}
use Prim.Native.Nat.{ℕ, zero, suc, ◌+◌, ◌*◌, ◌/◌, ◌%◌, ◌^◌, ◌<◌}
use native.Mathlib.Omega.{arith}
use lib.Dec.{eqb}
use Rattle.word.specs.Choice.{pick}
use Rattle.word.specs.Row.{row_write_of, row_read_of, row_legal_of}
use Rattle.csr_status.specs.Fields.{is_mpp, mstatus, sstatus}
use Rattle.csr_status.specs.Status.{num, status_of, status_word_of, with_mpp_of, sstatus_written_of}
use Rattle.csr_status.specs.declared.Status.{Status}
use Rattle.word.proofs.Rows.{left, each, shown}

-- a write of v to mstatus over old: writing 2 to MPP keeps the old MPP
abbrev pub mstatus_written_of : (old v : Status) → Status
mstatus_written_of old v = with_mpp_of v (pick (is_mpp v.mpp) v.mpp old.mpp)

parity : (d : ℕ) → d < 2 → num (eqb d 1) ≡ d
parity zero h = refl
parity (suc zero) h = refl
parity (suc (suc d)) h = absurd (omega arith)

num_bit : (x : ℕ) → num (eqb (x % 2) 1) ≡ x % 2
num_bit x = parity (x % 2) (omega arith)

-- a write of the word is a write of the struct
pub merges : (old v : ℕ) → row_write_of mstatus old v ≡ status_word_of (mstatus_written_of (status_of old) (status_of v))
merges old v = simp num_bit (omega arith)

-- so is a write through sstatus
pub views : (old v : ℕ) → row_write_of sstatus old v ≡ status_word_of (sstatus_written_of (status_of old) (status_of v))
views old v = simp num_bit (omega arith)

-- a read of the word is a read of the struct
pub shows : (m : ℕ) → row_read_of mstatus m ≡ status_word_of (status_of m)
shows m = simp num_bit (omega arith)

-- the digits of the sum
module _ (a b c d e p f g h i j : ℕ) (ha : a < 2) (hb : b < 2) (hc : c < 2) (hd : d < 2) (he : e < 2) (hp : p < 4) (hf : f < 2) (hg : g < 2)
    (hh : h < 2)
    (hi : i < 2) (hj : j < 2) where
  abbrev total : ℕ
  total =
      a * 2 ^ 1 + b * 2 ^ 3 + c * 2 ^ 5 + d * 2 ^ 7 + e * 2 ^ 8 + p * 2 ^ 11 + f * 2 ^ 17 + g * 2 ^ 18 + h * 2 ^ 19 + i * 2 ^ 23 + 2 * 2 ^ 32 + 2 *
      2 ^ 34
      + j * 2 ^ 41

  digits :
      (total / 2 ^ 1 % 2 ≡ a) × (total / 2 ^ 3 % 2 ≡ b) × (total / 2 ^ 5 % 2 ≡ c) × (total / 2 ^ 7 % 2 ≡ d) × (total / 2 ^ 8 % 2 ≡ e)
      × (total / 2 ^ 11 % 4 ≡ p)
      × (total / 2 ^ 17 % 2 ≡ f) × (total / 2 ^ 18 % 2 ≡ g) × (total / 2 ^ 19 % 2 ≡ h) × (total / 2 ^ 23 % 2 ≡ i) × (total / 2 ^ 41 % 2 ≡ j)
  digits =
      (omega arith, omega arith, omega arith, omega arith, omega arith, omega arith, omega arith, omega arith, omega arith, omega arith, omega arith)

small : (b : Bool) → num b < 2
small true = omega arith
small false = omega arith

read : (b : Bool) → eqb (num b) 1 ≡ b
read true = refl
read false = refl

-- the struct survives its word
pub unpacked : (s : Status) → s.mpp < 4 → status_of (status_word_of s) ≡ s
unpacked s l =
    let (a, b, c, d, e, p, f, g, h, i, j) =
    digits (num s.sie) (num s.mie) (num s.spie) (num s.mpie) (num s.spp) s.mpp (num s.mprv) (num s.sum) (num s.mxr)
    (num s.spelp)
    (num s.mpelp) (small s.sie) (small s.mie) (small s.spie) (small s.mpie) (small s.spp) l (small s.mprv) (small s.sum)
    (small s.mxr) (small s.spelp) (small s.mpelp) in
    rw (a, b, c, d, e, p, f, g, h, i, j) (simp read)

-- nothing set, UXL and SXL 2
abbrev pub start : ℕ
start = 2 * 2 ^ 32 + 2 * 2 ^ 34

merged_same : (r s : Status) → is_mpp s.mpp ≡ true → mstatus_written_of r s ≡ s
merged_same r s ok = rw ok

-- a struct whose MPP is a mode makes a word that mstatus can hold
pub packed : (s : Status) → s.mpp < 4 → is_mpp s.mpp ≡ true → row_legal_of mstatus (status_word_of s) ≡ true
packed s l ok =
    let e : row_write_of mstatus start (status_word_of s) ≡ status_word_of s =
    merges start (status_word_of s) ∙ ap (λ (t : Status). status_word_of (mstatus_written_of (status_of start) t)) (unpacked s l)
    ∙ ap status_word_of (merged_same (status_of start) s ok) in
    rw (e) at (left mstatus start (status_word_of s) refl refl)

-- a word that mstatus can hold has a mode in MPP
pub modes : (m : ℕ) → row_legal_of mstatus m ≡ true → is_mpp (status_of m).mpp ≡ true
modes m h = each 10 0 mstatus m h

-- a word that mstatus can hold is all in its fields
pub whole : (m : ℕ) → m < 2 ^ 64 → row_legal_of mstatus m ≡ true → status_word_of (status_of m) ≡ m
whole m l h = sym (shows m) ∙ shown mstatus m refl l h
