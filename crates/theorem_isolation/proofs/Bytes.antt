-- Two memories that have some bytes in common: what is read of those is the same, and a store of the same bytes at the same place keeps
-- them alike and leaves every other byte.
-- Assumes nothing.
use mathlib.Core.List.{List}
use mathlib.Core.Path.{◌≡◌, refl, sym, ◌∙◌}
use Prim.Native.Nat.{ℕ, ◌+◌, ◌-◌, ◌≤◌, ◌<◌}
use lib.ListN.{get_or, length}
use native.Mathlib.Omega.{arith}
use Rattle.word.proofs.Either.{either}
use Rattle.memory.proofs.Stores.{length_store, byte_before, byte_in, byte_after_lem, load_ext}
use Rattle.memory.specs.Bytes.{load_of, store_of}
use Rattle.theorem_isolation.specs.Unseen.{Alike, Keeps}

module _ (Of : (o : ℕ) → Type 0) where
  -- k bytes from a place on that are among them are loaded as the same number
  pub load_alike : (m n : List ℕ) (at k : ℕ) → Alike Of m n → ((i : ℕ) → i < k → Of (at + i)) → load_of m at k ≡ load_of n at k
  load_alike m n at k A f =
      load_ext m n at k A.long
      (λ j l u.
      let e : at + (j - at) ≡ j = omega arith in
      rw e at (A.bytes (at + (j - at)) (f (j - at) (omega arith))))

  pub store_alike : (m n : List ℕ) (at k v : ℕ) → Alike Of m n → at + k ≤ length m → Alike Of (store_of m at k v) (store_of n at k v)
  store_alike m n at k v A fits =
      record { long = length_store m at k v fits ∙ (A.long ∙ sym (length_store n at k v fits')); bytes = same }
    where
      fits' : at + k ≤ length n
      fits' = omega (arith, fits, A.long)

      same : (o : ℕ) → Of o → get_or (store_of m at k v) o 0 ≡ get_or (store_of n at k v) o 0
      same o f =
          either o at (λ l. byte_before m at k v fits o l ∙ (A.bytes o f ∙ sym (byte_before n at k v fits' o l)))
          (λ l.
          either o (at + k)
          (λ u.
          let e : at + (o - at) ≡ o = omega arith in
          let i : o - at < k = omega arith in
          rw e at (byte_in m at k v fits (o - at) i ∙ sym (byte_in n at k v fits' (o - at) i)))
          (λ u. byte_after_lem m at k v fits o u ∙ (A.bytes o f ∙ sym (byte_after_lem n at k v fits' o u))))

  -- a store among them keeps the others
  pub store_keeps : (m : List ℕ) (at k v : ℕ) → at + k ≤ length m → ((i : ℕ) → i < k → Of (at + i)) → Keeps Of m (store_of m at k v)
  store_keeps m at k v fits f = record { long = length_store m at k v fits; bytes = same }
    where
      same : (o : ℕ) → (Of o → ⊥) → get_or (store_of m at k v) o 0 ≡ get_or m o 0
      same o away =
          either o at (λ l. byte_before m at k v fits o l)
          (λ l.
          either o (at + k)
          (λ u.
          let e : at + (o - at) ≡ o = omega arith in
          absurd (away (rw e at (f (o - at) (omega arith)))))
          (λ u. byte_after_lem m at k v fits o u))

  pub keeps_all : (m : List ℕ) → Keeps Of m m
  keeps_all m = record { long = refl; bytes = λ o away. refl }

  pub keeps_on : (l m n : List ℕ) → Keeps Of l m → Keeps Of m n → Keeps Of l n
  keeps_on l m n K L =
      record { long = L.long ∙ K.long; bytes = λ o away. L.bytes o away ∙ K.bytes o away }

-- what keeps all but some bytes keeps all but more
pub keeps_fewer : (To Of : (o : ℕ) → Type 0) → ((o : ℕ) → To o → Of o) → (m n : List ℕ) → Keeps To m n → Keeps Of m n
keeps_fewer To Of f m n K = record { long = K.long; bytes = λ o away. K.bytes o (λ t. away (f o t)) }
