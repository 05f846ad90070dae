-- The invariant of a stretch, over the pointer s and memory m alone. Its last clause is what carries it: of every permitted slot at or above
-- the pointer, the word there is the unmatched push as many places down the list as the slot is above the pointer, else the starting
-- word. It covers pushes, pops and pops below the start alike.
-- Assumes nothing.
use Rattle.std.specs.Prelude.{Ok}
use Rattle.address_place.specs.Place.{PlaceOrFault, base}
use mathlib.Core.List.{List, [], ◌∷◌}
use mathlib.Core.Logic.{◌⊎◌, inl, inr}
use mathlib.Core.Path.{◌≡◌, refl, sym, ap, ◌∙◌}
use Prim.Native.Nat.{ℕ, suc, ◌+◌, ◌-◌, ◌%◌, ◌^◌, ◌≤◌}
use native.Mathlib.Decide.{ℕ_discrete}
use native.Mathlib.Omega.{arith}
use lib.ListN.{get_or, length}
use lib.Seq.{get_or-drop}
use Rattle.word.specs.Sum.{sum_of, difference_of}
use Rattle.isa.specs.declared.Width.TheVariants.{Double}
use Rattle.memory.proofs.Stores.{length_store, load_same, load_ext, load_other}
use Rattle.memory.specs.Bytes.{store_of}
use Rattle.address_place.specs.declared.Physical.{Physical}
use Rattle.step_transfer.specs.Access.{read_of}
use Rattle.theorem_shadow.specs.Promise.{Event, pushed, popped, quiet, pushes, pops, Moved, wrote_of, latest, unmatched}
use Rattle.theorem_shadow.proofs.Bytes.{written}
use Rattle.theorem_shadow.proofs.Geometry.{Geometry}

-- a pop and a push move the pointer as they should
moved_up : (s₀ s : ℕ) (es : List Event) → Moved s₀ s es → Moved s₀ (sum_of s 8) (popped ∷ es)
unfolding pushes pops
moved_up s₀ s es h = omega arith

moved_down : (s₀ s : ℕ) (es : List Event) (at v : ℕ) → Moved s₀ s es → Moved s₀ (difference_of s 8) (pushed at v ∷ es)
unfolding pushes pops
moved_down s₀ s es at v h = omega arith

-- and keep it a multiple of 8
eight_up : (s : ℕ) → s % 8 ≡ 0 → sum_of s 8 % 8 ≡ 0
eight_up s h = omega arith

eight_down : (s : ℕ) → s % 8 ≡ 0 → difference_of s 8 % 8 ≡ 0
eight_down s h = omega arith

module _ (slot : ℕ → PlaceOrFault) (Shadow : ℕ → Type 0) (len : ℕ) (G : Geometry slot Shadow len) (s₀ : ℕ) (m₀ : List ℕ) where
  abbrev rank : ℕ → ℕ
  rank = G.rank

  -- the word at a slot
  abbrev Words : List Event → (s : ℕ) → (m : List ℕ) → Type 0
  Words es s m =
      (a : ℕ) (q : Physical) → a % 8 ≡ 0 → slot a ≡ Ok q → rank s ≤ rank a
      → read_of m q Double ≡ get_or (unmatched es) (rank a - rank s) (read_of m₀ q Double)

  pub record Inv (es : List Event) (s : ℕ) (m : List ℕ) : Type 0 where
    pub eight : s % 8 ≡ 0
    pub long : length m ≡ len
    pub pointer : Moved s₀ s es
    pub bytes : (o : ℕ) → Shadow o → get_or m o 0 ≡ latest es o (get_or m₀ o 0)
    pub words : Words es s m

  pub inv_start : s₀ % 8 ≡ 0 → length m₀ ≡ len → Inv [] s₀ m₀
  unfolding pushes pops latest unmatched
  inv_start h l = record { eight = h; long = l; pointer = refl; bytes = λ o w. refl; words = λ a q e f r. refl }

  -- a step that leaves the pointer and every shadow byte
  pub inv_quiet : (es : List Event) (s : ℕ) (m m' : List ℕ) → Inv es s m → length m' ≡ len
      → ((o : ℕ) → Shadow o → get_or m' o 0 ≡ get_or m o 0) → Inv (quiet ∷ es) s m'
  unfolding pushes pops latest unmatched
  inv_quiet es s m m' I l k = record {
    eight = I.eight;
    long = l;
    pointer = I.pointer;
    bytes = λ o w. k o w ∙ I.bytes o w;
    words = λ a q e f r. same_word a q e f ∙ I.words a q e f r;
  }
    where
      same_word : (a : ℕ) (q : Physical) → a % 8 ≡ 0 → slot a ≡ Ok q → read_of m' q Double ≡ read_of m q Double
      same_word a q e f =
          load_ext m' m (q.0 - base) 8 (l ∙ sym I.long)
          (λ j b c.
          let i : q.0 - base + (j - (q.0 - base)) ≡ j = omega arith in
          rw i at (k (q.0 - base + (j - (q.0 - base))) (G.shadow a q (j - (q.0 - base)) e f (omega arith))))

  pub inv_pop : (es : List Event) (s : ℕ) (m : List ℕ) (p : Physical) → Inv es s m → slot s ≡ Ok p → Inv (popped ∷ es) (sum_of s 8) m
  unfolding pushes pops latest unmatched
  inv_pop es s m p I e = record {
    eight = eight_up s I.eight;
    long = I.long;
    pointer = moved_up s₀ s es I.pointer;
    bytes = I.bytes;
    words = λ a q d f l.
        let r : rank (sum_of s 8) ≡ suc (rank s) = G.rank_up s p I.eight e in
        let z : rank a - rank s ≡ 1 + (rank a - rank (sum_of s 8)) = omega (arith, r, l) in
        I.words a q d f (omega (arith, r, l))
        ∙ ap (λ (j : ℕ). get_or (unmatched es) j (read_of m₀ q Double)) z
        ∙ sym (get_or-drop 1 (unmatched es) (rank a - rank (sum_of s 8)) (read_of m₀ q Double));
  }

  pub inv_push : (es : List Event) (s : ℕ) (m : List ℕ) (v : ℕ) (p : Physical) → Inv es s m → slot (difference_of s 8) ≡ Ok p
      → Inv (pushed p.0 (v % 2 ^ 64) ∷ es) (difference_of s 8) (store_of m (p.0 - base) 8 v)
  unfolding pushes pops latest unmatched
  inv_push es s m v p I e = record {
    eight = down;
    long = length_store m (p.0 - base) 8 v fits ∙ I.long;
    pointer = moved_down s₀ s es p.0 (v % 2 ^ 64) I.pointer;
    bytes = λ o w. written m p.0 v low fits o ∙ ap (wrote_of p.0 (v % 2 ^ 64) o) (I.bytes o w);
    words = λ a q d f l. pushed_word a q d f l (ℕ_discrete (rank (difference_of s 8)) (rank a));
  }
    where
      down : difference_of s 8 % 8 ≡ 0
      down = eight_down s I.eight

      low : base ≤ p.0
      low = (G.inside (difference_of s 8) p e).0

      fits : p.0 - base + 8 ≤ length m
      fits = omega (arith, I.long, low, (G.inside (difference_of s 8) p e).1)

      clear_of : (p q : ℕ) → base ≤ p → base ≤ q → (p + 8 ≤ q) ⊎ (q + 8 ≤ p) → (q - base + 8 ≤ p - base) ⊎ (p - base + 8 ≤ q - base)
      clear_of p q lp lq (inl d) = inr (omega arith)
      clear_of p q lp lq (inr d) = inl (omega arith)

      pushed_word : (a : ℕ) (q : Physical) → a % 8 ≡ 0 → slot a ≡ Ok q → rank (difference_of s 8) ≤ rank a
          → Dec (rank (difference_of s 8) ≡ rank a)
          → read_of (store_of m (p.0 - base) 8 v) q Double
          ≡ get_or (v % 2 ^ 64 ∷ unmatched es) (rank a - rank (difference_of s 8)) (read_of m₀ q Double)
      pushed_word a q d f l (yes r) =
          let z : rank a - rank (difference_of s 8) ≡ 0 = omega (arith, r) in
          let t : p ≡ q = G.same (difference_of s 8) a p q down d e f r in
          rw (z, ← t) (load_same m (p.0 - base) 8 v fits)
      pushed_word a q d f l (no r) =
          let w : rank s ≡ suc (rank (difference_of s 8)) = G.rank_down s p I.eight e in
          let n : rank s ≤ rank a = omega (arith, w, l, r) in
          let z : rank a - rank (difference_of s 8) ≡ suc (rank a - rank s) = omega (arith, w, n) in
          rw z
          (load_other m (p.0 - base) 8 v (q.0 - base) 8 fits
          (clear_of p.0 q.0 low (G.inside a q f).0 (G.apart (difference_of s 8) a p q down d e f r))
          ∙ I.words a q d f n)
