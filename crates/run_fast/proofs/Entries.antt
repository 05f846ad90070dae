-- The memo at first, and with one more word.
-- Assumes nothing.
use mathlib.Core.Bool.{Bool, true, false}
use mathlib.Core.List.{List}
use mathlib.Core.Path.{◌≡◌, refl, sym, ◌∙◌, ap, subst}
use Prim.Native.Nat.{ℕ, ◌/◌, ◌^◌, ◌<◌}
use native.Mathlib.Omega.{arith}
use borrow.Author.Tests.{eqb-true, eqb-false}
use lib.Dec.{eqb}
use lib.ListN.{length, get_or, set, replicate, get_or-replicate}
use lib.Seq.{get_or-set_same, get_or-set_other}
use Rattle.csr_setting.specs.declared.Setting.{Setting}
use Rattle.run_fast.specs.Memo.{none, slot_of, entry_at, flag_at, Read, Stands, Holds}
use Rattle.run_fast.specs.declared.Entry.{Entry}

-- at first every entry is empty
pub blank : (e : Entry) → e.pc ≡ none → (frames : List Bool) (s : Setting) (m map : List ℕ) → Holds (replicate 4096 e) frames s m map
blank e z frames s m map k l n = absurd (n (ap (λ (i : Entry). i.pc) (get_or-replicate 4096 k e _ l) ∙ z))

-- a flag that is set stays set
flag_stays : (frames : List Bool) (i j : ℕ) → j / 4096 < length frames → flag_at frames i ≡ true → flag_at (set frames (j / 4096) true) i ≡ true
flag_stays frames i j long f = go (eqb (i / 4096) (j / 4096)) refl
  where
    go : (t : Bool) → eqb (i / 4096) (j / 4096) ≡ t → flag_at (set frames (j / 4096) true) i ≡ true
    go true e =
        subst (λ (n : ℕ). get_or (set frames (j / 4096) true) n false ≡ true) (sym (eqb-true (i / 4096) (j / 4096) e))
        (get_or-set_same frames (j / 4096) true false long)
    go false e = get_or-set_other frames (j / 4096) (i / 4096) true false (eqb-false (i / 4096) (j / 4096) e) ∙ f

-- an entry by another name
pub stands_as : (d e : Entry) (frames : List Bool) (k : ℕ) (s : Setting) (m map : List ℕ) → d ≡ e → Stands e frames k s m map → Stands d frames k s m map
stands_as d e frames k s m map p h = rw p h

module _ (es : List Entry) (frames : List Bool) (s : Setting) (m map : List ℕ) (e : Entry) (pc : ℕ) (le : length es ≡ 4096)
    (lf : length frames ≡ 256) (most : e.at < 2 ^ 20) (at : e.pc ≡ pc) where
  abbrev es' : List Entry
  es' = set es (slot_of pc) e

  abbrev frames' : List Bool
  frames' = set frames (e.at / 4096) true

  frame : e.at / 4096 < length frames
  frame = rw lf (omega (arith, most))

  pub own_entry : entry_at es' (slot_of pc) ≡ e
  own_entry = get_or-set_same es (slot_of pc) e _ (rw le (omega arith))

  own : Read e s m map → Stands (entry_at es' (slot_of pc)) frames' (slot_of pc) s m map
  own r =
      stands_as (entry_at es' (slot_of pc)) e frames' (slot_of pc) s m map own_entry
      (record { slot = ap slot_of at; read = r; flag = get_or-set_same frames (e.at / 4096) true false frame })

  other : (k : ℕ) → (k ≡ slot_of pc → ⊥) → Stands (entry_at es k) frames k s m map → Stands (entry_at es' k) frames' k s m map
  other k n old =
      stands_as (entry_at es' k) (entry_at es k) frames' k s m map (get_or-set_other es (slot_of pc) k e _ n)
      (record { slot = old.slot; read = old.read; flag = flag_stays frames (entry_at es k).at e.at frame old.flag })

  -- with the word at pc
  pub entered : Read e s m map → Holds es frames s m map → Holds es' frames' s m map
  entered r h k l n = go (eqb k (slot_of pc)) refl
    where
      go : (t : Bool) → eqb k (slot_of pc) ≡ t → Stands (entry_at es' k) frames' k s m map
      go true d = subst (λ (j : ℕ). Stands (entry_at es' j) frames' j s m map) (sym (eqb-true k (slot_of pc) d)) (own r)
      go false d =
          let o = eqb-false k (slot_of pc) d in
          other k o (h k l (λ z. n (ap (λ (i : Entry). i.pc) (get_or-set_other es (slot_of pc) k e _ o) ∙ z)))
