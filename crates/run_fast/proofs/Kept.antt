-- After a store the memo still holds, less what was emptied.
-- Assumes nothing.
use Rattle.std.specs.Prelude.{Option, Some, None}
use mathlib.Core.Bool.{Bool}
use mathlib.Core.List.{List}
use mathlib.Core.Logic.{⊎_elim}
use mathlib.Core.Path.{◌≡◌, ◌∙◌, ap}
use Prim.Native.Nat.{ℕ, ◌/◌, ◌%◌, ◌<◌}
use native.Mathlib.Omega.{arith}
use lib.ListN.{length}
use Rattle.memory.specs.Bytes.{load_of}
use Rattle.memory.proofs.Stores.{load_ext}
use Rattle.csr_setting.specs.declared.Setting.{Setting}
use Rattle.run_act.specs.Act.{Touched}
use Rattle.run_fast.specs.Memo.{none, slot_of, entry_at, Fewer, Stands, Holds, Emptied}
use Rattle.run_fast.specs.declared.Entry.{Entry}
use Rattle.run_fast.proofs.Entries.{stands_as}
use Rattle.run_fast.proofs.Fetched.{reading, offset, still}

-- the eight bytes of a word, by its entry
near : (at pc k : ℕ) → at % 4096 ≡ pc % 4096 → pc % 4 ≡ 0 → slot_of pc ≡ k → (at % 4 ≡ 0) × (k % 1024 / 2 ≡ at / 8 % 512)
near at pc k o a e = (omega (arith, o, a), omega (arith, o, a, e))

-- where memory stays
same_held : (es es' : List Entry) (frames : List Bool) (s : Setting) (m m' map : List ℕ) → m' ≡ m → Fewer es es' → Holds es frames s m map
    → Holds es' frames s m' map
same_held es es' frames s m m' map e f h k l left =
    ⊎_elim (λ d. absurd (left d))
    (λ d. rw e (stands_as (entry_at es' k) (entry_at es k) frames k s m map d (h k l (λ z. left (ap (λ (i : Entry). i.pc) d ∙ z)))))
    (f.1 k l)

module _ (es es' : List Entry) (frames : List Bool) (s : Setting) (m m' map : List ℕ) (at : ℕ) (t : Touched (Some at) m m')
    (e : Emptied es frames (Some at) es') where
  -- a word of which no byte is among the eight that were stored to
  word_kept : (i : ℕ) → i % 4 ≡ 0 → (i / 8 ≡ at / 8 → ⊥) → load_of m' i 4 ≡ load_of m i 4
  word_kept i a n = load_ext m' m i 4 t.1 (λ j p q. t.2 j (λ d. n (omega (arith, a, p, q, d))))

  module _ (k : ℕ) (l : k < 4096) (left : (entry_at es' k).pc ≡ none → ⊥) (same : entry_at es' k ≡ entry_at es k)
      (old : Stands (entry_at es k) frames k s m map) where
    abbrev i : Entry
    i = entry_at es k

    placed : (i.at % 4 ≡ 0) × (k % 1024 / 2 ≡ i.at / 8 % 512)
    placed = near i.at i.pc k (offset i s m map old.read) (reading i s m map old.read).1 old.slot

    word : load_of m' i.at 4 ≡ load_of m i.at 4
    word = word_kept i.at placed.0 (λ d. left (e.1 k l old.flag (rw (← d) placed.1) (rw same d)))

    stands : Stands (entry_at es' k) frames k s m' map
    stands =
        stands_as (entry_at es' k) i frames k s m' map same
        (record { slot = old.slot; read = still i s m map old.read m' t.1 word; flag = old.flag })

  stored_held : Holds es frames s m map → Holds es' frames s m' map
  stored_held h k l left =
      ⊎_elim (λ d. absurd (left d)) (λ d. stands k l left d (h k l (λ z. left (ap (λ (i : Entry). i.pc) d ∙ z)))) (e.0.1 k l)

pub kept : (es es' : List Entry) (frames : List Bool) (s : Setting) (m m' map : List ℕ) (stored : Option ℕ) → Touched stored m m'
    → Emptied es frames stored es' → Holds es frames s m map → Holds es' frames s m' map
kept es es' frames s m m' map None t e h = same_held es es' frames s m m' map t e h
kept es es' frames s m m' map (Some at) t e h = stored_held es es' frames s m m' map at t e h

pub as_long : (es es' : List Entry) (frames : List Bool) (stored : Option ℕ) → Emptied es frames stored es' → length es' ≡ length es
as_long es es' frames None e = e.0
as_long es es' frames (Some at) e = e.0.0
