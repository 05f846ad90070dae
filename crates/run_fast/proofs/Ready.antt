-- An entry that may be carried out: it is that of pc, and what it says was read there.
-- Assumes nothing.
use mathlib.Core.Bool.{Bool, true}
use mathlib.Core.List.{List}
use mathlib.Core.Path.{◌≡◌, sym, ap, ◌∙◌}
use Prim.Native.Nat.{ℕ, ◌/◌, ◌%◌, ◌^◌, ◌<◌}
use native.Mathlib.Omega.{arith}
use lib.ListN.{length, length-set, set}
use Rattle.csr_setting.specs.declared.Setting.{Setting}
use Rattle.run_fast.specs.Memo.{none, slot_of, entry_at, Read, Holds}
use Rattle.run_fast.specs.declared.Entry.{Entry}
use Rattle.run_fast.proofs.Entries.{own_entry, entered}

abbrev pub Ready : (es : List Entry) → (frames : List Bool) → (pc : ℕ) → Setting → (m map : List ℕ) → Type 0
Ready es frames pc s m map =
    (length es ≡ 4096) × (length frames ≡ 256) × ((entry_at es (slot_of pc)).pc ≡ pc) × Holds es frames s m map

-- what the entry of pc says
pub ready_read : (es : List Entry) (frames : List Bool) (pc : ℕ) (s : Setting) (m map : List ℕ) → pc % 4 ≡ 0 → Ready es frames pc s m map
    → Read (entry_at es (slot_of pc)) s m map
ready_read es frames pc s m map z r =
    (r.3 (slot_of pc) (omega arith) (λ e. let d : pc ≡ none = sym r.2 ∙ e in omega (arith, z, d))).read

-- an entry whose address was found to be pc
pub is_ready : (es : List Entry) (frames : List Bool) (pc : ℕ) (s : Setting) (m map : List ℕ) (es' : List Entry) (frames' : List Bool)
    → length es ≡ 4096 → length frames ≡ 256 → Holds es frames s m map → (entry_at es (slot_of pc)).pc ≡ pc → es' ≡ es → frames' ≡ frames
    → Ready es' frames' pc s m map
is_ready es frames pc s m map es' frames' le lf holds own ee ef = rw (ee, ef) (le, lf, own, holds)

-- an entry that was read anew
pub made_ready : (es : List Entry) (frames : List Bool) (pc : ℕ) (s : Setting) (m map : List ℕ) (e : Entry) (es' : List Entry) (frames' : List Bool)
    → length es ≡ 4096 → length frames ≡ 256 → Holds es frames s m map
    → (e.at < 2 ^ 20) × (e.pc ≡ pc) × Read e s m map × (es' ≡ set es (slot_of pc) e) × (frames' ≡ set frames (e.at / 4096) true)
    → Ready es' frames' pc s m map
made_ready es frames pc s m map e es' frames' le lf holds r =
    rw (r.3, r.4) (
      length-set es (slot_of pc) e ∙ le,
      length-set frames (e.at / 4096) true ∙ lf,
      ap (λ (i : Entry). i.pc) (own_entry es frames s m map e pc le lf r.0 r.1) ∙ r.1,
      entered es frames s m map e pc le lf r.0 r.1 r.2 holds,
    )
