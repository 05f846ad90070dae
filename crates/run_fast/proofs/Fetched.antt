-- What was read at an address: where its word stands, and that it stays read while the word does.
-- Assumes nothing.
use Rattle.std.specs.Prelude.{Ok}
use mathlib.Core.List.{List}
use mathlib.Core.Path.{◌≡◌, refl}
use Prim.Native.Nat.{ℕ, ◌+◌, ◌-◌, ◌%◌, ◌^◌, ◌<◌, ◌≤◌}
use native.Mathlib.Omega.{arith}
use lib.ListN.{length}
use Rattle.isa.specs.declared.Kind.TheVariants.{Fetch}
use Rattle.isa.specs.declared.Width.TheVariants.{Word}
use Rattle.decode.specs.Decode.{decode_of}
use Rattle.memory.specs.Bytes.{load_of}
use Rattle.address.specs.Mask.{transformed_of}
use Rattle.address_place.specs.Place.{base, place_of}
use Rattle.address_place.specs.declared.Physical.{Physical}
use Rattle.address_place.proofs.Reach.{place_index, place_aligned, place_offset}
use Rattle.csr_setting.specs.declared.Setting.{Setting}
use Rattle.run_pages.proofs.Kept.{at_index}
use Rattle.run_form.specs.Form.{Means}
use Rattle.run_form.specs.declared.Form.{Form}
use Rattle.run_fast.specs.declared.Entry.{Entry}
use Rattle.run_fast.specs.Memo.{Read}

module _ (e : Entry) (s : Setting) (m map : List ℕ) (r : Read e s m map) where
  abbrev q : Physical
  q = record { 0 = base + e.at }

  -- the word lies in memory, and its address is aligned
  pub reading : (e.at + 4 ≤ length m) × (e.pc % 4 ≡ 0)
  unfolding transformed_of
  reading =
      let i : base + e.at - base + 4 ≤ length m = place_index s.control Fetch Word e.pc map (length m) q r.place in
      let a : e.pc % 4 ≡ 0 = place_aligned s.control Fetch Word e.pc map (length m) q r.place in
      (omega (arith, i), a)

  -- its index and its address have the same offset in a page
  pub offset : e.at % 4096 ≡ e.pc % 4096
  unfolding transformed_of
  offset =
      let o : (base + e.at) % 4096 ≡ e.pc % 4096 = place_offset s.control Fetch Word e.pc map (length m) q r.place in
      omega (arith, o)

  -- in another memory that has the same word
  pub still : (m' : List ℕ) → length m' ≡ length m → load_of m' e.at 4 ≡ load_of m e.at 4 → Read e s m' map
  still m' l w = record { place = rw l r.place; means = rw w r.means; small = r.small }

-- read anew: a fetch has this place, and the form is that of the word there
pub found : (f : Form) (at w pc : ℕ) (s : Setting) (m map : List ℕ) (q : Physical)
    → place_of s.control Fetch Word pc map (length m) ≡ Ok q → at ≡ q.0 - base → length m ≤ 2 ^ 20
    → w ≡ load_of m at 4 → Means f (decode_of w) w pc s → (f.rd < 32) × (f.rs1 < 32) × (f.rs2 < 32)
    → (at < 2 ^ 20) × (pc ≡ pc) × Read (record { pc = pc; value = f.value; at = at; op = f.op; rd = f.rd; rs1 = f.rs1; rs2 = f.rs2 }) s m map
found f at w pc s m map q there e most l means small =
    let r : Read (record { pc = pc; value = f.value; at = at; op = f.op; rd = f.rd; rs1 = f.rs1; rs2 = f.rs2 }) s m map = record {
      place = at_index s.control Fetch Word pc map (length m) q at there e;
      means = rw (← l) means;
      small = small;
    } in
    (omega (arith, (reading (record { pc = pc; value = f.value; at = at; op = f.op; rd = f.rd; rs1 = f.rs1; rs2 = f.rs2 }) s m map r).0, most), refl, r)
