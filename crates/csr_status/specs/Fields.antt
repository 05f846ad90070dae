-- mstatus and sstatus, a row of fields each. Unnamed bits read zero. Rules 5.5 to 5.8 of docs/HART.md.
use Rattle.std.specs.Prelude.{Bool, true, not, List, [], ◌∷◌, ℕ, eqb}
use Rattle.word.specs.Row.{Field, Fixed, Covered, Any, Only, Hidden, Place, At, row}

-- a bit that holds what was written
abbrev pub bit : ℕ → Place
bit k = At k (Any 1)

-- a bit that is stored and not seen
abbrev pub hidden : ℕ → Place
hidden k = At k (Hidden 1 (λ d. true))

-- MPP holds 0, 1 or 3, which are modes: writing 2 keeps the old MPP
abbrev pub is_mpp : ℕ → Bool
is_mpp d = not (eqb d 2)

-- SIE 1, MIE 3, SPIE 5, MPIE 7, SPP 8, MPP 12:11, MPRV 17, SUM 18, MXR 19, SPELP 23, MPELP 41; UXL and SXL read 2
abbrev pub mstatus : List Field
mstatus =
    row
    (bit 1 ∷ bit 3 ∷ bit 5 ∷ bit 7 ∷ bit 8 ∷ At 11 (Only 2 is_mpp) ∷ bit 17 ∷ bit 18 ∷ bit 19 ∷ bit 23 ∷ At 32 (Fixed 2 2)
    ∷ At 34 (Fixed 2 2) ∷ bit 41 ∷ [])

-- the same word, of which sstatus shows SIE, SPIE, SPP, SUM, MXR, SPELP and UXL
abbrev pub sstatus : List Field
sstatus =
    row
    (bit 1 ∷ hidden 3 ∷ bit 5 ∷ hidden 7 ∷ bit 8 ∷ At 11 (Hidden 2 is_mpp) ∷ hidden 17 ∷ bit 18 ∷ bit 19 ∷ bit 23
    ∷ At 32 (Fixed 2 2) ∷ At 34 (Covered 2 2) ∷ hidden 41 ∷ [])
