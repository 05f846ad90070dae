-- What a trap and a return keep: every word that is not theirs, and of mstatus every field that is not theirs. These fields are all of it
-- in words that refusal 1 lets pass (`Rattle.csr_status.proofs.Packed.whole`): UXL, SXL and the unnamed bits are fixed.
-- Assumes nothing.
use mathlib.Core.Bool.{Bool, true, false, ◌&&◌}
use mathlib.Core.List.{List, [], ◌∷◌}
use mathlib.Core.Path.{◌≡◌, refl, ap, ◌∙◌}
use Prim.Native.Nat.{ℕ}
use native.Mathlib.Omega.{arith}
use lib.ListN.{length, length-set}
use lib.Seq.{get_or-set_same, get_or-set_other}
use Rattle.word.specs.Choice.{pick}
use Rattle.word.proofs.Choices.{first, second}
use Rattle.isa.specs.declared.Mode.{Mode}
use Rattle.isa.specs.Mode.{mode_of, number_of}
use Rattle.csr_status.specs.Status.{status_of}
use Rattle.csr_status.specs.declared.Status.{Status}
use Rattle.csr_trap.specs.Route.{to_s_of, delegated_of}
use Rattle.csr_trap.specs.Trap.{is_supervisor_of, trapped_m_of, trapped_s_of, enter_m_of, enter_s}
use Rattle.csr_trap.specs.Return.{returned_m_of, returned_s_of, leave_m_of, leave_s}
use Rattle.csr_trap.proofs.Crossed.{enter_m_fields, enter_s_fields, leave_m_fields, leave_s_fields}
use Rattle.csr_access.specs.Enable.{pad_of}
use Rattle.csr_words.specs.Words.{◌of◌, ◌but◌≔◌, expected, flag_of, COUNT, PC, MODE, ELP, SENVCFG, SEPC, SCAUSE, STVAL, MSTATUS, MEDELEG, MENVCFG}
use Rattle.csr_words.specs.Words.{MEPC, MCAUSE, MTVAL, MSECCFG}
use Rattle.csr_words.specs.Trap.{trap_m, trap_s, trap_of}
use Rattle.csr_words.specs.Return.{back_in, mret_of, sret_of}
use Rattle.csr_words.proofs.Stored.{among, Only, none, also}

-- the words that a trap to M changes, a trap to S, and a return
abbrev pub of_m : List ℕ
of_m = PC ∷ MODE ∷ ELP ∷ MTVAL ∷ MCAUSE ∷ MEPC ∷ MSTATUS ∷ []

abbrev pub of_s : List ℕ
of_s = PC ∷ MODE ∷ ELP ∷ STVAL ∷ SCAUSE ∷ SEPC ∷ MSTATUS ∷ []

abbrev pub of_return : List ℕ
of_return = PC ∷ MSTATUS ∷ MODE ∷ ELP ∷ []

module _ (w : List ℕ) (cause tval : ℕ) where
  pub trap_m_only : Only of_m w (trap_m w cause tval)
  unfolding trap_m
  trap_m_only = also PC _ (also MODE _ (also ELP _ (also MTVAL _ (also MCAUSE _ (also MEPC _ (also MSTATUS _ (none w)))))))

  pub trap_s_only : Only of_s w (trap_s w cause tval)
  unfolding trap_s
  trap_s_only = also PC _ (also MODE _ (also ELP _ (also STVAL _ (also SCAUSE _ (also SEPC _ (also MSTATUS _ (none w)))))))

  -- where a trap goes
  abbrev goes_to_s : Bool
  goes_to_s = to_s_of (mode_of (MODE of w)) (delegated_of (MEDELEG of w) cause)

  pub to_m_lem : goes_to_s ≡ false → trap_of w cause tval ≡ trap_m w cause tval
  unfolding trap_of
  to_m_lem e = second _ _ _ e

  pub to_s_lem : goes_to_s ≡ true → trap_of w cause tval ≡ trap_s w cause tval
  unfolding trap_of
  to_s_lem e = first _ _ _ e

  -- so a trap that goes to M keeps what is S's, one that goes to S what is M's
  pub trap_keeps_s : goes_to_s ≡ false → Only of_m w (trap_of w cause tval)
  trap_keeps_s e = rw (to_m_lem e) trap_m_only

  pub trap_keeps_m : goes_to_s ≡ true → Only of_s w (trap_of w cause tval)
  trap_keeps_m e = rw (to_s_lem e) trap_s_only

  -- and every trap each word that is neither's
  pub trap_keeps : (j : ℕ) → among j of_m ≡ false → among j of_s ≡ false → j of trap_of w cause tval ≡ j of w
  unfolding trap_of
  trap_keeps j m s = go goes_to_s
    where
      go : (b : Bool) → j of pick b (trap_s w cause tval) (trap_m w cause tval) ≡ j of w
      go true = trap_s_only.kept j s
      go false = trap_m_only.kept j m

back_in_only : (w : List ℕ) (new : Mode) (saved : Bool) (m to : ℕ) → Only of_return w (back_in w new saved m to)
unfolding back_in
back_in_only w new saved m to = also PC _ (also MSTATUS _ (also MODE _ (also ELP _ (none w))))

pub mret_keeps : (w : List ℕ) → Only of_return w (mret_of w)
unfolding mret_of
mret_keeps w = back_in_only w _ _ _ _

pub sret_keeps : (w : List ℕ) → Only of_return w (sret_of w)
unfolding sret_of
sret_keeps w = back_in_only w _ _ _ _

-- the fields of mstatus that t has from s: those that no trap and no return changes, what is S's, and what is M's
pub record Shared (s t : Status) : Type 0 where
  pub sum : t.sum ≡ s.sum
  pub mxr : t.mxr ≡ s.mxr

pub record OfS (s t : Status) : Type 0 where
  pub sie : t.sie ≡ s.sie
  pub spie : t.spie ≡ s.spie
  pub spp : t.spp ≡ s.spp
  pub spelp : t.spelp ≡ s.spelp

pub record OfM (s t : Status) : Type 0 where
  pub mie : t.mie ≡ s.mie
  pub mpie : t.mpie ≡ s.mpie
  pub mpp : t.mpp ≡ s.mpp
  pub mpelp : t.mpelp ≡ s.mpelp

abbrev pub status_in : (w : List ℕ) → Status
status_in w = status_of (MSTATUS of w)

module _ (w : List ℕ) (size : length w ≡ COUNT) where
  -- mstatus, where other words are stored behind it
  stored : (m : ℕ) (ks v : List ℕ) → Only ks (w but MSTATUS ≔ m) v → among MSTATUS ks ≡ false → MSTATUS of v ≡ m
  stored m ks v o n = o.kept MSTATUS n ∙ get_or-set_same w MSTATUS m 0 (rw size (omega arith))

  module _ (cause tval : ℕ) where
    -- every field of mstatus after a trap
    pub trap_m_fields : status_in (trap_m w cause tval) ≡ trapped_m_of (status_in w) (number_of (mode_of (MODE of w))) (expected w)
    unfolding trap_m
    trap_m_fields =
        let m : ℕ = enter_m_of (MSTATUS of w) (mode_of (MODE of w)) (expected w) in
        ap status_of (stored m _ _ (also PC _ (also MODE _ (also ELP _ (also MTVAL _ (also MCAUSE _ (also MEPC _ (none (w but MSTATUS ≔ m)))))))) refl)
        ∙ enter_m_fields (MSTATUS of w) (mode_of (MODE of w)) (expected w)

    pub trap_s_fields : status_in (trap_s w cause tval) ≡ trapped_s_of (status_in w) (is_supervisor_of (mode_of (MODE of w))) (expected w)
    unfolding trap_s
    trap_s_fields =
        let m : ℕ = enter_s (MSTATUS of w) (mode_of (MODE of w)) (expected w) in
        ap status_of (stored m _ _ (also PC _ (also MODE _ (also ELP _ (also STVAL _ (also SCAUSE _ (also SEPC _ (none (w but MSTATUS ≔ m)))))))) refl)
        ∙ enter_s_fields (MSTATUS of w) (mode_of (MODE of w)) (expected w)

    -- a trap to M keeps S's, a trap to S M's
    pub trap_m_keeps : OfS (status_in w) (status_in (trap_m w cause tval))
    trap_m_keeps = rw trap_m_fields (record { sie = refl; spie = refl; spp = refl; spelp = refl })

    pub trap_s_keeps : OfM (status_in w) (status_in (trap_s w cause tval))
    trap_s_keeps = rw trap_s_fields (record { mie = refl; mpie = refl; mpp = refl; mpelp = refl })

    pub trap_keeps_s_fields : goes_to_s w cause tval ≡ false → OfS (status_in w) (status_in (trap_of w cause tval))
    trap_keeps_s_fields e = rw (to_m_lem w cause tval e) trap_m_keeps

    pub trap_keeps_m_fields : goes_to_s w cause tval ≡ true → OfM (status_in w) (status_in (trap_of w cause tval))
    trap_keeps_m_fields e = rw (to_s_lem w cause tval e) trap_s_keeps

    -- and every trap keeps MPRV, SUM and MXR
    pub trap_keeps_shared : Shared (status_in w) (status_in (trap_of w cause tval)) × ((status_in (trap_of w cause tval)).mprv ≡ (status_in w).mprv)
    unfolding trap_of
    trap_keeps_shared = go (goes_to_s w cause tval)
      where
        go : (b : Bool)
            → Shared (status_in w) (status_in (pick b (trap_s w cause tval) (trap_m w cause tval)))
            × ((status_in (pick b (trap_s w cause tval) (trap_m w cause tval))).mprv ≡ (status_in w).mprv)
        go true = (rw trap_s_fields (record { sum = refl; mxr = refl }), ap (λ (s : Status). s.mprv) trap_s_fields)
        go false = (rw trap_m_fields (record { sum = refl; mxr = refl }), ap (λ (s : Status). s.mprv) trap_m_fields)

  -- every field of mstatus after a return
  back_in_mstatus : (new : Mode) (saved : Bool) (m to : ℕ) → MSTATUS of back_in w new saved m to ≡ m
  unfolding back_in
  back_in_mstatus new saved m to =
      let u : List ℕ = w but ELP ≔ flag_of (pad_of new (MENVCFG of w) (SENVCFG of w) (MSECCFG of w) && saved) but MODE ≔ number_of new in
      get_or-set_other (u but MSTATUS ≔ m) PC MSTATUS to 0 (omega arith)
      ∙ get_or-set_same u MSTATUS m 0 (rw (length-set, length-set, size) (omega arith))

  pub mret_fields : status_in (mret_of w) ≡ returned_m_of (status_in w)
  unfolding mret_of
  mret_fields = ap status_of (back_in_mstatus _ _ (leave_m_of (MSTATUS of w)) _) ∙ leave_m_fields (MSTATUS of w)

  pub sret_fields : status_in (sret_of w) ≡ returned_s_of (status_in w)
  unfolding sret_of
  sret_fields = ap status_of (back_in_mstatus _ _ (leave_s (MSTATUS of w)) _) ∙ leave_s_fields (MSTATUS of w)

  -- MRET keeps S's, SRET M's, and both SUM and MXR
  pub mret_keeps_fields : OfS (status_in w) (status_in (mret_of w)) × Shared (status_in w) (status_in (mret_of w))
  mret_keeps_fields = rw mret_fields (record { sie = refl; spie = refl; spp = refl; spelp = refl }, record { sum = refl; mxr = refl })

  pub sret_keeps_fields : OfM (status_in w) (status_in (sret_of w)) × Shared (status_in w) (status_in (sret_of w))
  sret_keeps_fields = rw sret_fields (record { mie = refl; mpie = refl; mpp = refl; mpelp = refl }, record { sum = refl; mxr = refl })

  -- and MRET into M keeps MPRV
  pub mret_keeps_mprv : (status_in w).mpp ≡ 3 → (status_in (mret_of w)).mprv ≡ (status_in w).mprv
  mret_keeps_mprv e = ap (λ (s : Status). s.mprv) mret_fields ∙ rw e
