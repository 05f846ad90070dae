-- Step 1, the effective mode, and what goes by it: which PMM counts, whether Sv39 is in force, and where neither concerns an access;
-- and which accesses are not masked at all. Rules 7.1 and 7.2 of docs/HART.md.
--
-- Below, c is what the hart's mode and CSRs say about accesses, and m the effective mode.
use Rattle.std.specs.Prelude.{Bool, true, false, ◌&&◌, ◌||◌, not, ℕ, eqb}
use Rattle.word.specs.Choice.{pick}
use Rattle.isa.specs.declared.Kind.{Kind}
use Rattle.isa.specs.declared.Kind.TheVariants.{Fetch, Load, Store, Push, Pop, Swap}
use Rattle.isa.specs.declared.Mode.{Mode}
use Rattle.isa.specs.declared.Mode.TheVariants.{User, Supervisor, Machine}
use Rattle.address_page.specs.declared.Regime.{Regime}
use Rattle.address.specs.declared.control.Control.{Control}

-- in M with MPRV set, MPP
abbrev pub under_mprv_of : (mode : Mode) → (mprv : Bool) → (mpp : Mode) → Mode
under_mprv_of User mprv mpp = User
under_mprv_of Supervisor mprv mpp = Supervisor
under_mprv_of Machine mprv mpp = pick mprv mpp Machine

-- step 1: the current mode; for loads, stores and swaps in M with MPRV set, MPP
abbrev pub effective_of : Kind → (mode : Mode) → (mprv : Bool) → (mpp : Mode) → Mode
effective_of Fetch mode mprv mpp = mode
effective_of Load mode mprv mpp = under_mprv_of mode mprv mpp
effective_of Store mode mprv mpp = under_mprv_of mode mprv mpp
effective_of Push mode mprv mpp = mode
effective_of Pop mode mprv mpp = mode
effective_of Swap mode mprv mpp = under_mprv_of mode mprv mpp

unfoldable pub effective_mode_of : Control → Kind → Mode
effective_mode_of c k = effective_of k c.mode c.mprv c.mpp

-- step 2: the PMM of the effective mode (U senvcfg, S menvcfg, M mseccfg)
abbrev pub pmm_of : Mode → (senvcfg menvcfg mseccfg : ℕ) → ℕ
pmm_of User senvcfg menvcfg mseccfg = senvcfg
pmm_of Supervisor senvcfg menvcfg mseccfg = menvcfg
pmm_of Machine senvcfg menvcfg mseccfg = mseccfg

-- Sv39 is in force: satp says so, and the effective mode is not M
abbrev pub paged_of : Mode → (sv39 : Bool) → Bool
paged_of User sv39 = sv39
paged_of Supervisor sv39 = sv39
paged_of Machine sv39 = false

-- in M with MPRV and MXR both set, whatever MPP is (rule 7.2 e)
abbrev pub lifted_of : (mode : Mode) → (mprv mxr : Bool) → Bool
lifted_of User mprv mxr = false
lifted_of Supervisor mprv mxr = false
lifted_of Machine mprv mxr = mprv && mxr

-- which accesses step 2 does not mask: fetches; and loads, stores and swaps where masking is lifted
abbrev pub unmasked_for_of : Kind → (lifted : Bool) → Bool
unmasked_for_of Fetch lifted = true
unmasked_for_of Load lifted = lifted
unmasked_for_of Store lifted = lifted
unmasked_for_of Push lifted = false
unmasked_for_of Pop lifted = false
unmasked_for_of Swap lifted = lifted

abbrev pub unmasked_of : Control → Kind → Bool
unmasked_of c k = unmasked_for_of k (lifted_of c.mode c.mprv c.mxr)

-- what a leaf is judged by
abbrev pub regime_of : Control → Mode → Regime
regime_of c m = record { mode = m; sum = c.sum; mxr = c.mxr; sse = c.sse }

-- fetches are not translated: M, or Bare
unfoldable pub bare_of : Control → Bool
bare_of c = not (paged_of (effective_mode_of c Fetch) c.sv39)

-- loads and stores, which have one effective mode, are neither translated nor masked: masking is lifted, or masks no bit
unfoldable pub flat_of : Control → Bool
flat_of c =
    not (paged_of (effective_mode_of c Load) c.sv39)
    && (unmasked_of c Load || eqb (pmm_of (effective_mode_of c Load) c.upmm c.spmm c.mpmm) 0)
