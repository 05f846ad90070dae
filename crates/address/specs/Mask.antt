-- Step 2, masking, over the number of masked bits. Rules 5.16 and 7.2 of docs/HART.md.
use Rattle.std.specs.Prelude.{Bool, ℕ, ◌-◌, ◌%◌, ◌^◌}
use Rattle.word.specs.Choice.{pick, Table, ◌⇒◌¦◌, otherwise, look}
use Rattle.word.specs.Sign.{sign_extend_of}
use Rattle.isa.specs.declared.Kind.{Kind}
use Rattle.isa.specs.declared.Mode.{Mode}
use Rattle.address.specs.Control.{pmm_of, paged_of, unmasked_of}
use Rattle.address.specs.declared.control.Control.{Control}

-- PMM 0, 2, 3 mean 0, 7, 16 masked bits; no write leaves a 1
abbrev pub pmlens : Table ℕ
pmlens = 2 ⇒ 7 ¦ 3 ⇒ 16 ¦ otherwise 0

abbrev pub pmlen_of : ℕ → ℕ
pmlen_of pmm = look pmm pmlens

-- in M or Bare the upper p bits become 0; under Sv39 they copy bit 63 − p
unfoldable pub mask_of : (p : ℕ) → (paged : Bool) → (a : ℕ) → ℕ
mask_of p paged a = pick paged (sign_extend_of (64 - p) a) (a % 2 ^ (64 - p))

-- by the PMM of the effective mode
abbrev pub masked_of : Control → Mode → ℕ → ℕ
masked_of c m a = mask_of (pmlen_of (pmm_of m c.upmm c.spmm c.mpmm)) (paged_of m c.sv39) a

-- not for fetch, nor where MPRV and MXR lift it
unfoldable pub transformed_of : Control → Mode → Kind → ℕ → ℕ
transformed_of c m k a = pick (unmasked_of c k) a (masked_of c m a)
