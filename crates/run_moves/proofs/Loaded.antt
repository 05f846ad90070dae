-- What a load puts into its register, where loads are neither masked nor translated.
-- Assumes nothing.
use Rattle.std.specs.Prelude.{Ok}
use mathlib.Core.Bool.{Bool, true}
use mathlib.Core.List.{List}
use mathlib.Core.Path.{◌≡◌, refl, sym, ap, ◌∙◌}
use Prim.Native.Nat.{ℕ}
use native.Mathlib.Omega.{arith}
use lib.ListN.{length}
use Rattle.std.specs.Prelude.{Option, Some}
use Rattle.word.specs.Sum.{sum_of}
use Rattle.word.specs.declared.field.Fields.{Fields}
use Rattle.isa.specs.declared.Access.TheVariants.{Load}
use Rattle.isa.specs.declared.Instruction.{Instruction}
use Rattle.isa.specs.declared.Instruction.TheVariants.{Memory}
use Rattle.isa.specs.declared.Width.{Width}
use Rattle.memory.specs.Extend.{extend_of}
use Rattle.isa.specs.declared.Kind.TheVariants as kind
use Rattle.address.specs.Control.{flat_of}
use Rattle.address_place.proofs.Flat.{data_flat}
use Rattle.address_place.specs.Place.{place_of, flat_place_of}
use Rattle.address_place.specs.declared.Physical.{Physical}
use Rattle.step_transfer.specs.Access.{read_of, done_of, at_of, passed_of, access_of}
use Rattle.step_effect.specs.Register.{reg_of, put_of}
use Rattle.step_effect.specs.declared.Effect.TheVariants.{Write}
use Rattle.csr_setting.specs.declared.Setting.{Setting}
use Rattle.step_meaning.specs.Instruction.{next_of, execute_of}
use Rattle.run_done.specs.Moves.{Done, Loads}
use Rattle.run_done.proofs.Ways.{wrote_does}

-- at its place, a load's register takes the bytes
pub loads_at : (f : Fields) (off : ℕ) (n : Width) (sign : Bool) (a : ℕ) (m : List ℕ) (q : Physical) → flat_place_of kind.Load n a (length m) ≡ Ok q
    → (v : ℕ) → v ≡ extend_of n sign (read_of m q n)
    → Loads (Some v) (Memory (Load n sign) f.rd f.rs1 0 off) f off a m
unfolding execute_of access_of passed_of at_of done_of
loads_at f off n sign a m q at v e w pc ssp x map s flat sum =
    let there : place_of s.control kind.Load n (sum_of (reg_of x f.rs1) off) map (length m) ≡ Ok q =
    data_flat s.control kind.Load n (sum_of (reg_of x f.rs1) off) map (length m) flat refl refl (omega arith)
    ∙ ap (λ (b : ℕ). flat_place_of kind.Load n b (length m)) (sym sum) ∙ at in
    rw (there, e)

-- the row of a word
pub row_loads : (t : Option ℕ) (i j : Instruction) (f : Fields) (off a : ℕ) (m : List ℕ) → j ≡ i → Loads t j f off a m → Loads t i f off a m
row_loads t i j f off a m h w = rw (← h) w

-- rd took the value: what the instruction of the word does
pub load_does : (t : Option ℕ) (v : ℕ) (i : Instruction) (f : Fields) (off a next w pc : ℕ) (x x' m : List ℕ)
    → Loads (Some v) i f off a m → a ≡ sum_of (reg_of x f.rs1) off → next ≡ next_of pc
    → (t ≡ Some next) × (x' ≡ put_of f.rd v x)
    → (ssp : ℕ) (s : Setting) (rest map : List ℕ) → flat_of s.control ≡ true
    → Done t (execute_of i w x pc ssp s m map) x rest m x' rest m
load_does t v i f off a next w pc x x' m told sum n done ssp s rest map flat =
    let effect : execute_of i w x pc ssp s m map ≡ Write f.rd v next =
    told w pc ssp x map s flat sum ∙ ap (λ (d : ℕ). Write f.rd v d) (sym n) in
    wrote_does t f.rd v next x x' done _ effect rest m
