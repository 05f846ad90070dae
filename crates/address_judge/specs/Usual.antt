-- The usual grant: what most accesses are granted on, by fewer tests than steps 5 to 8. Whatever it grants, those steps grant
-- (`usual_granted` in proofs/Shortcut.antt); of the rest it says nothing. Rule 10.10 of docs/HART.md.
use Rattle.std.specs.Prelude.{Bool, false, ◌&&◌, not}
use Rattle.isa.specs.declared.Kind.TheVariants.{Fetch, Load, Store, Push, Pop, Swap}
use Rattle.isa.specs.declared.Kind.{Kind}
use Rattle.isa.specs.declared.Mode.TheVariants.{User, Supervisor, Machine}
use Rattle.isa.specs.declared.Mode.{Mode}
use Rattle.address_page.specs.declared.Regime.{Regime}
use Rattle.address_leaf.specs.declared.Leaf.{Leaf}

-- V and A, and bits 63:54 are 0
abbrev pub usual_leaf : (v clear a : Bool) → Bool
usual_leaf v clear a = v && (clear && a)

-- U mode on a page with the U bit, S mode on one without
abbrev pub usual_user : Mode → (u : Bool) → Bool
usual_user User u = u
usual_user Supervisor u = not u
usual_user Machine u = false

-- X without W, as code is mapped: with V, A and the upper bits this is one comparison of the word under a mask
abbrev pub usual_fetch : (w x : Bool) → Bool
usual_fetch w x = x && not w

abbrev pub usual_store : (r w d : Bool) → Bool
usual_store r w d = w && (r && d)

-- a shadow page with D, also where D is not asked for
abbrev pub usual_shadow : (sse r w x d : Bool) → Bool
usual_shadow sse r w x d = sse && (d && (w && (not r && not x)))

abbrev pub usual_right : (sse : Bool) → Kind → Leaf → Bool
usual_right sse Fetch l = usual_fetch l.w l.x
usual_right sse Load l = l.r
usual_right sse Store l = usual_store l.r l.w l.d
usual_right sse Push l = usual_shadow sse l.r l.w l.x l.d
usual_right sse Pop l = usual_shadow sse l.r l.w l.x l.d
usual_right sse Swap l = usual_shadow sse l.r l.w l.x l.d

unfoldable pub usual_of : Regime → Kind → Leaf → Bool
usual_of g k l = usual_user g.mode l.u && (usual_leaf l.v l.clear l.a && usual_right g.sse k l)
