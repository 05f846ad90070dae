-- What the usual grant grants, steps 5 to 8 grant.
-- Assumes nothing.
use mathlib.Core.Path.{◌≡◌, refl}
use mathlib.Core.Bool.{Bool, true, false, ◌&&◌, not}
use borrow.Author.Tests.{not-true}
use Rattle.std.specs.Prelude.{Ok}
use Rattle.word.proofs.Bools.{both}
use Rattle.address_page.specs.Kinds.{is_shadow_of, is_fetch_of, writes}
use Rattle.isa.specs.declared.Kind.TheVariants.{Fetch, Load, Store, Push, Pop, Swap}
use Rattle.isa.specs.declared.Kind.{Kind}
use Rattle.isa.specs.declared.Mode.TheVariants.{User, Supervisor, Machine}
use Rattle.isa.specs.declared.Mode.{Mode}
use Rattle.address_page.specs.declared.Regime.{Regime}
use Rattle.address_leaf.specs.Leaf.{shadow_page_of, read_only, has_right_of, valid_leaf_of}
use Rattle.address_leaf.specs.declared.Leaf.{Leaf}
use Rattle.address_judge.specs.Judge.{user_bit_of, off_read_only_of, own_page_of, readable, permits, accessed_dirty_of, decide_of, judge_of}
use Rattle.address_judge.specs.Usual.{usual_leaf, usual_user, usual_shadow, usual_right, usual_of}

-- step 6
user_bit_lem : (m : Mode) (sum fetch u : Bool) → usual_user m u ≡ true → user_bit_of m sum fetch u ≡ true
user_bit_lem User sum fetch u e = e
user_bit_lem Supervisor sum fetch true e = cc
user_bit_lem Supervisor sum fetch false e = refl
user_bit_lem Machine sum fetch u e = refl

-- a leaf with V and A whose bits 63:54 are 0
abbrev page : (r w x u d : Bool) → Leaf
page r w x u d = record { v = true; r = r; w = w; x = x; u = u; a = true; d = d; clear = true }

-- steps 5, 7 and 8 grant it what the usual grant does
abbrev Grants : Kind → (sse mxr : Bool) → Leaf → Type 0
Grants k sse mxr l =
    usual_right sse k l ≡ true
    → decide_of
    (valid_leaf_of (has_right_of l) (shadow_page_of sse l) l)
    true
    (off_read_only_of (is_shadow_of k) (read_only l))
    (own_page_of k (shadow_page_of sse l))
    (permits k (readable mxr (shadow_page_of sse l) l) l)
    (accessed_dirty_of (writes k) l)
    ≡ Ok tt

-- a shadow page with D
shadow_bits : (sse r w x d : Bool) → usual_shadow sse r w x d ≡ true
    → (sse ≡ true) × (d ≡ true) × (w ≡ true) × (r ≡ false) × (x ≡ false)
shadow_bits sse r w x d e =
    let (a, e1) = both sse (d && (w && (not r && not x))) e in
    let (b, e2) = both d (w && (not r && not x)) e1 in
    let (c, e3) = both w (not r && not x) e2 in
    let (f, g) = both (not r) (not x) e3 in
    (a, b, c, not-true r f, not-true x g)

rights : (k : Kind) (sse mxr r w x u d : Bool) → Grants k sse mxr (page r w x u d)
rights Fetch sse mxr r w false u d e = cc
rights Fetch sse mxr r true true u d e = cc
rights Fetch true mxr true false true u d e = refl
rights Fetch true mxr false false true u d e = refl
rights Fetch false mxr true false true u d e = refl
rights Fetch false mxr false false true u d e = refl
rights Load sse mxr false w x u d e = cc
rights Load sse mxr true true x u d e = refl
rights Load sse mxr true false x u d e = refl
rights Store sse mxr r false x u d e = cc
rights Store sse mxr false true x u d e = cc
rights Store sse mxr true true x u false e = cc
rights Store true mxr true true x u true e = refl
rights Store false mxr true true x u true e = refl
rights Push sse mxr r w x u d e = let (s, a, b, c, f) = shadow_bits sse r w x d e in rw (s, a, b, c, f)
rights Pop sse mxr r w x u d e = let (s, a, b, c, f) = shadow_bits sse r w x d e in rw (s, b, c, f)
rights Swap sse mxr r w x u d e = let (s, a, b, c, f) = shadow_bits sse r w x d e in rw (s, a, b, c, f)

pub usual_granted : (g : Regime) (k : Kind) (l : Leaf) → usual_of g k l ≡ true → judge_of g k l ≡ Ok tt
unfolding usual_of judge_of
usual_granted g k l h =
    let (p, h1) = both (usual_user g.mode l.u) (usual_leaf l.v l.clear l.a && usual_right g.sse k l) h in
    let (q, e) = both (usual_leaf l.v l.clear l.a) (usual_right g.sse k l) h1 in
    let (v, q1) = both l.v (l.clear && l.a) q in
    let (c, a) = both l.clear l.a q1 in
    rw (user_bit_lem g.mode g.sum (is_fetch_of k) l.u p, v, c, a) (rights k g.sse g.mxr l.r l.w l.x l.u l.d (rw (v, c, a) at e))
