-- What a granted access says of its leaf.
-- Assumes nothing.
use mathlib.Core.Path.{◌≡◌, refl}
use mathlib.Core.Bool.{Bool, true, false}
use borrow.Author.Tests.{not-true}
use Rattle.address_page.specs.Kinds.{is_shadow_of, is_fetch_of, writes}
use Rattle.address_leaf.specs.Leaf.{shadow_page_of, read_only, has_right_of, valid_leaf_of}
use Rattle.address_judge.specs.Judge.{user_bit_of, off_read_only_of, own_page_of, readable, permits, accessed_dirty_of, Verdict, guard, judge_of}
use Rattle.std.specs.Prelude.{Ok}
use Rattle.isa.specs.declared.Fault.TheVariants.{Access, Page}
use Rattle.isa.specs.declared.Fault.{Fault}
use Rattle.isa.specs.declared.Kind.TheVariants.{Fetch, Load, Store, Push, Pop, Swap}
use Rattle.isa.specs.declared.Kind.{Kind}
use Rattle.address_page.specs.declared.Regime.{Regime}
use Rattle.address_leaf.specs.declared.Leaf.{Leaf}

-- a test before a grant held
behind : (b : Bool) (fault : Fault) (rest : Verdict) → guard b fault rest ≡ Ok tt → (b ≡ true) × (rest ≡ Ok tt)
behind true fault rest e = (refl, e)
behind false fault rest e = cc

-- every test of steps 5 to 8 held
pub record Held (g : Regime) (k : Kind) (l : Leaf) : Type 0 where
  pub valid : valid_leaf_of (has_right_of l) (shadow_page_of g.sse l) l ≡ true
  pub user : user_bit_of g.mode g.sum (is_fetch_of k) l.u ≡ true
  pub off : off_read_only_of (is_shadow_of k) (read_only l) ≡ true
  pub own : own_page_of k (shadow_page_of g.sse l) ≡ true
  pub permitted : permits k (readable g.mxr (shadow_page_of g.sse l) l) l ≡ true
  pub stamped : accessed_dirty_of (writes k) l ≡ true

module _ (g : Regime) (l : Leaf) where
  pub held : (k : Kind) → judge_of g k l ≡ Ok tt → Held g k l
  unfolding judge_of
  held k e =
      let (a, e1) = behind (valid_leaf_of (has_right_of l) (shadow_page_of g.sse l) l) Page _ e in
      let (b, e2) = behind (user_bit_of g.mode g.sum (is_fetch_of k) l.u) Page _ e1 in
      let (c, e3) = behind (off_read_only_of (is_shadow_of k) (read_only l)) Page _ e2 in
      let (d, e4) = behind (own_page_of k (shadow_page_of g.sse l)) Access _ e3 in
      let (f, e5) = behind (permits k (readable g.mxr (shadow_page_of g.sse l) l) l) Page _ e4 in
      let (h, e6) = behind (accessed_dirty_of (writes k) l) Page _ e5 in
      record { valid = a; user = b; off = c; own = d; permitted = f; stamped = h }

  -- and where all hold, the access is granted
  pub granted : (k : Kind) → Held g k l → judge_of g k l ≡ Ok tt
  unfolding judge_of
  granted k h = rw (h.valid, h.user, h.off, h.own, h.permitted, h.stamped)

  -- an ordinary store is never granted on a shadow page
  pub store_elsewhere : judge_of g Store l ≡ Ok tt → shadow_page_of g.sse l ≡ false
  store_elsewhere e = not-true (shadow_page_of g.sse l) (held Store e).own

  -- a shadow access is granted on a shadow page alone
  pub shadow_there : (k : Kind) → is_shadow_of k ≡ true → judge_of g k l ≡ Ok tt → shadow_page_of g.sse l ≡ true
  shadow_there Fetch s e = cc
  shadow_there Load s e = cc
  shadow_there Store s e = cc
  shadow_there Push s e = (held Push e).own
  shadow_there Pop s e = (held Pop e).own
  shadow_there Swap s e = (held Swap e).own
