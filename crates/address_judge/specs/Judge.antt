-- What an Sv39 leaf lets an access do: steps 5 to 8, in their order. Rules 7.5 to 7.8 of docs/HART.md, of which step n is 7.n.
use Rattle.std.specs.Prelude.{Bool, true, false, ◌&&◌, ◌||◌, not, Result, Ok, Err}
use Rattle.address_page.specs.Kinds.{is_shadow_of, is_fetch_of, writes}
use Rattle.isa.specs.declared.Fault.TheVariants.{Access, Page}
use Rattle.isa.specs.declared.Fault.{Fault}
use Rattle.isa.specs.declared.Kind.TheVariants.{Fetch, Load, Store, Push, Pop, Swap}
use Rattle.isa.specs.declared.Kind.{Kind}
use Rattle.isa.specs.declared.Mode.TheVariants.{User, Supervisor, Machine}
use Rattle.isa.specs.declared.Mode.{Mode}
use Rattle.address_page.specs.declared.Regime.{Regime}
use Rattle.address_leaf.specs.Leaf.{shadow_page_of, read_only, has_right_of, valid_leaf_of}
use Rattle.address_leaf.specs.declared.Leaf.{Leaf}

-- step 6: U mode needs the U bit; S mode must not fetch from such a page and needs SUM for data. M has no pages
abbrev pub user_bit_of : Mode → (sum fetch u : Bool) → Bool
user_bit_of User sum fetch u = u
user_bit_of Supervisor sum fetch u = not u || (not fetch && sum)
user_bit_of Machine sum fetch u = true

-- step 7: a shadow access to a read-only page is a store page fault
abbrev pub off_read_only_of : (shadow only : Bool) → Bool
off_read_only_of shadow only = not shadow || not only

-- step 7: a shadow access to any other page that is no shadow page, an ordinary store to a shadow page, a fetch from one
abbrev pub own_page_of : Kind → (shadow : Bool) → Bool
own_page_of Fetch shadow = not shadow
own_page_of Load shadow = true
own_page_of Store shadow = not shadow
own_page_of Push shadow = shadow
own_page_of Pop shadow = shadow
own_page_of Swap shadow = shadow

-- step 8: load needs R, or X with MXR, or a shadow page
abbrev pub readable : (mxr shadow : Bool) → Leaf → Bool
readable mxr shadow l = l.r || ((l.x && mxr) || shadow)

-- step 8: fetch needs X, store needs W; of a shadow access step 7 has asked all
abbrev pub permits : Kind → (read : Bool) → Leaf → Bool
permits Fetch read l = l.x
permits Load read l = read
permits Store read l = l.w
permits Push read l = true
permits Pop read l = true
permits Swap read l = true

-- step 8: A must be set, and D for store, push and swap
abbrev pub accessed_dirty_of : (writes : Bool) → Leaf → Bool
accessed_dirty_of writes l = l.a && (not writes || l.d)

-- the access is granted, or why it is not
abbrev pub Verdict : Type 0
Verdict = Result (Unit {0}) Fault

-- the test must hold, else this is the verdict
abbrev pub guard : Bool → Fault → Verdict → Verdict
guard true fault rest = rest
guard false fault rest = Err fault

-- the first test that fails decides
abbrev pub decide_of : (valid user off own permits stamped : Bool) → Verdict
decide_of valid user off own permits stamped =
    guard valid Page
    (guard user Page
    (guard off Page
    (guard own Access
    (guard permits Page
    (guard stamped Page (Ok tt))))))

-- steps 5 to 8: whether the leaf is a page's; its U bit; a shadow access off read-only pages; pages of the access's own kind;
-- the right that the access needs; A and D
unfoldable pub judge_of : Regime → Kind → Leaf → Verdict
judge_of g k l =
    decide_of
    (valid_leaf_of (has_right_of l) (shadow_page_of g.sse l) l)
    (user_bit_of g.mode g.sum (is_fetch_of k) l.u)
    (off_read_only_of (is_shadow_of k) (read_only l))
    (own_page_of k (shadow_page_of g.sse l))
    (permits k (readable g.mxr (shadow_page_of g.sse l) l) l)
    (accessed_dirty_of (writes k) l)
