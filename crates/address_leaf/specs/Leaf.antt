-- An Sv39 leaf, and whether it is a page's: step 5. Rules 1.10 and 7.5 of docs/HART.md.
use Rattle.std.specs.Prelude.{Bool, ◌&&◌, ◌||◌, not, ℕ, ◌/◌, ◌%◌, ◌^◌, eqb}
use Rattle.word.specs.Row.{bit_of}
use Rattle.address_leaf.specs.declared.Leaf.{Leaf}

-- V, R, W, X, U, G, A, D in bits 0 to 7; `clear` says that bits 63:54 are 0
abbrev pub leaf_of : ℕ → Leaf
leaf_of e = record {
  v = eqb (e % 2) 1;
  r = bit_of e 1;
  w = bit_of e 2;
  x = bit_of e 3;
  u = bit_of e 4;
  a = bit_of e 6;
  d = bit_of e 7;
  clear = eqb (e / 2 ^ 54) 0;
}

-- W alone is a shadow page while menvcfg.SSE is 1
abbrev pub shadow_page_of : (sse : Bool) → Leaf → Bool
shadow_page_of sse l = sse && (l.w && (not l.r && not l.x))

-- R alone
abbrev pub read_only : Leaf → Bool
read_only l = l.r && (not l.w && not l.x)

abbrev pub has_right_of : Leaf → Bool
has_right_of l = l.r || (l.w || l.x)

-- step 5: no page if V is 0, or R, W and X are all 0, or bits 63:54 are not 0, or W without R (except a shadow page)
abbrev pub valid_leaf_of : (right shadow : Bool) → Leaf → Bool
valid_leaf_of right shadow l = l.v && (right && (l.clear && (not l.w || (l.r || shadow))))
