-- What is in force where a hart takes a step: the regime of its accesses, the entries of the map, and which of their leaves are pages. The
-- statements of `theorem_shadow` and of `theorem_isolation` both speak of it. Rules 13.3 and 13.13 of docs/HART.md.
--
-- Below, h is the hart, map the page map, c the regime in force.
use Rattle.std.specs.Prelude.{true, List, ◌≡◌, ℕ, suc, ◌+◌, ◌*◌, ◌≤◌, get_or, length}
use Rattle.address_leaf.specs.Leaf.{leaf_of, has_right_of, shadow_page_of, valid_leaf_of}
use Rattle.address.specs.declared.control.Control.{Control}
use Rattle.csr_words.specs.Setting.{setting_of}
use Rattle.step_hart.specs.declared.Hart.{Hart}

-- what the mode and the CSRs say about accesses: the regime in force
abbrev pub in_force : Hart → Control
in_force h = (setting_of h.words).control

-- the leaf word of entry i of the map, which has two words an entry
abbrev pub leaf_at : (map : List ℕ) → (i : ℕ) → ℕ
leaf_at map i = get_or map (suc (2 * i)) 0

-- entry i is one of the map's
abbrev pub Entry : (map : List ℕ) → (i : ℕ) → Type 0
Entry map i = 2 * i + 2 ≤ length map

-- step 5 takes the leaf word e as a page's
abbrev pub ValidLeaf : Control → (e : ℕ) → Type 0
ValidLeaf c e = valid_leaf_of (has_right_of (leaf_of e)) (shadow_page_of c.sse (leaf_of e)) (leaf_of e) ≡ true
