-- The page map: two words a page, the page number and then its leaf. Rules 1.9, 2.6 and 7.5 of docs/HART.md.
use Rattle.std.specs.Prelude.{Bool, true, false, ◌&&◌, ◌||◌, not, List, [], ◌∷◌, ℕ, ◌%◌, ◌^◌, eqb, leb, ltb, length, Option, Some, None}
use Rattle.word.specs.Choice.{pick}

-- the leaf word of the first entry that has this page number
unfoldable pub lookup_of : List ℕ → ℕ → Option ℕ
lookup_of [] page = None
lookup_of (k ∷ []) page = None
lookup_of (k ∷ e ∷ rest) page = pick (eqb k page) (Some e) (lookup_of rest page)

-- the page numbers, in their order
unfoldable pub pages_of : List ℕ → List ℕ
pages_of [] = []
pages_of (k ∷ []) = k ∷ []
pages_of (k ∷ e ∷ rest) = k ∷ pages_of rest

-- one of them is 2 ^ 27 or more
unfoldable pub any_large : List ℕ → Bool
any_large [] = false
any_large (k ∷ rest) = leb (2 ^ 27) k || any_large rest

-- each is above the one before it, the first above `last`
unfoldable pub rise_from : ℕ → List ℕ → Bool
rise_from last [] = true
rise_from last (k ∷ rest) = ltb last k && rise_from k rest

unfoldable pub strictly_rise : List ℕ → Bool
strictly_rise [] = true
strictly_rise (k ∷ rest) = rise_from k rest

-- refusal 3: an odd word count, over 128 words, a page number of 2 ^ 27 or more, or numbers that don't strictly rise
unfoldable pub map_refused_of : List ℕ → Bool
map_refused_of map =
    eqb (length map % 2) 1
    || (ltb 128 (length map) || (any_large (pages_of map) || not (strictly_rise (pages_of map))))
