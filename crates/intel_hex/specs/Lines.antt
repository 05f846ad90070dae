-- The lines of a text. A line ends in LF (10) or CR LF (13, 10); the last may lack its end. Rule 11.3 of docs/HART.md.
use Rattle.std.specs.Prelude.{◌&&◌, List, [], ◌∷◌, ℕ, eqb, get_or}
use Rattle.word.specs.Choice.{pick}

-- a byte that belongs to a line, and the lines of what follows it: it begins the first of them, or is a last line that lacks its end
unfoldable pub begins : (b : ℕ) → List (List ℕ) → List (List ℕ)
begins b [] = (b ∷ []) ∷ []
begins b (l ∷ ls) = (b ∷ l) ∷ ls

-- an LF ends a line, a CR right before an LF belongs to that end, and every other byte belongs to a line; after a last LF there is none
unfoldable pub lines_of : List ℕ → List (List ℕ)
lines_of [] = []
lines_of (b ∷ rest) =
    pick (eqb b 10) ([] ∷ lines_of rest) (pick (eqb b 13 && eqb (get_or rest 0 0) 10) (lines_of rest) (begins b (lines_of rest)))
