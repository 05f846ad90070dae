-- Choices by a test, and tables by a key: what every definition that goes by cases is made of.
use Rattle.std.specs.Prelude.{ℕ, Bool, true, false, ◌==◌}

abbrev pub pick : {A : Type 0} → Bool → A → A → A
pick true a b = a
pick false a b = b

infixr 3 ◌⇒◌¦◌
-- rows of a key and what it stands for, and what stands for every other key
pub data Table (A : Type 0) : Type 0 where
  ◌⇒◌¦◌ : ℕ → A → Table A → Table A
  otherwise : A → Table A

-- what stands for n: the first row with that key decides
abbrev pub look : {A : Type 0} → ℕ → Table A → A
look n (k ⇒ a ¦ t) = pick (n == k) a (look n t)
look n (otherwise a) = a
