-- The laws of tables.
-- Assumes nothing.
use Rattle.std.proofs.Common.{◌≡◌, ℕ, Bool, true, false, ◌&&◌, eqb, refl, ap, ◌∙◌, ne_eqb, eqb-true}
use Rattle.word.specs.Choice.{Table, ◌⇒◌¦◌, otherwise, pick, look}
use Rattle.word.proofs.Bools.{both}

-- what stands for a key that no row has
abbrev pub rest : {A : Type 0} → Table A → A
rest (k ⇒ a ¦ t) = rest t
rest (otherwise a) = a

-- n is no row's key, said behind U
abbrev pub Missed : {A : Type 0} → ℕ → Table A → Type 0 → Type 0
Missed n (k ⇒ a ¦ t) U = Missed n t (U × (n ≡ k → ⊥))
Missed n (otherwise a) U = U

-- every row passes a test of its key and what it stands for
abbrev pub every : {A : Type 0} → (ℕ → A → Bool) → Table A → Bool
every test (k ⇒ a ¦ t) = test k a && every test t
every test (otherwise a) = true

-- what was said before a table's keys still holds behind them
behind : {A : Type 0} (n : ℕ) (t : Table A) (U : Type 0) → Missed n t U → U
behind n (k ⇒ a ¦ t) U m = (behind n t (U × (n ≡ k → ⊥)) m).0
behind n (otherwise a) U m = m

missed_behind : {A : Type 0} (n : ℕ) (t : Table A) (U : Type 0) → Missed n t U → rest t ≡ look n t
missed_behind n (k ⇒ a ¦ t) U m =
    rw (ne_eqb n k (behind n t (U × (n ≡ k → ⊥)) m).1) (missed_behind n t (U × (n ≡ k → ⊥)) m)
missed_behind n (otherwise a) U m = refl

-- a key that no row has: what a `match` knows in its last arm, `.match .rest`, gives what the table says there
pub missed : {A : Type 0} (n : ℕ) (t : Table A) → Missed n t (Unit {0}) → rest t ≡ look n t
missed n t m = missed_behind n t (Unit {0}) m

-- a key that is known: what a `match` knows in an arm, `.match .keys1`, gives what the table says there
pub hit : {A : Type 0} (t : Table A) {n k : ℕ} → n ≡ k → look k t ≡ look n t
hit t e = rw e

-- a test that every row passes, and what stands for the other keys too, is passed by whatever is looked up
one_passes : {A : Type 0} (test : ℕ → A → Bool) (n k : ℕ) (a b : A) (same : Bool) → eqb n k ≡ same → test k a ≡ true → test n b ≡ true
    → test n (pick same a b) ≡ true
one_passes test n k a b true e h g = ap (λ (i : ℕ). test i a) (eqb-true n k e) ∙ h
one_passes test n k a b false e h g = g

pub checked : {A : Type 0} (test : ℕ → A → Bool) (n : ℕ) (t : Table A) → every test t ≡ true → test n (rest t) ≡ true → test n (look n t) ≡ true
checked test n (k ⇒ a ¦ t) h g =
    let (p, q) = both (test k a) (every test t) h in
    one_passes test n k a (look n t) (eqb n k) refl p (checked test n t q g)
checked test n (otherwise a) h g = g

-- P of each row, where the key is that row's, and of what stands for the other keys
abbrev pub EachRow : {A : Type 0} → (A → Type 0) → ℕ → Table A → Type 0
EachRow P n (k ⇒ a ¦ t) = (n ≡ k → P a) × EachRow P n t
EachRow P n (otherwise a) = P a

infixr 2 ◌and◌
-- what is said of a row, and what is said of the rows below it
pub ◌and◌ : {A B : Type 0} → A → B → A × B
◌and◌ a b = (a, b)

one_row : {A : Type 0} (P : A → Type 0) (n k : ℕ) (a b : A) (same : Bool) → eqb n k ≡ same → (n ≡ k → P a) → P b → P (pick same a b)
one_row P n k a b true e f g = f (eqb-true n k e)
one_row P n k a b false e f g = g

-- what holds of every row holds of what is looked up
pub looked : {A : Type 0} (P : A → Type 0) (n : ℕ) (t : Table A) → EachRow P n t → P (look n t)
looked P n (k ⇒ a ¦ t) r = one_row P n k a (look n t) (eqb n k) refl r.0 (looked P n t r.1)
looked P n (otherwise a) r = r
