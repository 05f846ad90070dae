-- Two outcomes that satisfy one promise are equal. Each promise says of each part of an outcome (the result, what is left in each
-- lent place) that it is a definition's value; the lemma is over any type, so it serves every such part of every public function
-- (docs/CONTRACTS.md lists them). `one_outcome` puts the two parts of a call together.
-- Assumes nothing.
use mathlib.Core.Path.{◌≡◌, sym, ◌∙◌}
use Rattle.run_call.specs.Call.{Called}

pub determined : {A : Type 0} (definition x y : A) → x ≡ definition → y ≡ definition → x ≡ y
determined definition x y p q = p ∙ sym q

-- what a call promises of its outcome, by the definition of the call
abbrev pub Promised : (definition outcome : Called) → Type 0
Promised d c = (c.answer ≡ d.answer) × (c.memory ≡ d.memory)

-- two outcomes of a call that meet its promise are one
pub one_outcome : (definition c d : Called) → Promised definition c → Promised definition d → c ≡ d
one_outcome e c d p q =
    let a = determined e.answer c.answer d.answer p.0 q.0 in
    let m = determined e.memory c.memory d.memory p.1 q.1 in
    rw (a, m)
