-- A choice whose test is known.
-- Assumes nothing.
use Rattle.std.proofs.Common.{◌≡◌, Bool, true, false, refl}
use Rattle.word.specs.Choice.{pick}

pub first : {A : Type 0} (b : Bool) (x y : A) → b ≡ true → pick b x y ≡ x
first true x y e = refl
first false x y e = cc

pub second : {A : Type 0} (b : Bool) (x y : A) → b ≡ false → pick b x y ≡ y
second true x y e = cc
second false x y e = refl
