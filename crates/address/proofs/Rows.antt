-- The worked cases of docs/HART.md, 14.1 (rows 1 to 4) and 14.5 (row 10).
-- Assumes nothing.
use mathlib.Core.Path.{◌≡◌, refl}
use mathlib.Core.Bool.{true, false}
use Rattle.address.specs.Mask.{mask_of}
use Rattle.address.specs.Stack.{push_of}

pub row_1 : mask_of 7 true 0xABFFFFFF12345678 ≡ 0xFFFFFFFF12345678
unfolding mask_of
row_1 = refl

pub row_2 : mask_of 7 false 0xABFFFFFF12345678 ≡ 0x01FFFFFF12345678
unfolding mask_of
row_2 = refl

pub row_3 : mask_of 16 false 0xABFFFFFF12345678 ≡ 0x0000FFFF12345678
unfolding mask_of
row_3 = refl

pub row_4 : mask_of 7 true 0x5400000080001000 ≡ 0x0000000080001000
unfolding mask_of
row_4 = refl

pub row_10 : push_of 0 ≡ 0xFFFFFFFFFFFFFFF8
row_10 = refl
