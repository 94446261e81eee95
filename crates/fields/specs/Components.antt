-- The components of an attribute, and the bytes of a colour.
use Rattle.std.specs.Prelude.{Bool, cond, ◌||◌, ℕ, zero, suc, ◌+◌, ◌*◌, ◌%◌, eqb}

-- "colours 0 and 1"
abbrev pub is_colour : ℕ → Bool
is_colour k = eqb k 11 || eqb k 12

-- "Position has 2 or 3 components, texture 1 or 2, normal 3 or 9", by the count bit; every other k, a matrix or a colour too, counts as a
-- texture: these have no components, and what a layout and a decoding promise never reads it there
abbrev pub components_of : ℕ → ℕ → ℕ
components_of k count = cond (eqb k 9) (2 + count % 2) (cond (eqb k 10) (3 + 6 * (count % 2)) (1 + count % 2))

-- "Colour formats 0 to 5 have 2, 3, 4, 2, 3, 4 bytes whatever the count bit"; formats above, which no accepted layout has, count as 4
abbrev pub colour_width : ℕ → ℕ
colour_width zero = 2
colour_width (suc zero) = 3
colour_width (suc (suc zero)) = 4
colour_width (suc (suc (suc zero))) = 2
colour_width (suc (suc (suc (suc zero)))) = 3
colour_width (suc (suc (suc (suc (suc n))))) = 4
