-- "An attribute decodes to one of: absent, matrix number, one index, three indices, a raw colour number, or floating-point components":
-- the kind and the values of attribute k, floats by their bits.
-- The kinds: 0 absent, 1 matrix, 2 one index, 3 three, 4 raw colour, 5 position, 6 texture, 7 normal of three components, 8 of nine.
use Rattle.std.specs.Prelude.{cond, not, ◌&&◌, List, [], ◌∷◌, ◌++◌, ℕ, ◌+◌, ◌-◌, ◌*◌, ◌%◌, ltb, eqb, replicate, Float}
use Rattle.std.specs.Float.{binary32}
use Rattle.std.specs.Float.Ieee.{of_bits, to_bits}
use Rattle.laws.specs.Values.{up_to}
use Rattle.octets.specs.BigEndian.{big_endian}
use Rattle.component.specs.Component.{width_of, component_of}
use Rattle.fields.specs.declared.Descriptor.{Descriptor}
use Rattle.fields.specs.Fields.{mode_of, count_of, format_of, fraction_of, indices_of}
use Rattle.fields.specs.Components.{is_colour, components_of, colour_width}
use Rattle.layout.specs.Sizes.{index_width}
use Rattle.vertex.specs.declared.Triple.{Triple}

-- the raw number of component i, of those that start at a place
unfoldable pub raw_at : List ℕ → ℕ → ℕ → ℕ → ℕ
raw_at l at format i = big_endian l (at + i * width_of format) (width_of format)

-- component i, with so many fraction bits
unfoldable pub component_at : List ℕ → ℕ → ℕ → ℕ → ℕ → Float
component_at l at format fraction i = component_of format (raw_at l at format i) fraction

-- its bits
abbrev pub bits_of : List ℕ → ℕ → ℕ → ℕ → ℕ → ℕ
bits_of l at format fraction i = to_bits binary32 (component_at l at format fraction i)

-- "three single-precision components", from the one of a number on
abbrev pub triple_at : List ℕ → ℕ → ℕ → ℕ → ℕ → Triple
triple_at l at format fraction first = record {
  x = component_at l at format fraction first;
  y = component_at l at format fraction (first + 1);
  z = component_at l at format fraction (first + 2);
}

-- "position as a record of three single-precision components, the absent third being +0"
abbrev pub position_at : List ℕ → ℕ → ℕ → ℕ → ℕ → Triple
position_at l at count format fraction = record {
  x = component_at l at format fraction 0;
  y = component_at l at format fraction 1;
  z = cond (eqb (count % 2) 0) (of_bits binary32 0) (component_at l at format fraction 2);
}

-- n components, and +0 for each that is absent of a full number
unfoldable pub padded_list : List ℕ → ℕ → ℕ → ℕ → ℕ → ℕ → List ℕ
padded_list l at format fraction n full = up_to (bits_of l at format fraction) n ++ replicate (full - n) 0

-- the kind of a position, a normal or a texture
abbrev pub kind_of : ℕ → ℕ → ℕ
kind_of k count = cond (eqb k 9) 5 (cond (eqb k 10) (7 + count % 2) 6)

-- how many components it is told with, all but a normal as many as with the count bit set:
-- "the absent third being +0, as is a texture's absent second"
abbrev pub full_of : ℕ → ℕ → ℕ
full_of k count = cond (eqb k 10) (components_of k count) (components_of k 1)

-- its kind and components
unfoldable pub component_list : List ℕ → ℕ → ℕ → ℕ → ℕ → ℕ → List ℕ
component_list l at k count format fraction = kind_of k count ∷ padded_list l at format fraction (components_of k count) (full_of k count)

-- a direct attribute; "A raw colour is its bytes read big-endian"
unfoldable pub direct_list : List ℕ → ℕ → ℕ → ℕ → ℕ → ℕ → List ℕ
direct_list l at k count format fraction =
    cond (is_colour k) (4 ∷ big_endian l at (colour_width format) ∷ []) (component_list l at k count format fraction)

-- one index of n bytes, or three
unfoldable pub index_list : List ℕ → ℕ → ℕ → ℕ → List ℕ
index_list l at times n =
    cond (eqb times 3) (3 ∷ big_endian l at n ∷ big_endian l (at + n) n ∷ big_endian l (at + 2 * n) n ∷ []) (2 ∷ big_endian l at n ∷ [])

-- the kind and the values of attribute k, whose bytes start at a place
unfoldable pub attribute_list : Descriptor → ℕ → List ℕ → ℕ → List ℕ
attribute_list d k l at =
    cond (eqb (mode_of d k) 0) (0 ∷ [])
    (cond (ltb k 9) (1 ∷ big_endian l at 1 ∷ [])
    (cond (eqb (mode_of d k) 1) (direct_list l at k (count_of d k) (format_of d k) (fraction_of d k))
    (index_list l at (indices_of d k) (index_width (mode_of d k)))))

-- how many f32 components attribute k has: only where it is direct, in format 4 and no colour; a matrix has no format
unfoldable pub singles_of : Descriptor → ℕ → ℕ
singles_of d k = cond (eqb (mode_of d k) 1 && (eqb (format_of d k) 4 && not (is_colour k))) (components_of k (count_of d k)) 0

-- word i of n that start at a place, 0 from the n-th on
abbrev pub word_at : List ℕ → ℕ → ℕ → ℕ → ℕ
word_at l at n i = cond (ltb i n) (big_endian l (at + i * 4) 4) 0

-- nine words
unfoldable pub words_of : List ℕ → ℕ → ℕ → List ℕ
words_of l at n = up_to (word_at l at n) 9
