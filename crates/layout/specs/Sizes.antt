-- The bytes of each attribute, and which formats are none.
use Rattle.std.specs.Prelude.{Bool, false, cond, ◌||◌, ℕ, zero, suc, ◌+◌, ◌-◌, ◌*◌, leb, ltb, eqb}
use Rattle.component.specs.Component.{width_of}
use Rattle.fields.specs.declared.Descriptor.{Descriptor}
use Rattle.fields.specs.Fields.{mode_of, count_of, format_of, indices_of}
use Rattle.fields.specs.Components.{is_colour, components_of, colour_width}

-- the bytes of a direct attribute
unfoldable pub direct_of : ℕ → ℕ → ℕ → ℕ
direct_of k count format = cond (is_colour k) (colour_width format) (components_of k count * width_of format)

-- the bytes of an index: 1 in mode 2, 2 in mode 3
abbrev pub index_width : ℕ → ℕ
index_width mode = mode - 1

-- the bytes of an attribute that is no matrix, by its mode
abbrev pub mode_size : Descriptor → ℕ → ℕ → ℕ
mode_size d k mode =
    cond (eqb mode 0) 0 (cond (eqb mode 1) (direct_of k (count_of d k) (format_of d k)) (indices_of d k * index_width mode))

-- "for each attribute in order, its bytes (0 if absent)"; "A present matrix has 1 byte"
unfoldable pub size_of : Descriptor → ℕ → ℕ
size_of d k = cond (ltb k 9) (mode_of d k) (mode_size d k (mode_of d k))

-- "and the sum of those before it"; of 21 attributes that is the vertex
unfoldable pub offset_of : Descriptor → ℕ → ℕ
offset_of d zero = 0
offset_of d (suc k) = offset_of d k + size_of d k

-- "a present attribute, direct or indexed, in component format 5 to 7 or colour format 6 or 7"
unfoldable pub unknown_at : Descriptor → ℕ → Bool
unknown_at d k = cond (eqb (mode_of d k) 0) false (leb (cond (is_colour k) 6 5) (format_of d k))

-- one of the first n attributes is
unfoldable pub any_unknown : Descriptor → ℕ → Bool
any_unknown d zero = false
any_unknown d (suc n) = any_unknown d n || unknown_at d n
