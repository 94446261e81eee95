-- What a descriptor says of attribute k:
-- "VCD group 0: bits 0 to 8 matrices, then two bits each from 9 .. VAT fields stand as in 004's table."
-- The attributes in document 01's order:
-- 0 the position matrix, 1 to 8 texture matrices, 9 position, 10 normal, 11 and 12 colours, 13 to 20 textures.
use Rattle.std.specs.Prelude.{◌≡◌, cond, ◌&&◌, List, [], ◌∷◌, ℕ, zero, suc, ◌+◌, ◌/◌, ◌%◌, ◌^◌, ltb, eqb, get_or}
use Rattle.fields.specs.declared.Descriptor.{Descriptor}
use Rattle.fields.specs.declared.Field.{Field}
use Rattle.fields.specs.declared.Mode.{Mode}
use Rattle.fields.specs.declared.Mode.TheVariants.{Absent, Direct, Index8, Index16}

-- the five words of a descriptor
abbrev pub words : Descriptor → List ℕ
words d = d.vcd0 ∷ d.vcd1 ∷ d.vat0 ∷ d.vat1 ∷ d.vat2 ∷ []

-- the bits from a place on, modulo q: bit b of VCD group g stands at 32 * g + b, of VAT group g at 64 + 32 * g + b;
-- past the last word all is 0
unfoldable pub bits_at : Descriptor → ℕ → ℕ → ℕ
bits_at d place q = get_or (words d) (place / 32) 0 / 2 ^ (place % 32) % q

-- the place past the last bit, for a field that an attribute has not
abbrev pub none : ℕ
none = 160

-- the place of attribute k in a table, and none above 20
abbrev pub place_in : List ℕ → ℕ → ℕ
place_in table k = cond (ltb k 21) (get_or table k 0) none

-- 004's table of the VCD, attribute by attribute
unfoldable pub modes : List ℕ
modes = 0 ∷ 1 ∷ 2 ∷ 3 ∷ 4 ∷ 5 ∷ 6 ∷ 7 ∷ 8 ∷ 9 ∷ 11 ∷ 13 ∷ 15 ∷ 32 ∷ 34 ∷ 36 ∷ 38 ∷ 40 ∷ 42 ∷ 44 ∷ 46 ∷ []

-- 004's table of the VAT: count bits. A matrix has none of its fields
unfoldable pub counts : List ℕ
counts = 160 ∷ 160 ∷ 160 ∷ 160 ∷ 160 ∷ 160 ∷ 160 ∷ 160 ∷ 160 ∷ 64 ∷ 73 ∷ 77 ∷ 81 ∷ 85 ∷ 96 ∷ 105 ∷ 114 ∷ 123 ∷ 133 ∷ 142 ∷ 151 ∷ []

-- formats, of three bits
unfoldable pub formats : List ℕ
formats = 160 ∷ 160 ∷ 160 ∷ 160 ∷ 160 ∷ 160 ∷ 160 ∷ 160 ∷ 160 ∷ 65 ∷ 74 ∷ 78 ∷ 82 ∷ 86 ∷ 97 ∷ 106 ∷ 115 ∷ 124 ∷ 134 ∷ 143 ∷ 152 ∷ []

-- shifts, of five bits; normals and colours have none there, and texture 4's stands in group 2 apart from its format
unfoldable pub shifts : List ℕ
shifts = 160 ∷ 160 ∷ 160 ∷ 160 ∷ 160 ∷ 160 ∷ 160 ∷ 160 ∷ 160 ∷ 68 ∷ 160 ∷ 160 ∷ 160 ∷ 89 ∷ 100 ∷ 109 ∷ 118 ∷ 128 ∷ 137 ∷ 146 ∷ 155 ∷ []

-- "0 absent, 1 direct, 2 and 3 an index of 8 or 16 bits"; a matrix has one bit
unfoldable pub mode_of : Descriptor → ℕ → ℕ
mode_of d k = cond (ltb k 9) (bits_at d (place_in modes k) 2) (bits_at d (place_in modes k) 4)

-- the count bit
unfoldable pub count_of : Descriptor → ℕ → ℕ
count_of d k = bits_at d (place_in counts k) 2

-- the component or colour format
unfoldable pub format_of : Descriptor → ℕ → ℕ
format_of d k = bits_at d (place_in formats k) 8

-- the fraction bits of a normal's components by their format (document 02, L2): "s8 has 6 bits, s16 has 14; for unsigned ones use 7 and
-- 15", "and f32 is untouched"; formats above, which no accepted layout has, count as f32
abbrev pub normal_bits : ℕ → ℕ
normal_bits zero = 7
normal_bits (suc zero) = 6
normal_bits (suc (suc zero)) = 15
normal_bits (suc (suc (suc zero))) = 14
normal_bits (suc (suc (suc (suc n)))) = 0

-- the fraction bits by attribute, format, bit 30 of group 0 and the VAT's shift: fixed for a normal, "whatever bit 30 says" (document 02,
-- L2, where document 01 has 0), and of others "The shift is 0 for 8-bit components where group 0 bit 30 is clear" (document 01)
unfoldable pub fraction_bits : ℕ → ℕ → ℕ → ℕ → ℕ
fraction_bits k format bit30 shift = cond (eqb k 10) (normal_bits format) (cond (ltb format 2 && eqb bit30 0) 0 shift)

-- where VAT group 0 has bit 30, by which 8-bit components have shifts, and bit 31, by which an indexed normal of nine has three indices
abbrev pub byte_shifts_bit : ℕ
byte_shifts_bit = 64 + 30

abbrev pub three_indices_bit : ℕ
three_indices_bit = 64 + 31

-- the fraction bits of attribute k's components
unfoldable pub fraction_of : Descriptor → ℕ → ℕ
fraction_of d k = fraction_bits k (format_of d k) (bits_at d byte_shifts_bit 2) (bits_at d (place_in shifts k) 32)

-- "An indexed normal has three indices exactly if both its count bit and group 0 bit 31 are set"
unfoldable pub indices_of : Descriptor → ℕ → ℕ
indices_of d k = cond (eqb k 10 && (eqb (count_of d 10) 1 && eqb (bits_at d three_indices_bit 2) 1)) 3 1

-- the mode of a number; no field has more than 3
abbrev pub mode_named : ℕ → Mode
mode_named zero = Absent
mode_named (suc zero) = Direct
mode_named (suc (suc zero)) = Index8
mode_named (suc (suc (suc n))) = Index16

-- the bytes of an index of a mode, 0 where there is none
abbrev pub index_bytes : Mode → ℕ
index_bytes Absent = 0
index_bytes Direct = 0
index_bytes Index8 = 1
index_bytes Index16 = 2

-- all of it
abbrev pub field_of : Descriptor → ℕ → Field
field_of d k = record {
  mode = mode_named (mode_of d k);
  count = count_of d k;
  format = format_of d k;
  fraction = fraction_of d k;
  indices = indices_of d k;
}

-- "VCD bits not named here are kept and ignored": descriptors that differ in such bits alone, above the 17 and the 16 that are named
pub record Alike (d e : Descriptor) : Type 0 where
  pub vcd0_is : d.vcd0 % 2 ^ 17 ≡ e.vcd0 % 2 ^ 17
  pub vcd1_is : d.vcd1 % 2 ^ 16 ≡ e.vcd1 % 2 ^ 16
  pub vat0_is : d.vat0 ≡ e.vat0
  pub vat1_is : d.vat1 ≡ e.vat1
  pub vat2_is : d.vat2 ≡ e.vat2
