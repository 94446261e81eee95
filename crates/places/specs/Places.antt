-- Where each CP register stands among the 60: the registers 3X to 6X, 24 VAT words by format then group, 16 bases, 16 strides.
use Rattle.std.specs.Prelude.{Bool, cond, Option, Some, None, ◌||◌, ℕ, ◌+◌, ◌-◌, ◌*◌, ◌/◌, ◌%◌, ltb, eqb}

-- how many there are
abbrev pub cp_count : ℕ
cp_count = 60

-- how many BP registers there are
abbrev pub bp_count : ℕ
bp_count = 256

-- VCD group 0 or 1: registers 5X and 6X
abbrev pub vcd_place : ℕ → ℕ
vcd_place group = 2 + group

-- VAT group 0, 1 or 2 of a format: registers 70 to 77, 80 to 87, 90 to 97
abbrev pub vat_place : ℕ → ℕ → ℕ
vat_place format group = 4 + 3 * format + group

-- array bases: A0 to AF
abbrev pub base_place : ℕ → ℕ
base_place array = 28 + array

-- array strides: B0 to BF
abbrev pub stride_place : ℕ → ℕ
stride_place array = 44 + array

-- the place of the register that a CP load's address names, cp_count where it names none:
-- "3X, 4X, 5X, 6X: low four bits ignored, one register each. 70 to 77, 80 to 87, 90 to 97: VAT groups 0, 1, 2 of formats 0 to 7.
-- A0 to AF array bases ..; B0 to BF strides"
unfoldable pub cp_place : ℕ → ℕ
cp_place a =
    cond (ltb a 0x30) cp_count
    (cond (ltb a 0x70) (a / 16 - 3)
    (cond (ltb a 0xA0) (cond (ltb (a % 16) 8) (vat_place (a % 16) (a / 16 - 7)) cp_count)
    (cond (ltb a 0xB0) (base_place (a - 0xA0))
    (cond (ltb a 0xC0) (stride_place (a - 0xB0)) cp_count))))

-- that place, none where the address names no register
abbrev pub named_place : ℕ → Option ℕ
named_place a = cond (ltb (cp_place a) cp_count) (Some (cp_place a)) None

-- "20 accepted without effect. Others: 7."
unfoldable pub cp_accepted : ℕ → Bool
cp_accepted a = eqb a 0x20 || ltb (cp_place a) cp_count

-- what an array is for: an attribute, by its place in a vertex (9 position, 10 normal, 11 and 12 colours, 13 to 20 textures),
-- or one of the four indexed loads, 0 to 3
pub data ArrayUse : Type 0 where
  attribute : ℕ → ArrayUse
  indexed_load : ℕ → ArrayUse

-- "Arrays by attribute: 0 position, 1 normal, 2 and 3 colours, 4 to 11 textures, 12 to 15 the indexed loads". Nothing is fetched, so that
-- of all arrays only those of the indexed loads show, in the command and the address that are reported (command/Look `indexed_array`)
abbrev pub array_of : ArrayUse → ℕ
array_of (attribute k) = k - 9
array_of (indexed_load k) = 12 + k
