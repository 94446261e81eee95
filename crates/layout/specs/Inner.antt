-- For the code's own functions: nothing here is part of what a layout is.
use Rattle.std.specs.Prelude.{◌≡◌, Bool, false, cond, ℕ, ◌*◌, ◌/◌, ◌%◌, ◌^◌, leb, eqb}
use Rattle.fields.specs.declared.Descriptor.{Descriptor}
use Rattle.layout.specs.declared.parts.Part.{Part}
use Rattle.layout.specs.declared.parts.Fore.{Fore}
use Rattle.layout.specs.declared.parts.Textures.{Textures}
use Rattle.fields.specs.Components.{is_colour}
use Rattle.layout.specs.Sizes.{direct_of, index_width, size_of, any_unknown}

-- entry i of a table of half bytes
abbrev pub half_byte : ℕ → ℕ → ℕ
half_byte table i = table / 2 ^ (4 * i) % 16

-- what an attribute adds by its mode, with so many bytes or so many indices, and in no format or not
pub record PartBy (mode direct indices : ℕ) (none : Bool) (r : Part) : Type 0 where
  pub bytes_are : r.bytes ≡ cond (eqb mode 0) 0 (cond (eqb mode 1) direct (indices * index_width mode))
  pub unknown_is : r.unknown ≡ cond (eqb mode 0) false none

-- what an attribute of number k adds by its fields
abbrev pub WeighedBy : ℕ → ℕ → ℕ → ℕ → ℕ → Part → Type 0
WeighedBy k mode count format indices r = PartBy mode (direct_of k count format) indices (leb (cond (is_colour k) 6 5) format) r

-- the attributes in group 0 of the VAT
pub record ForeOf (d : Descriptor) (r : Fore) : Type 0 where
  pub position_is : r.position ≡ size_of d 9
  pub normal_is : r.normal ≡ size_of d 10
  pub colour0_is : r.colour0 ≡ size_of d 11
  pub colour1_is : r.colour1 ≡ size_of d 12
  pub texture0_is : r.texture0 ≡ size_of d 13
  pub unknown_is : r.unknown ≡ any_unknown d 14

-- the other textures, and whether any attribute is in an unknown format
pub record TexturesOf (d : Descriptor) (r : Textures) : Type 0 where
  pub texture1_is : r.texture1 ≡ size_of d 14
  pub texture2_is : r.texture2 ≡ size_of d 15
  pub texture3_is : r.texture3 ≡ size_of d 16
  pub texture4_is : r.texture4 ≡ size_of d 17
  pub texture5_is : r.texture5 ≡ size_of d 18
  pub texture6_is : r.texture6 ≡ size_of d 19
  pub texture7_is : r.texture7 ≡ size_of d 20
  pub unknown_is : r.unknown ≡ any_unknown d 21
