-- The list of the bytes of weighed attributes.
use mathlib.Core.Path.{◌≡◌}
use mathlib.Core.List.{[], ◌∷◌}
use Prim.Native.Nat.{◌/◌, ◌%◌, ◌^◌}
use Rattle.laws.specs.Values.{up_to}
use Rattle.fields.specs.declared.Descriptor.{Descriptor}
use Rattle.layout.specs.declared.parts.Fore.{Fore}
use Rattle.layout.specs.declared.parts.Textures.{Textures}
use Rattle.fields.specs.Fields.{bits_at, modes, mode_of}
use Rattle.layout.specs.Sizes.{size_of}
use Rattle.layout.specs.Inner.{ForeOf, TexturesOf}

-- the bytes of all attributes
pub sizes_are : (d : Descriptor) (fore : Fore) (textures : Textures) → ForeOf d fore → TexturesOf d textures
    → d.vcd0 / 2 ^ 0 % 2 ∷ d.vcd0 / 2 ^ 1 % 2 ∷ d.vcd0 / 2 ^ 2 % 2 ∷ d.vcd0 / 2 ^ 3 % 2 ∷ d.vcd0 / 2 ^ 4 % 2 ∷ d.vcd0 / 2 ^ 5 % 2 ∷
    d.vcd0 / 2 ^ 6 % 2 ∷ d.vcd0 / 2 ^ 7 % 2 ∷ d.vcd0 / 2 ^ 8 % 2
    ∷ fore.position ∷ fore.normal ∷ fore.colour0 ∷ fore.colour1
    ∷ fore.texture0 ∷ textures.texture1 ∷ textures.texture2 ∷ textures.texture3 ∷ textures.texture4 ∷ textures.texture5 ∷ textures.texture6
    ∷ textures.texture7 ∷ []
    ≡ up_to (size_of d) 21
unfolding up_to size_of mode_of bits_at modes
sizes_are d fore textures f t =
    rw (
      f.position_is,
      f.normal_is,
      f.colour0_is,
      f.colour1_is,
      f.texture0_is,
      t.texture1_is,
      t.texture2_is,
      t.texture3_is,
      t.texture4_is,
      t.texture5_is,
      t.texture6_is,
      t.texture7_is,
    )
