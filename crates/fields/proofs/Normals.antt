-- "They apply whatever bit 30 says" (document 02, L2): the fraction bits of a normal go by its format alone.
use mathlib.Core.Path.{◌≡◌, refl}
use Rattle.fields.specs.declared.Descriptor.{Descriptor}
use Rattle.fields.specs.Fields.{format_of, normal_bits, fraction_bits, fraction_of}

pub normal_fixed : (d : Descriptor) → fraction_of d 10 ≡ normal_bits (format_of d 10)
unfolding fraction_of fraction_bits
normal_fixed d = refl
