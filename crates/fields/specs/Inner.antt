-- For the code's own functions: nothing here is part of what a field is.
use Rattle.std.specs.Prelude.{cond, ◌&&◌, ℕ, ◌/◌, ◌%◌, ◌^◌, eqb}
use Rattle.fields.specs.declared.Descriptor.{Descriptor}
use Rattle.fields.specs.declared.Vat.{Vat}
use Rattle.fields.specs.Fields.{bits_at, place_in, shifts, count_of, format_of}

-- what the VAT says of attribute k
abbrev pub vat_of : Descriptor → ℕ → Vat
vat_of d k = record { count = count_of d k; format = format_of d k; shift = bits_at d (place_in shifts k) 32 }

-- the indices of a normal by group 0 of the VAT
abbrev pub normal_indices : ℕ → ℕ
normal_indices vat0 = cond (eqb (vat0 / 2 ^ 9 % 2) 1 && eqb (vat0 / 2 ^ 31 % 2) 1) 3 1
