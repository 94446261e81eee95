-- "VCD bits not named here are kept and ignored": `read_field` ignores them. Proved by `field_promises` (proofs/Ignored); of a layout it is
-- layout/Promises, of decoding vertex/Promises and whole/Promises.
use Rattle.std.specs.Prelude.{◌≡◌, ℕ}
use Rattle.fields.specs.declared.Descriptor.{Descriptor}
use Rattle.fields.specs.Fields.{field_of, Alike}

pub record FieldPromises : Type 0 where
  -- of descriptors that differ in such bits alone, `read_field` answers the same for every attribute
  pub field_same : (d e : Descriptor) → Alike d e → (k : ℕ) → field_of d k ≡ field_of e k
