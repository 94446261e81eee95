-- "VCD bits not named here are kept and ignored": of descriptors that differ in such bits alone, what `decode_one` and `decode_all` promise
-- of the one they promise of the other. Proved as one by `telling_promises` (proofs/Ignored); of the other calls see layout/Promises.
use Rattle.std.specs.Prelude.{List, ℕ, Result}
use Rattle.refusal.specs.declared.Reason.{Reason}
use Rattle.fields.specs.declared.Descriptor.{Descriptor}
use Rattle.fields.specs.Fields.{Alike}
use Rattle.whole.specs.Whole.{DecodesOne, DecodesAll}

pub record TellingPromises : Type 0 where
  -- `decode_one`
  pub told_one : (d e : Descriptor) → Alike d e → (k : ℕ) (l values : List ℕ) (r : Result (Unit {0}) Reason) (values' : List ℕ)
      → DecodesOne d k l values r values' → DecodesOne e k l values r values'
  -- `decode_all`
  pub told_all : (d e : Descriptor) → Alike d e → (l values : List ℕ) (r : Result (Unit {0}) Reason) (values' : List ℕ)
      → DecodesAll d l values r values' → DecodesAll e l values r values'
