-- "VCD bits not named here are kept and ignored": of descriptors that differ in such bits alone, what `decode` and `raw_words` promise of
-- the one they promise of the other. Proved as one by `decoding_promises` (proofs/Ignored); of the layout it is layout/Promises.
use Rattle.std.specs.Prelude.{ℕ, List, Result}
use Rattle.refusal.specs.declared.Reason.{Reason}
use Rattle.fields.specs.declared.Descriptor.{Descriptor}
use Rattle.fields.specs.Fields.{Alike}
use Rattle.vertex.specs.declared.Attribute.{Attribute}
use Rattle.vertex.specs.declared.RawWords.{RawWords}
use Rattle.vertex.specs.Answers.{Decodes, RawIs}

pub record DecodingPromises : Type 0 where
  -- `decode`
  pub decoded : (d e : Descriptor) → Alike d e → (k : ℕ) (l : List ℕ) (r : Result Attribute Reason) → Decodes d k l r → Decodes e k l r
  -- `raw_words`
  pub raw : (d e : Descriptor) → Alike d e → (k : ℕ) (l : List ℕ) (r : Result RawWords Reason) → RawIs d k l r → RawIs e k l r
