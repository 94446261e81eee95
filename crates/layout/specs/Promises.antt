-- What a layout promises besides its contracts, proved as one by `layout_promises` (proofs/Ignored).
-- "VCD bits not named here are kept and ignored". Ignored: of descriptors that differ in such bits alone, what `lay_out`, `measure`
-- and `find` promise of the one they promise of the other; so do `read_field` (fields/Promises), `decode` and `raw_words`
-- (vertex/Promises), `decode_one` and `decode_all` (whole/Promises). Kept: a CP load to a VCD register leaves all 32 bits of its number
-- there, by `kept_of` and `loaded_cp` (effect/Effect), of every address below A0.
use Rattle.std.specs.Prelude.{◌≡◌, ℕ, ◌≤◌, Result}
use Rattle.refusal.specs.declared.Reason.{Reason}
use Rattle.fields.specs.declared.Descriptor.{Descriptor}
use Rattle.layout.specs.declared.Layout.{Layout}
use Rattle.layout.specs.declared.Spot.{Spot}
use Rattle.fields.specs.Fields.{Alike}
use Rattle.layout.specs.Sizes.{size_of, offset_of}
use Rattle.layout.specs.Answers.{refusal_of, largest_vertex, length_of, Laid, Measured, SpotOf}

pub record LayoutPromises : Type 0 where
  -- `lay_out`
  pub laid : (d e : Descriptor) → Alike d e → (r : Result Layout Reason) → Laid d r → Laid e r
  -- `measure`
  pub measured : (d e : Descriptor) → Alike d e → (r : Result ℕ Reason) → Measured d r → Measured e r
  -- `find`
  pub found : (d e : Descriptor) → Alike d e → (k : ℕ) (r : Spot) → SpotOf d k r → SpotOf e k r
  -- the refusal, 9, 10 or none, is the same
  pub refusal_same : (d e : Descriptor) → Alike d e → refusal_of d ≡ refusal_of e
  -- and the length
  pub length_same : (d e : Descriptor) → Alike d e → length_of d ≡ length_of e
  -- and each attribute's bytes
  pub size_same : (d e : Descriptor) → Alike d e → (k : ℕ) → size_of d k ≡ size_of e k
  -- "and the sum of those before it"
  pub offset_same : (d e : Descriptor) → Alike d e → (k : ℕ) → offset_of d k ≡ offset_of e k
  -- "A vertex has 1 to 129 bytes", where its layout is not refused
  pub length_bounds : (d : Descriptor) → refusal_of d ≡ 0 → (1 ≤ length_of d) × (length_of d ≤ largest_vertex)
