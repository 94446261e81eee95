-- "VCD bits not named here are kept and ignored": an attribute's decoding and its raw words rest on its fields and places alone.
use mathlib.Core.Path.{◌≡◌}
use mathlib.Core.List.{List}
use Prim.Native.Nat.{ℕ}
use Rattle.fields.specs.declared.Descriptor.{Descriptor}
use Rattle.fields.specs.Fields.{Alike}
use Rattle.fields.proofs.Ignored.{mode_alike, count_alike, format_alike, fraction_alike, indices_alike}
use Rattle.layout.specs.Sizes.{offset_of}
use Rattle.layout.proofs.Ignored.{offset_alike, refusal_alike}
use Rattle.std.specs.Prelude.{Result}
use Rattle.refusal.specs.declared.Reason.{Reason}
use Rattle.vertex.specs.declared.Attribute.{Attribute}
use Rattle.vertex.specs.declared.RawWords.{RawWords}
use Rattle.vertex.specs.Attributes.{attribute_list, singles_of}
use Rattle.vertex.specs.Answers.{refusal_at, decoding_of, has_components, HasComponent, raw_of, Decodes, RawIs}
use Rattle.vertex.specs.Promises.{DecodingPromises}

module _ (d e : Descriptor) (a : Alike d e) (k : ℕ) (l : List ℕ) where
  pub refusal_same : refusal_at d k l ≡ refusal_at e k l
  unfolding refusal_at
  refusal_same = rw (refusal_alike d e a, offset_alike d e a 21)

  pub attribute_same : attribute_list d k l (offset_of d k) ≡ attribute_list e k l (offset_of e k)
  unfolding attribute_list
  attribute_same =
      rw (
        offset_alike d e a k,
        mode_alike d e a k,
        count_alike d e a k,
        format_alike d e a k,
        fraction_alike d e a k,
        indices_alike d e a k,
      )

  decoding_same : decoding_of d k l ≡ decoding_of e k l
  decoding_same = rw (refusal_same, attribute_same)

  component_same : (i : ℕ) → HasComponent e k l i → HasComponent d k l i
  unfolding has_components
  component_same i h =
      record {
        accepted = rw refusal_same h.accepted;
        direct = rw (mode_alike d e a k) h.direct;
        below = rw (count_alike d e a k) h.below;
      }

  raw_same : (i : ℕ) → raw_of d k l i ≡ raw_of e k l i
  raw_same i = rw (offset_alike d e a k, format_alike d e a k)

  decoded_alike : (r : Result Attribute Reason) → Decodes d k l r → Decodes e k l r
  decoded_alike r t =
      record {
        meaning_is = rw (← decoding_same) t.meaning_is;
        exact =
            λ i h f.
            rw (← raw_same i, ← format_alike d e a k, ← fraction_alike d e a k)
            (t.exact i (component_same i h) (rw (format_alike d e a k) f));
        kept = λ i h f n. rw (← raw_same i) (t.kept i (component_same i h) (rw (format_alike d e a k) f) (rw (raw_same i) n));
        nan_is = λ i h f n. t.nan_is i (component_same i h) (rw (format_alike d e a k) f) (rw (raw_same i) n);
      }

  singles_same : singles_of d k ≡ singles_of e k
  unfolding singles_of
  singles_same = rw (mode_alike d e a k, format_alike d e a k, count_alike d e a k)

  raw_alike : (r : Result RawWords Reason) → RawIs d k l r → RawIs e k l r
  raw_alike r t =
      record {
        answer_is = rw (← refusal_same, ← singles_same, ← offset_alike d e a k) t.answer_is;
      }

pub decoding_promises : DecodingPromises
decoding_promises = record { decoded = decoded_alike; raw = raw_alike }
