-- One attribute of a vertex as ten words, and a whole vertex: what 21 decodes tell, one after the other.
use Rattle.std.specs.Prelude.{◌≡◌, cond, List, [], ◌∷◌, ◌++◌, ℕ, zero, suc, eqb, Result}
use Rattle.refusal.specs.declared.Reason.{Reason}
use Rattle.fields.specs.declared.Descriptor.{Descriptor}
use Rattle.layout.specs.Sizes.{offset_of}
use Rattle.layout.specs.Answers.{meaning}
use Rattle.vertex.specs.Attributes.{attribute_list}
use Rattle.vertex.specs.Answers.{refusal_at}
use Rattle.encoding.specs.Told.{padded}

-- what `decode_one` promises: the refusal, and ten words, or what was lent as it was
pub record DecodesOne (d : Descriptor) (k : ℕ) (l values : List ℕ) (r : Result (Unit {0}) Reason) (values' : List ℕ) : Type 0 where
  pub answer_is : meaning r ≡ refusal_at d k l ∷ []
  pub values_are : values' ≡ cond (eqb (refusal_at d k l) 0) (padded 10 (attribute_list d k l (offset_of d k))) values

-- ten words for each of the first n attributes: the kind and the values, then zeros
unfoldable pub whole_to : Descriptor → List ℕ → ℕ → List ℕ
whole_to d l zero = []
whole_to d l (suc k) = whole_to d l k ++ padded 10 (attribute_list d k l (offset_of d k))

-- a whole vertex is refused as its first attribute is: 9, 10, then 19 where it is not of the layout's length
abbrev pub whole_refusal : Descriptor → List ℕ → ℕ
whole_refusal d l = refusal_at d 0 l

-- what `decode_all` promises: the refusal, and all words, or what was lent as it was
pub record DecodesAll (d : Descriptor) (l values : List ℕ) (r : Result (Unit {0}) Reason) (values' : List ℕ) : Type 0 where
  pub answer_is : meaning r ≡ whole_refusal d l ∷ []
  pub values_are : values' ≡ cond (eqb (whole_refusal d l) 0) (whole_to d l 21) values
