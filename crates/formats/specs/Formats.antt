-- What the calls on a vertex format answer and leave. Where they are refused, what was lent for the answer is what it was.
use Rattle.std.specs.Prelude.{◌≡◌, cond, List, ◌∷◌, ℕ, eqb, drop}
use Rattle.laws.specs.Values.{up_to}
use Rattle.fields.specs.declared.Descriptor.{Descriptor}
use Rattle.layout.specs.Sizes.{size_of, offset_of}
use Rattle.layout.specs.Answers.{refusal_of}
use Rattle.vertex.specs.Attributes.{singles_of, words_of}
use Rattle.vertex.specs.Answers.{refusal_at, decoding_of}
use Rattle.encoding.specs.Told.{first_of, padded}
use Rattle.whole.specs.Whole.{whole_to, whole_refusal}

-- a vertex laid out: the bytes of each attribute, the sums of those before it, and the length
pub record LaysOut (d : Descriptor) (sizes offsets : List ℕ) (bytes r : ℕ) (sizes' offsets' : List ℕ) (bytes' : ℕ) : Type 0 where
  pub answer_is : r ≡ refusal_of d
  pub sizes_are : sizes' ≡ cond (eqb r 0) (up_to (size_of d) 21) sizes
  pub offsets_are : offsets' ≡ cond (eqb r 0) (up_to (offset_of d) 21) offsets
  pub length_is : bytes' ≡ cond (eqb r 0) (offset_of d 21) bytes

-- an attribute decoded: its kind and values, then zeros. That each component is exact is what `vertex::decode` promises of the same numbers
-- (`Decodes`).
pub record TellsAttribute (d : Descriptor) (k : ℕ) (vertex values : List ℕ) (r : ℕ) (values' : List ℕ) : Type 0 where
  pub answer_is : r ≡ first_of (decoding_of d k vertex)
  pub values_are : values' ≡ cond (eqb r 0) (padded 10 (drop 1 (decoding_of d k vertex))) values

-- a whole vertex decoded: ten words for each attribute, its kind and values, then zeros
pub record TellsAll (d : Descriptor) (vertex values : List ℕ) (r : ℕ) (values' : List ℕ) : Type 0 where
  pub answer_is : r ≡ whole_refusal d vertex
  pub values_are : values' ≡ cond (eqb r 0) (whole_to d vertex 21) values

-- "f32 keeps its bits": how many f32 components an attribute has, and their patterns, then zeros
pub record KeepsBits (d : Descriptor) (k : ℕ) (vertex values : List ℕ) (r : ℕ) (values' : List ℕ) : Type 0 where
  pub answer_is : r ≡ refusal_at d k vertex
  pub values_are : values' ≡ cond (eqb r 0) (singles_of d k ∷ words_of vertex (offset_of d k) (singles_of d k)) values
