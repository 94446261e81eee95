-- The numbers of each answer, and what `locate`, `decode` and `raw_words` promise by them.
use Rattle.std.specs.Prelude.{◌≡◌, Bool, true, not, cond, ◌&&◌, List, [], ◌∷◌, ℕ, ◌+◌, ◌<◌, T, leb, ltb, eqb, length, get_or, Float}
use Rattle.std.specs.Prelude.{Result, Ok, Err}
use Rattle.std.specs.Float.{binary32}
use Rattle.std.specs.Float.Ieee.{fits, to_bits, nan_bits}
use Rattle.refusal.specs.Outcome.{answer_of}
use Rattle.refusal.specs.declared.Reason.{Reason}
use Rattle.component.specs.Single.{Exact}
use Rattle.component.specs.Component.{integer_of}
use Rattle.fields.specs.declared.Descriptor.{Descriptor}
use Rattle.fields.specs.Fields.{mode_of, count_of, format_of, fraction_of}
use Rattle.fields.specs.Components.{is_colour, components_of}
use Rattle.layout.specs.Sizes.{offset_of}
use Rattle.layout.specs.Answers.{refusal_of}
use Rattle.vertex.specs.declared.Triple.{Triple}
use Rattle.vertex.specs.declared.Attribute.{Attribute}
use Rattle.vertex.specs.declared.Attribute.TheVariants.{Absent, Matrix, Index, Indices, Colour, Position, Texture, Normal, Frame}
use Rattle.vertex.specs.declared.RawWords.{RawWords}
use Rattle.vertex.specs.Attributes.{raw_at, attribute_list, singles_of, words_of}

-- a float by its bits: 7FC00000 is the number that this list gives to a NaN; compiled code may hold any NaN pattern
abbrev pub bits : Float → ℕ
bits x = to_bits binary32 x

-- three floats, before more
abbrev pub triple_bits : Triple → List ℕ → List ℕ
triple_bits t rest = bits t.x ∷ bits t.y ∷ bits t.z ∷ rest

-- an attribute's kind and its values
abbrev pub told : Attribute → List ℕ
told Absent = 0 ∷ []
told (Matrix n) = 1 ∷ n ∷ []
told (Index n) = 2 ∷ n ∷ []
told (Indices a b c) = 3 ∷ a ∷ b ∷ c ∷ []
told (Colour n) = 4 ∷ n ∷ []
told (Position t) = 5 ∷ triple_bits t []
told (Texture a b) = 6 ∷ bits a ∷ bits b ∷ []
told (Normal t) = 7 ∷ triple_bits t []
told (Frame u v w) = 8 ∷ triple_bits u (triple_bits v (triple_bits w []))

-- an answer: the refusal's number alone, or 0, the kind and the values
abbrev pub meaning : Result Attribute Reason → List ℕ
meaning = answer_of told

-- raw words: the refusal's number alone, or 0, their count and nine words
abbrev pub raw_meaning : Result RawWords Reason → List ℕ
raw_meaning = answer_of (λ r. r.count ∷ r.words)

-- "attribute number above 20, or vertex slice not of the layout's length", after 9 and 10
unfoldable pub refusal_at : Descriptor → ℕ → List ℕ → ℕ
refusal_at d k l = cond (eqb (refusal_of d) 0) (cond (ltb k 21 && eqb (length l) (offset_of d 21)) 0 19) (refusal_of d)

-- the refusal alone, or 0 and what is accepted
abbrev pub unless : ℕ → List ℕ → List ℕ
unless refusal l = cond (eqb refusal 0) (0 ∷ l) (refusal ∷ [])

-- what attribute k decodes to
abbrev pub decoding_of : Descriptor → ℕ → List ℕ → List ℕ
decoding_of d k l = unless (refusal_at d k l) (attribute_list d k l (offset_of d k))

-- attribute k has components in the vertex
unfoldable pub has_components : Descriptor → ℕ → Bool
has_components d k = leb 9 k && (not (is_colour k) && eqb (mode_of d k) 1)

-- component i of an accepted attribute, in some format
pub record HasComponent (d : Descriptor) (k : ℕ) (l : List ℕ) (i : ℕ) : Type 0 where
  pub accepted : refusal_at d k l ≡ 0
  pub direct : has_components d k ≡ true
  pub below : i < components_of k (count_of d k)

-- the raw number of component i of attribute k, as it stands in the vertex
abbrev pub raw_of : Descriptor → ℕ → List ℕ → ℕ → ℕ
raw_of d k l i = raw_at l (offset_of d k) (format_of d k) i

-- what `decode` promises: which answer it is;
-- that each component of an integer format is exactly its integer over 2 to the fraction bits;
-- that each f32 keeps its pattern, and is a NaN where that is one's
pub record Decodes (d : Descriptor) (k : ℕ) (l : List ℕ) (r : Result Attribute Reason) : Type 0 where
  pub meaning_is : meaning r ≡ decoding_of d k l
  pub exact : (i : ℕ) → HasComponent d k l i → format_of d k < 4
      → Exact (integer_of (format_of d k) (raw_of d k l i)) (fraction_of d k) (get_or (meaning r) (2 + i) 0)
  pub kept : (i : ℕ) → HasComponent d k l i → format_of d k ≡ 4 → T (not (nan_bits binary32 (raw_of d k l i)))
      → get_or (meaning r) (2 + i) 0 ≡ raw_of d k l i
  pub nan_is : (i : ℕ) → HasComponent d k l i → format_of d k ≡ 4 → T (nan_bits binary32 (raw_of d k l i))
      → get_or (meaning r) (2 + i) 0 ≡ 0x7FC00000

-- what `raw_words` promises: the refusal, or how many f32 components there are, and nine words
pub record RawIs (d : Descriptor) (k : ℕ) (l : List ℕ) (r : Result RawWords Reason) : Type 0 where
  pub answer_is : raw_meaning r ≡ unless (refusal_at d k l) (singles_of d k ∷ words_of l (offset_of d k) (singles_of d k))

-- three floats of single precision
pub record SingleTriple (t : Triple) : Type 0 where
  pub of_x : T (fits binary32 t.x)
  pub of_y : T (fits binary32 t.y)
  pub of_z : T (fits binary32 t.z)

-- all floats of an attribute are of single precision, as those that a program holds are
abbrev pub SingleAttribute : Attribute → Type 0
SingleAttribute Absent = Unit {0}
SingleAttribute (Matrix n) = Unit {0}
SingleAttribute (Index n) = Unit {0}
SingleAttribute (Indices a b c) = Unit {0}
SingleAttribute (Colour n) = Unit {0}
SingleAttribute (Position t) = SingleTriple t
SingleAttribute (Texture a b) = T (fits binary32 a) × T (fits binary32 b)
SingleAttribute (Normal t) = SingleTriple t
SingleAttribute (Frame u v w) = SingleTriple u × SingleTriple v × SingleTriple w

-- and of an answer
abbrev pub SingleAnswer : Result Attribute Reason → Type 0
SingleAnswer (Ok a) = SingleAttribute a
SingleAnswer (Err r) = Unit {0}

-- ---- for the code's own functions

-- a place: the refusal's number alone, or 0 and the place
abbrev pub located : Result ℕ Reason → List ℕ
located = answer_of (λ n. n ∷ [])

-- where attribute k starts
abbrev pub location_of : Descriptor → ℕ → List ℕ → List ℕ
location_of d k l = unless (refusal_at d k l) (offset_of d k ∷ [])
