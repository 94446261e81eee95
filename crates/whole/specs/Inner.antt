-- For the code's own functions: nobody needs to read this to believe the crate.
use Rattle.std.specs.Prelude.{◌≡◌, cond, List, [], ◌∷◌, ◌++◌, ℕ, ◌+◌, ◌*◌, ◌<◌, ◌≤◌, eqb, ltb, take, drop}
use Rattle.laws.specs.Values.{up_to}
use Rattle.octets.specs.BigEndian.{big_endian}
use Rattle.fields.specs.declared.Descriptor.{Descriptor}
use Rattle.fields.specs.declared.Field.{Field}
use Rattle.fields.specs.Fields.{field_of}
use Rattle.layout.specs.Sizes.{offset_of}
use Rattle.vertex.specs.Attributes.{bits_of, attribute_list}
use Rattle.encoding.specs.Told.{padded}
use Rattle.whole.specs.Whole.{whole_to}

-- ten words put from a place on
abbrev pub ten_at : ℕ → List ℕ → List ℕ → List ℕ
ten_at slot words old = take slot old ++ (words ++ drop (slot + 10) old)

-- the kind and the value of a matrix by its bit
abbrev pub matrix_list : ℕ → List ℕ → ℕ → List ℕ
matrix_list bit l at = cond (eqb bit 0) (0 ∷ []) (1 ∷ big_endian l at 1 ∷ [])

-- the bits of the first n components, of 1 to 3, and 0 for the others
abbrev pub three_list : List ℕ → ℕ → ℕ → ℕ → ℕ → List ℕ
three_list l at f s n = bits_of l at f s 0 ∷ cond (ltb n 2) 0 (bits_of l at f s 1) ∷ cond (ltb n 3) 0 (bits_of l at f s 2) ∷ []

-- the kind and the components of a normal of nine
abbrev pub frame_list : List ℕ → ℕ → ℕ → ℕ → List ℕ
frame_list l at f s = 8 ∷ up_to (bits_of l at f s) 9

-- the kind of an attribute of up to three
abbrev pub few_kind : ℕ → ℕ
few_kind k = cond (eqb k 9) 5 (cond (eqb k 10) 7 6)

-- attribute k, which is no matrix, with its field and its place
pub record Placed (d : Descriptor) (field : Field) (k at : ℕ) : Type 0 where
  pub field_is : field ≡ field_of d k
  pub least : 9 ≤ k
  pub most : k < 21
  pub at_is : at ≡ offset_of d k

-- attribute k is told, and the next one's place
pub record ToldAt (d : Descriptor) (k : ℕ) (l : List ℕ) (slot : ℕ) (values : List ℕ) (r : ℕ) (values' : List ℕ) : Type 0 where
  pub next_is : r ≡ offset_of d (k + 1)
  pub told : values' ≡ ten_at slot (padded 10 (attribute_list d k l (offset_of d k))) values

-- the attributes from j to before k are told: where those before j stood over an old content, those before k do
pub record TellsFrom (d : Descriptor) (l : List ℕ) (j k : ℕ) (values : List ℕ) (r : ℕ) (values' : List ℕ) : Type 0 where
  pub at_is : r ≡ offset_of d k
  pub told : (old : List ℕ) → values ≡ whole_to d l j ++ drop (10 * j) old → values' ≡ whole_to d l k ++ drop (10 * k) old
