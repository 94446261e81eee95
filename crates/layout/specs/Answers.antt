-- What a layout is: refused by 9, then 10, or its length, sizes and sums.
use Rattle.std.specs.Prelude.{◌≡◌, Bool, cond, List, [], ◌∷◌, ℕ, min, eqb, Result, IfOk}
use Rattle.laws.specs.Values.{up_to}
use Rattle.refusal.specs.Outcome.{answer_of}
use Rattle.refusal.specs.declared.Reason.{Reason}
use Rattle.fields.specs.declared.Descriptor.{Descriptor}
use Rattle.layout.specs.declared.Layout.{Layout}
use Rattle.layout.specs.declared.Spot.{Spot}
use Rattle.fields.specs.Fields.{mode_of}
use Rattle.layout.specs.Sizes.{size_of, offset_of, any_unknown}

-- the numbers of a layout's answer: the refusal's alone, or 0
abbrev pub meaning : {T : Type 0} → Result T Reason → List ℕ
meaning = answer_of (λ _. [])

-- "position absent" is 9, then an unknown format 10; 0 where neither is found
unfoldable pub refusal_of : Descriptor → ℕ
refusal_of d = cond (eqb (mode_of d 9) 0) 9 (cond (any_unknown d 21) 10 0)

-- no refusal
abbrev pub accepted_of : Descriptor → Bool
accepted_of d = eqb (refusal_of d) 0

-- the most of "A vertex has 1 to 129 bytes"
abbrev pub largest_vertex : ℕ
largest_vertex = 129

-- "A layout gives this length"; 0 where it is refused
unfoldable pub length_of : Descriptor → ℕ
length_of d = cond (accepted_of d) (offset_of d 21) 0

-- a layout by its three parts: the length, the sizes and the sums
pub record LaidAs (length : ℕ) (sizes offsets : List ℕ) (r : Layout) : Type 0 where
  pub length_is : r.length ≡ length
  pub sizes_is : r.sizes ≡ sizes
  pub offsets_is : r.offsets ≡ offsets

-- what `lay_out` promises: the refusal, or the length, the bytes of each attribute and the sums of those before it
pub record Laid (d : Descriptor) (r : Result Layout Reason) : Type 0 where
  pub answer_is : meaning r ≡ refusal_of d ∷ []
  pub layout_is : IfOk r (LaidAs (length_of d) (up_to (size_of d) 21) (up_to (offset_of d) 21))

-- what `measure` promises: the answer and the length of the layout
pub record Measured (d : Descriptor) (r : Result ℕ Reason) : Type 0 where
  pub answer_is : meaning r ≡ refusal_of d ∷ []
  pub length_is : IfOk r (λ n. n ≡ length_of d)

-- what `find` promises: the answer and the length of the layout, and the sum of those before attribute k, of all 21 where k is above 20,
-- refused or not
pub record SpotOf (d : Descriptor) (k : ℕ) (r : Spot) : Type 0 where
  pub answer_is : meaning r.length ≡ refusal_of d ∷ []
  pub length_is : IfOk r.length (λ n. n ≡ length_of d)
  pub offset_is : r.offset ≡ offset_of d (min k 21)
