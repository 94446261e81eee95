-- What the calls on a format promise, from what the functions that they call promise.
use mathlib.Core.Path.{◌≡◌, refl, sym, ap, ◌∙◌}
use mathlib.Core.Bool.{Bool, true, false, cond}
use mathlib.Core.List.{List, [], ◌∷◌}
use Prim.Native.Nat.{ℕ}
use lib.Dec.{eqb}
use lib.ListN.{drop}
use Rattle.std.specs.Prelude.{Result, Ok, Err}
use Rattle.refusal.specs.Number.{number}
use Rattle.refusal.specs.Outcome.{outcome}
use Rattle.refusal.specs.declared.Reason.{Reason}
use Rattle.fields.specs.declared.Descriptor.{Descriptor}
use Rattle.layout.specs.declared.Layout.{Layout}
use Rattle.layout.specs.Sizes.{offset_of}
use Rattle.layout.specs.Answers.{meaning, refusal_of, Laid}
use Rattle.layout.proofs.Bounds.{length_accepted}
use Rattle.vertex.specs.declared.RawWords.{RawWords}
use Rattle.vertex.specs.Attributes.{attribute_list, singles_of, words_of}
use Rattle.vertex.specs.Answers.{RawIs, refusal_at, unless, decoding_of}
use Rattle.encoding.specs.Told.{first_of, padded}
use Rattle.whole.specs.Whole.{whole_to, whole_refusal, DecodesOne, DecodesAll}
use Rattle.formats.specs.Formats.{LaysOut, TellsAttribute, TellsAll, KeepsBits}
use Rattle.encoding.proofs.Refusals.{stays, stays_number, first_is}

-- ---- a layout

module _ {d : Descriptor} (sizes offsets : List ℕ) (bytes : ℕ) where
  pub layout_refused : (reason : Reason) {r : ℕ} → Laid d (Err reason) → r ≡ number reason
      → LaysOut d sizes offsets bytes r sizes offsets bytes
  layout_refused reason h e =
      record {
        answer_is = e ∙ ap first_of h.answer_is;
        sizes_are = stays reason e _ sizes;
        offsets_are = stays reason e _ offsets;
        length_is = stays_number reason e _ bytes;
      }

  pub layout_done : (l : Layout) → Laid d (Ok l) → LaysOut d sizes offsets bytes 0 l.sizes l.offsets l.length
  layout_done l h =
      let z : 0 ≡ refusal_of d = ap first_of h.answer_is in
      record {
        answer_is = z;
        sizes_are = h.layout_is.sizes_is;
        offsets_are = h.layout_is.offsets_is;
        length_is = h.layout_is.length_is ∙ length_accepted d (sym z);
      }

-- ---- an attribute

-- an answer's first number
first_outcome : {T : Type 0} (a : Result T Reason) → first_of (meaning a) ≡ outcome a
first_outcome (Ok x) = refl
first_outcome (Err r) = refl

-- words of what is accepted, or the old ones
told_by : (b : Bool) (n : ℕ) (l values : List ℕ)
    → cond b (padded 10 l) values ≡ cond b (padded 10 (drop 1 (cond b (0 ∷ l) (n ∷ [])))) values
told_by true n l values = refl
told_by false n l values = refl

module _ {d : Descriptor} {k : ℕ} {vertex values values' : List ℕ} {a : Result (Unit {0}) Reason}
    (h : DecodesOne d k vertex values a values') where
  -- the answer's number is the refusal
  refusal_is : {r : ℕ} → r ≡ outcome a → r ≡ refusal_at d k vertex
  refusal_is e = e ∙ sym (first_outcome a) ∙ ap first_of h.answer_is

  pub one_told : {r : ℕ} → r ≡ outcome a → TellsAttribute d k vertex values r values'
  one_told {r} e =
      let l = attribute_list d k vertex (offset_of d k) in
      let n = refusal_at d k vertex in
      record {
        answer_is = refusal_is e ∙ sym (first_is n l);
        values_are = h.values_are ∙ told_by (eqb n 0) n l values
            ∙ ap (λ (x : ℕ). cond (eqb x 0) (padded 10 (drop 1 (decoding_of d k vertex))) values) (sym (refusal_is e));
      }

-- ---- a whole vertex

module _ {d : Descriptor} {vertex values values' : List ℕ} {a : Result (Unit {0}) Reason} (h : DecodesAll d vertex values a values') where
  -- the answer's number is the refusal
  number_is : {r : ℕ} → r ≡ outcome a → r ≡ whole_refusal d vertex
  number_is e = e ∙ sym (first_outcome a) ∙ ap first_of h.answer_is

  pub all_told : {r : ℕ} → r ≡ outcome a → TellsAll d vertex values r values'
  all_told e = record {
    answer_is = number_is e;
    values_are = h.values_are ∙ ap (λ (n : ℕ). cond (eqb n 0) (whole_to d vertex 21) values) (sym (number_is e));
  }

-- ---- raw words

module _ {d : Descriptor} {k : ℕ} {vertex : List ℕ} (values : List ℕ) where
  pub raw_refused : (reason : Reason) {r : ℕ} → RawIs d k vertex (Err reason) → r ≡ number reason → KeepsBits d k vertex values r values
  raw_refused reason h e =
      record {
        answer_is =
            e ∙ ap first_of h.answer_is
            ∙ first_is (refusal_at d k vertex) (singles_of d k ∷ words_of vertex (offset_of d k) (singles_of d k));
        values_are = stays reason e _ values;
      }

  pub raw_done : (w : RawWords) {values' : List ℕ} → RawIs d k vertex (Ok w) → values' ≡ w.count ∷ w.words
      → KeepsBits d k vertex values 0 values'
  raw_done w h e =
      let z : 0 ≡ refusal_at d k vertex = ap first_of h.answer_is
      ∙ first_is (refusal_at d k vertex) (singles_of d k ∷ words_of vertex (offset_of d k) (singles_of d k)) in
      record {
        answer_is = z;
        values_are =
            e
            ∙ ap (drop 1)
            (h.answer_is ∙ ap (λ (x : ℕ). unless x (singles_of d k ∷ words_of vertex (offset_of d k) (singles_of d k))) (sym z));
      }
