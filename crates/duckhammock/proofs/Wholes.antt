-- A whole vertex decoded is 21 decodes: refused alike, and told alike ten words at a time.
use mathlib.Core.Path.{◌≡◌, sym, ap, ◌∙◌}
use mathlib.Core.Bool.{cond}
use mathlib.Core.List.{List}
use Prim.Native.Nat.{ℕ, ◌*◌, ◌<◌}
use lib.Dec.{eqb}
use lib.ListN.{take, drop}
use Rattle.fields.specs.declared.Descriptor.{Descriptor}
use Rattle.layout.specs.Sizes.{offset_of}
use Rattle.vertex.specs.Attributes.{attribute_list}
use Rattle.vertex.specs.Answers.{refusal_at, unless}
use Rattle.encoding.specs.Told.{padded}
use Rattle.whole.specs.Whole.{whole_to}
use Rattle.whole.proofs.Tens.{refusal_alike, part_of_whole}
use Rattle.formats.specs.Formats.{TellsAttribute, TellsAll}
use Rattle.duckhammock.specs.Promises.{WholePromises}
use Rattle.encoding.proofs.Refusals.{first_is}

module _ (d : Descriptor) (k : ℕ) (vertex values : List ℕ) (r : ℕ) (values' one : List ℕ) (s : ℕ) (one' : List ℕ) (h : k < 21)
    (t : TellsAll d vertex values r values') (a : TellsAttribute d k vertex one s one') where
  -- the decode's refusal is that of its attribute
  refusal_is : s ≡ refusal_at d k vertex
  refusal_is = a.answer_is ∙ first_is (refusal_at d k vertex) (attribute_list d k vertex (offset_of d k))

  same : r ≡ s
  same = t.answer_is ∙ sym (refusal_alike d k vertex h) ∙ sym refusal_is

  parts : r ≡ 0 → take 10 (drop (10 * k) values') ≡ one'
  parts z =
      let y : s ≡ 0 = sym same ∙ z in
      let x : refusal_at d k vertex ≡ 0 = sym refusal_is ∙ y in
      let whole : values' ≡ whole_to d vertex 21 = t.values_are ∙ ap (λ (n : ℕ). cond (eqb n 0) (whole_to d vertex 21) values) z in
      let told : one' ≡ padded 10 (attribute_list d k vertex (offset_of d k)) =
      a.values_are
      ∙ ap (λ (n : ℕ). cond (eqb n 0)
      (padded 10 (drop 1 (unless (refusal_at d k vertex) (attribute_list d k vertex (offset_of d k))))) one) y
      ∙ ap (λ (n : ℕ). padded 10 (drop 1 (unless n (attribute_list d k vertex (offset_of d k))))) x in
      ap (λ (l : List ℕ). take 10 (drop (10 * k) l)) whole ∙ part_of_whole d vertex k 21 h ∙ sym told

pub promises : WholePromises
promises = record { refused_alike = same; told_alike = parts }
