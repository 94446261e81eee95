-- What one attribute's words are, by its mode: each way to tell it moves on to the next.
use mathlib.Core.Path.{◌≡◌, refl, sym, ap, ◌∙◌}
use mathlib.Core.Bool.{true, false}
use mathlib.Core.List.{List, [], ◌∷◌, ◌++◌, append-nil}
use Prim.Native.Nat.{ℕ, zero, suc, ◌+◌, ◌-◌, ◌*◌, ◌<◌, ◌≤◌}
use native.Mathlib.Nat.{le_of_eq}
use native.Mathlib.Omega.{arith}
use lib.Dec.{lit≤}
use lib.ListN.{replicate, length, take, drop_of_length-le}
use borrow.Author.Tests.{lt-ltb}
use Rattle.fields.specs.declared.Descriptor.{Descriptor}
use Rattle.fields.specs.declared.Field.{Field}
use Rattle.fields.specs.declared.Mode.TheVariants.{Absent, Direct}
use Rattle.fields.specs.Fields.{mode_of, mode_named, index_bytes, count_of, format_of, fraction_of, indices_of}
use Rattle.fields.proofs.Named.{absent_is, direct_is, width_is}
use Rattle.component.specs.Component.{width_of}
use Rattle.fields.specs.Components.{is_colour, components_of, colour_width}
use Rattle.layout.specs.Sizes.{direct_of, size_of, offset_of}
use Rattle.layout.proofs.Tests.{size_matrix, size_direct, size_indexed}
use Rattle.fields.proofs.Bounds.{mode_le, indices_some}
use Rattle.layout.proofs.Bounds.{offset_le, room}
use Rattle.vertex.specs.Attributes.{direct_list, index_list, attribute_list}
use Rattle.vertex.proofs.Lists.{attribute_absent, attribute_direct, attribute_indexed}
use Rattle.encoding.specs.Told.{padded}
use Rattle.whole.specs.Inner.{ten_at, matrix_list, Placed, TellsFrom}
use Rattle.whole.proofs.Tens.{tells_ten, moves_told}

-- a colour has at least two bytes
colour_some : (f : ℕ) → 1 ≤ colour_width f
colour_some zero = lit≤ tt
colour_some (suc zero) = lit≤ tt
colour_some (suc (suc zero)) = lit≤ tt
colour_some (suc (suc (suc zero))) = lit≤ tt
colour_some (suc (suc (suc (suc zero)))) = lit≤ tt
colour_some (suc (suc (suc (suc (suc f))))) = lit≤ tt

pub colour_room : (at k count f n most : ℕ) → is_colour k ≡ true → n ≡ colour_width f → at + direct_of k count f ≤ most
    → (1 ≤ n) × (at + n ≤ most)
unfolding direct_of
colour_room at k count f n most o e h = rw e (colour_some f, rw o at h)

-- components of a direct attribute that is no colour
pub direct_many : (at k count f n most : ℕ) → is_colour k ≡ false → n ≡ components_of k count → at + direct_of k count f ≤ most
    → at + n * width_of f ≤ most
unfolding direct_of
direct_many at k count f n most o e h = rw e (rw o at h)

module _ {d : Descriptor} {field : Field} {k : ℕ} {at : ℕ} (u : Placed d field k at) where
  mode_is : field.mode ≡ mode_named (mode_of d k)
  mode_is = ap (λ (f : Field). f.mode) u.field_is

  -- no place is past 129
  pub at_le : at ≤ 129
  at_le = omega (arith, u.at_is, offset_le d k (omega (arith, u.most)))

  pub direct_mode : field.mode ≡ Direct → mode_of d k ≡ 1
  direct_mode m = direct_is (mode_of d k) (sym mode_is ∙ m)

  pub some_mode : (field.mode ≡ Absent → ⊥) → mode_of d k ≡ 0 → ⊥
  some_mode z e = z (mode_is ∙ ap mode_named e)

  pub other_mode : (field.mode ≡ Direct → ⊥) → mode_of d k ≡ 1 → ⊥
  other_mode o e = o (mode_is ∙ ap mode_named e)

  -- the bytes of an index
  pub width_of_index : index_bytes field.mode ≡ mode_of d k - 1
  width_of_index = ap index_bytes mode_is ∙ width_is (mode_of d k) (mode_le d k)

  -- where there is one it has a byte or two
  pub index_some : (field.mode ≡ Absent → ⊥) → (field.mode ≡ Direct → ⊥) → (1 ≤ index_bytes field.mode) × (index_bytes field.mode ≤ 2)
  index_some z o =
      let zero : mode_of d k ≡ 0 → ⊥ = some_mode z in
      let one : mode_of d k ≡ 1 → ⊥ = other_mode o in
      (omega (arith, width_of_index), omega (arith, width_of_index, mode_le d k))

  pub some_index : 1 ≤ field.indices
  some_index = omega (arith, ap (λ (f : Field). f.indices) u.field_is, indices_some d k)

  -- the bytes of indices
  pub indexed_size : (field.mode ≡ Absent → ⊥) → (field.mode ≡ Direct → ⊥) → field.indices * index_bytes field.mode ≡ size_of d k
  indexed_size z o =
      ap (λ (n : ℕ). field.indices * n) width_of_index
      ∙ ap (λ (f : Field). f.indices * (mode_of d k - 1)) u.field_is
      ∙ sym (size_indexed d k u.least (some_mode z) (other_mode o))

  -- the bytes of a direct attribute
  pub direct_size : field.mode ≡ Direct → direct_of k field.count field.format ≡ size_of d k
  direct_size m =
      ap (λ (f : Field). direct_of k f.count f.format) u.field_is ∙ sym (size_direct d k u.least (direct_mode m))

  -- they lie within the vertex
  pub within : (l : List ℕ) (n : ℕ) → length l ≡ offset_of d 21 → n ≡ size_of d k → at + n ≤ length l
  within l n w e = omega (arith, e, room d k u.most, u.at_is, w)

  module _ (l : List ℕ) where
    pub absent_told : field.mode ≡ Absent → replicate 10 0 ≡ padded 10 (attribute_list d k l (offset_of d k))
    absent_told m =
        ap (λ (x : List ℕ). padded 10 x) (sym (attribute_absent d k l (offset_of d k) (absent_is (mode_of d k) (sym mode_is ∙ m))))

    pub direct_told : field.mode ≡ Direct
        → padded 10 (direct_list l at k field.count field.format field.fraction) ≡ padded 10 (attribute_list d k l (offset_of d k))
    direct_told m =
        ap (λ (f : Field). padded 10 (direct_list l at k f.count f.format f.fraction)) u.field_is
        ∙ ap (λ (x : ℕ). padded 10 (direct_list l x k (count_of d k) (format_of d k) (fraction_of d k))) u.at_is
        ∙ ap (λ (x : List ℕ). padded 10 x) (sym (attribute_direct d k l (offset_of d k) u.least (direct_mode m)))

    pub indexed_told : (field.mode ≡ Absent → ⊥) → (field.mode ≡ Direct → ⊥)
        → padded 10 (index_list l at field.indices (index_bytes field.mode)) ≡ padded 10 (attribute_list d k l (offset_of d k))
    indexed_told z o =
        ap (λ (n : ℕ). padded 10 (index_list l at field.indices n)) width_of_index
        ∙ ap (λ (f : Field). padded 10 (index_list l at f.indices (mode_of d k - 1))) u.field_is
        ∙ ap (λ (x : ℕ). padded 10 (index_list l x (indices_of d k) (mode_of d k - 1))) u.at_is
        ∙ ap (λ (x : List ℕ). padded 10 x) (sym (attribute_indexed d k l (offset_of d k) (some_mode z) u.least (other_mode o)))

-- a matrix by its bit
pub matrix_list_lem : (d : Descriptor) (l : List ℕ) (k at bit : ℕ) {words : List ℕ} → k < 9 → at ≡ offset_of d k → bit ≡ mode_of d k
    → words ≡ padded 10 (matrix_list bit l at) → words ≡ padded 10 (attribute_list d k l (offset_of d k))
unfolding attribute_list
matrix_list_lem d l k at bit h e b w = w ∙ rw (b, e, lt-ltb k 9 h)

-- and told
pub matrix_told : (d : Descriptor) (l : List ℕ) (k : ℕ) (values words : List ℕ) (at bit : ℕ) {values' : List ℕ} → k < 9
    → at ≡ offset_of d k → bit ≡ mode_of d k → words ≡ padded 10 (matrix_list bit l at)
    → values' ≡ ten_at (10 * k) words values → TellsFrom d l k (k + 1) values (at + bit) values'
matrix_told d l k values words at bit h e b w v =
    moves_told d l k
    (tells_ten d l k (10 * k) values words at bit _ e
    (matrix_list_lem d l k at bit h e b w ∙ ap (λ (x : ℕ). padded 10 (attribute_list d k l x)) (sym e)) (b ∙ sym (size_matrix d k h))
    refl v)

-- ten words in all
pub ten_only : (words values : List ℕ) → length values ≡ 10 → ten_at 0 words values ≡ words
ten_only words values h =
    ap (λ (x : List ℕ). take 0 values ++ (words ++ x)) (drop_of_length-le values {i = 10} (le_of_eq h))
    ∙ ap (λ (x : List ℕ). take 0 values ++ x) (append-nil words) ∙ none values
  where
    none : (v : List ℕ) → take 0 v ++ words ≡ words
    none [] = refl
    none (x ∷ v) = refl
