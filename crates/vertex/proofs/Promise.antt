-- Which answer it is gives all that `decode` promises: where each component stands in the answer's numbers, and what is known of it
-- there.
use mathlib.Core.Path.{◌≡◌, refl, sym, ap, ◌∙◌, subst}
use mathlib.Core.Bool.{true, false, not, ◌&&◌}
use mathlib.Core.List.{List, ◌∷◌}
use Prim.Native.Nat.{ℕ, suc, ◌+◌, ◌-◌, ◌*◌, ◌<◌, ◌≤◌}
use native.Mathlib.Nat.{mod-eq_of_lt}
use native.Mathlib.Omega.{arith}
use lib.Dec.{T, leb, eqb}
use lib.ListN.{get_or, replicate, get_or-append}
use lib.Ieee.{Float, nan, binary32, to_bits, nan_bits}
use borrow.Author.Tests.{leb-true, eqb-true, not-true}
use Rattle.std.proofs.lemmas.Bool.{and_parts}
use Rattle.laws.specs.Values.{up_to}
use Rattle.laws.proofs.Filled.{length_up_to, get_d_up_to}
use Rattle.octets.proofs.Number.{Octets, big_lt}
use Rattle.component.specs.Single.{Exact}
use Rattle.component.specs.Component.{width_of, pattern_of, integer_of, Decoded}
use Rattle.component.proofs.Patterns.{component_exact, decoded}
use Rattle.fields.specs.declared.Descriptor.{Descriptor}
use Rattle.fields.specs.Fields.{mode_of, count_of, format_of, fraction_of}
use Rattle.fields.specs.Components.{is_colour, components_of}
use Rattle.layout.specs.Sizes.{offset_of}
use Rattle.fields.proofs.Bounds.{fraction_lt}
use Rattle.std.specs.Prelude.{Result}
use Rattle.refusal.specs.declared.Reason.{Reason}
use Rattle.vertex.specs.declared.Attribute.{Attribute}
use Rattle.vertex.specs.Attributes.{raw_at, component_at, bits_of, padded_list, kind_of, full_of, component_list, attribute_list}
use Rattle.vertex.specs.Answers.{meaning, refusal_at, decoding_of, has_components, raw_of, HasComponent, Decodes}
use Rattle.vertex.proofs.Lists.{attribute_direct, direct_other}
use Rattle.vertex.proofs.Refusals.{unless_accepted}

-- component i of n stands at i
padded_at : (l : List ℕ) (at f s n full i : ℕ) → i < n → get_or (padded_list l at f s n full) i 0 ≡ bits_of l at f s i
unfolding padded_list
padded_at l at f s n full i h =
    get_or-append (up_to (bits_of l at f s) n) (replicate (full - n) 0) 0 i
    (subst (λ (x : ℕ). i < x) (sym (length_up_to (bits_of l at f s) n)) h)
    ∙ get_d_up_to (bits_of l at f s) n i h

-- and in the answer after 0 and the kind
third : (a b : ℕ) (l : List ℕ) (i : ℕ) → get_or (a ∷ b ∷ l) (2 + i) 0 ≡ get_or l i 0
third a b l i = ap (λ (n : ℕ). get_or (a ∷ b ∷ l) n 0) two
  where
    two : 2 + i ≡ suc (suc i)
    two = omega arith

list_at : (l : List ℕ) (at k count f s i : ℕ) → i < components_of k count → get_or (0 ∷ component_list l at k count f s)
    (2 + i) 0 ≡ bits_of l at f s i
unfolding component_list
list_at l at k count f s i h =
    third 0 (kind_of k count) (padded_list l at f s (components_of k count) (full_of k count)) i
    ∙ padded_at l at f s (components_of k count)
    (full_of k count) i h

module _ (d : Descriptor) (k : ℕ) (l : List ℕ) where
  direct_list_lem : has_components d k ≡ true → attribute_list d k l (offset_of d k) ≡ component_list l (offset_of d k) k (count_of d k)
      (format_of d k) (fraction_of d k)
  unfolding has_components
  direct_list_lem e =
      let both = (and_parts (leb 9 k) (not (is_colour k) && eqb (mode_of d k) 1) e).1 in
      let other : is_colour k ≡ false = not-true (is_colour k) (and_parts (not (is_colour k)) (eqb (mode_of d k) 1) both).0 in
      attribute_direct d k l (offset_of d k) (leb-true 9 k (and_parts (leb 9 k) (not (is_colour k) && eqb (mode_of d k) 1) e).0)
      (eqb-true (mode_of d k) 1 (and_parts (not (is_colour k)) (eqb (mode_of d k) 1) both).1)
      ∙ sym (direct_other l (offset_of d k) k (count_of d k) (format_of d k) (fraction_of d k) other)

  abbrev bits_at : ℕ → ℕ
  bits_at i = bits_of l (offset_of d k) (format_of d k) (fraction_of d k) i

  -- where component i stands
  pub component_bits : (i : ℕ) → HasComponent d k l i → get_or (decoding_of d k l) (2 + i) 0 ≡ bits_at i
  component_bits i h =
      ap (λ (x : List ℕ). get_or x (2 + i) 0)
      (sym (unless_accepted (refusal_at d k l) (attribute_list d k l (offset_of d k)) h.accepted) ∙ ap (λ (x : List ℕ). 0 ∷ x)
      (direct_list_lem h.direct))
      ∙ list_at l (offset_of d k) k (count_of d k) (format_of d k) (fraction_of d k) i h.below

  -- an integer component is exact
  pub bits_exact : (i : ℕ) → format_of d k < 4 → Exact (integer_of (format_of d k) (raw_of d k l i)) (fraction_of d k) (bits_at i)
  unfolding component_at
  bits_exact i h =
      subst (λ (s : ℕ). Exact (integer_of (format_of d k) (raw_of d k l i)) s (bits_at i)) (mod-eq_of_lt (fraction_lt d k))
      (component_exact (format_of d k) (raw_of d k l i) (fraction_of d k) h)

  -- four bytes are a pattern of 32 bits
  whole : Octets l → (i : ℕ) → format_of d k ≡ 4 → pattern_of (format_of d k) (raw_of d k l i) ≡ raw_of d k l i
  unfolding raw_at
  whole b i e = mod-eq_of_lt (big_lt l (offset_of d k + i * width_of (format_of d k)) b (width_of (format_of d k)))

  -- all that is known of a component
  known : (i : ℕ) → Decoded (format_of d k) (raw_of d k l i) (fraction_of d k)
      (component_at l (offset_of d k) (format_of d k) (fraction_of d k) i)
  unfolding component_at
  known i = decoded (format_of d k) (raw_of d k l i) (fraction_of d k) refl

-- a NaN by its bits
nan_bits_lem : to_bits binary32 nan ≡ 0x7FC00000
unfolding to_bits
nan_bits_lem = refl

-- the promise, from the answer's numbers alone
pub decodes : (d : Descriptor) (k : ℕ) (l : List ℕ) (r : Result Attribute Reason) → Octets l → meaning r ≡ decoding_of d k l
    → Decodes d k l r
decodes d k l r b e = record {
  meaning_is = e;
  exact = λ i h f. subst (λ (x : ℕ). Exact (integer_of (format_of d k) (raw_of d k l i)) (fraction_of d k) x) (sym (stands i h))
      (bits_exact d k l i f);
  kept = λ i h f n. stands i h ∙ (known d k l i).kept (four f) (subst (λ (x : ℕ). T (not (nan_bits binary32 x)))
      (sym (whole d k l b i f)) n) ∙ whole d k l b i f;
  nan_is = λ i h f n. stands i h ∙ ap (λ (x : Float). to_bits binary32 x)
      ((known d k l i).nan_is (four f) (subst (λ (x : ℕ). T (nan_bits binary32 x)) (sym (whole d k l b i f)) n)) ∙ nan_bits_lem;
}
  where
    stands : (i : ℕ) → HasComponent d k l i → get_or (meaning r) (2 + i) 0 ≡ bits_of l (offset_of d k) (format_of d k) (fraction_of d k) i
    stands i h = ap (λ (x : List ℕ). get_or x (2 + i) 0) e ∙ component_bits d k l i h

    four : format_of d k ≡ 4 → 4 ≤ format_of d k
    four f = omega arith
