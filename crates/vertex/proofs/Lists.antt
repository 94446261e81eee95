-- What the definitions say at each branch of the code.
use mathlib.Core.Path.{◌≡◌, refl, ap, ◌∙◌}
use mathlib.Core.Bool.{Bool, true, false, cond, not}
use mathlib.Core.List.{List, [], ◌∷◌, ◌++◌}
use Prim.Native.Nat.{ℕ, zero, suc, ◌+◌, ◌-◌, ◌*◌, ◌%◌, ◌<◌, ◌≤◌}
use native.Mathlib.Nat.{mod-lt}
use native.Mathlib.Omega.{arith}
use lib.Dec.{eqb, lit<}
use lib.ListN.{replicate}
use lib.Ieee.{Float, binary32, of_bits, to_bits, nan_bits}
use borrow.Author.Tests.{eq-eqb, ne_eqb, lt-ltb, le-ltb}
use Rattle.laws.specs.Values.{up_to}
use Rattle.octets.specs.BigEndian.{big_endian, at_most_four}
use Rattle.octets.proofs.AtMostFour.{at_most_four_lem}
use Rattle.component.specs.Component.{width_of, component_of}
use Rattle.component.proofs.Widths.{width_le}
use Rattle.component.proofs.Patterns.{kept_bits}
use Rattle.fields.specs.declared.Descriptor.{Descriptor}
use Rattle.fields.specs.Fields.{mode_of, count_of, format_of, fraction_of, indices_of}
use Rattle.fields.specs.Components.{is_colour, components_of, colour_width}
use Rattle.vertex.specs.declared.Triple.{Triple}
use Rattle.vertex.specs.Attributes.{raw_at, component_at, bits_of, triple_at, position_at, padded_list, component_list, direct_list}
use Rattle.vertex.specs.Attributes.{index_list, attribute_list, singles_of}
use Rattle.vertex.specs.Answers.{triple_bits}

-- ---- one component
pub component_is : (l : List ℕ) (at f s i w raw : ℕ) {r : Float} → w ≡ width_of f → raw ≡ big_endian l (at + i * w) (at_most_four w)
    → r ≡ component_of f raw s → r ≡ component_at l at f s i
unfolding component_at raw_at
component_is l at f s i w raw {r} p q e =
    e ∙ ap (λ (x : ℕ). component_of f x s)
    (q ∙ ap (λ (x : ℕ). big_endian l (at + i * x) (at_most_four x)) p ∙ ap (λ (x : ℕ). big_endian l (at + i * width_of f) x)
    (at_most_four_lem (width_of f) (width_le f)))

-- +0 by its bits
pub zero_bits : to_bits binary32 (of_bits binary32 0) ≡ 0
unfolding nan_bits
zero_bits = kept_bits 0 (lit< tt) tt

-- ---- lists of components, by the count bit
module _ (l : List ℕ) (at f s : ℕ) where
  abbrev part : ℕ → ℕ
  part i = bits_of l at f s i

  position_by : (c : ℕ) → c < 2
      → part 0 ∷ part 1 ∷ to_bits binary32 (cond (eqb c 0) (of_bits binary32 0) (component_at l at f s 2)) ∷ []
      ≡ up_to (bits_of l at f s) (2 + c) ++ replicate (3 - (2 + c)) 0
  unfolding up_to
  position_by zero h = ap (λ (x : ℕ). part 0 ∷ part 1 ∷ x ∷ []) zero_bits
  position_by (suc zero) h = refl
  position_by (suc (suc n)) h = absurd (omega arith)

  pub position_told : (count : ℕ) → 5 ∷ triple_bits (position_at l at count f s) [] ≡ component_list l at 9 count f s
  unfolding component_list padded_list
  position_told count = ap (λ (x : List ℕ). 5 ∷ x) (position_by (count % 2) (mod-lt count (lit< tt)))

  -- components of a normal
  normal_by : (c : ℕ) → c ≡ 0 → 7 ∷ triple_bits (triple_at l at f s 0) []
      ≡ (7 + c) ∷ (up_to (bits_of l at f s) (3 + 6 * c) ++ replicate (3 + 6 * c - (3 + 6 * c)) 0)
  unfolding up_to
  normal_by zero e = refl
  normal_by (suc n) e = absurd (omega arith)

  frame_by : (c : ℕ) → c < 2 → (c ≡ 0 → ⊥) → 8 ∷ triple_bits (triple_at l at f s 0)
      (triple_bits (triple_at l at f s 3) (triple_bits (triple_at l at f s 6) []))
      ≡ (7 + c) ∷ (up_to (bits_of l at f s) (3 + 6 * c) ++ replicate (3 + 6 * c - (3 + 6 * c)) 0)
  unfolding up_to
  frame_by zero h z = absurd (z refl)
  frame_by (suc zero) h z = refl
  frame_by (suc (suc n)) h z = absurd (omega arith)

  pub normal_told : (count : ℕ) (u : Triple) → count % 2 ≡ 0 → u ≡ triple_at l at f s 0
      → 7 ∷ triple_bits u [] ≡ component_list l at 10 count f s
  unfolding component_list padded_list
  normal_told count u e p = ap (λ (x : Triple). 7 ∷ triple_bits x []) p ∙ normal_by (count % 2) e

  pub frame_told : (count : ℕ) (u v w : Triple) → (count % 2 ≡ 0 → ⊥) → u ≡ triple_at l at f s 0 → v ≡ triple_at l at f s 3
      → w ≡ triple_at l at f s 6
      → 8 ∷ triple_bits u (triple_bits v (triple_bits w [])) ≡ component_list l at 10 count f s
  unfolding component_list padded_list
  frame_told count u v w z p q r =
      ap (λ (x : Triple). 8 ∷ triple_bits x (triple_bits v (triple_bits w []))) p
      ∙ ap (λ (x : Triple). 8 ∷ triple_bits (triple_at l at f s 0) (triple_bits x (triple_bits w []))) q
      ∙ ap (λ (x : Triple). 8 ∷ triple_bits (triple_at l at f s 0) (triple_bits (triple_at l at f s 3) (triple_bits x []))) r
      ∙ frame_by (count % 2) (mod-lt count (lit< tt)) z

  -- components of a texture
  one_by : (c : ℕ) → c ≡ 0 → part 0 ∷ to_bits binary32 (of_bits binary32 0) ∷ [] ≡ up_to (bits_of l at f s) (1 + c) ++ replicate
      (2 - (1 + c)) 0
  unfolding up_to
  one_by zero e = ap (λ (x : ℕ). part 0 ∷ x ∷ []) zero_bits
  one_by (suc n) e = absurd (omega arith)

  two_by : (c : ℕ) → c < 2 → (c ≡ 0 → ⊥) → part 0 ∷ part 1 ∷ [] ≡ up_to (bits_of l at f s) (1 + c) ++ replicate (2 - (1 + c)) 0
  unfolding up_to
  two_by zero h z = absurd (z refl)
  two_by (suc zero) h z = refl
  two_by (suc (suc n)) h z = absurd (omega arith)

  pub one_told : (count : ℕ) (x : Float) → count % 2 ≡ 0 → x ≡ component_at l at f s 0
      → 6 ∷ to_bits binary32 x ∷ to_bits binary32 (of_bits binary32 0) ∷ [] ≡ component_list l at 13 count f s
  unfolding component_list padded_list
  one_told count x e p =
      ap (λ (y : Float). 6 ∷ to_bits binary32 y ∷ to_bits binary32 (of_bits binary32 0) ∷ []) p ∙ ap (λ (y : List ℕ). 6 ∷ y)
      (one_by (count % 2) e)

  pub two_told : (count : ℕ) (x y : Float) → (count % 2 ≡ 0 → ⊥) → x ≡ component_at l at f s 0 → y ≡ component_at l at f s 1
      → 6 ∷ to_bits binary32 x ∷ to_bits binary32 y ∷ [] ≡ component_list l at 13 count f s
  unfolding component_list padded_list
  two_told count x y z p q =
      ap (λ (v : Float). 6 ∷ to_bits binary32 v ∷ to_bits binary32 y ∷ []) p
      ∙ ap (λ (v : Float). 6 ∷ part 0 ∷ to_bits binary32 v ∷ []) q
      ∙ ap (λ (v : List ℕ). 6 ∷ v) (two_by (count % 2) (mod-lt count (lit< tt)) z)

-- ---- a direct attribute, by its number
module _ (l : List ℕ) (at k count f s : ℕ) where
  pub direct_colour : (n : ℕ) → is_colour k ≡ true → n ≡ big_endian l at (at_most_four (colour_width f)) → colour_width f ≤ 4
      → 4 ∷ n ∷ [] ≡ direct_list l at k count f s
  unfolding direct_list
  direct_colour n e p h = rw e (ap (λ (x : ℕ). 4 ∷ x ∷ []) (p ∙ ap (λ (x : ℕ). big_endian l at x) (at_most_four_lem (colour_width f) h)))

  pub direct_other : is_colour k ≡ false → component_list l at k count f s ≡ direct_list l at k count f s
  unfolding direct_list
  direct_other e = rw e

  pub texture_alike : (k ≡ 9 → ⊥) → (k ≡ 10 → ⊥) → component_list l at 13 count f s ≡ component_list l at k count f s
  unfolding component_list
  texture_alike a b = rw (ne_eqb k 9 a, ne_eqb k 10 b)

-- ---- indices
module _ (l : List ℕ) (at times n : ℕ) (small : n ≤ 2) where
  whole : at_most_four n ≡ n
  whole = at_most_four_lem n (omega arith)

  pub index_told : (x : ℕ) → (times ≡ 3 → ⊥) → x ≡ big_endian l at (at_most_four n) → 2 ∷ x ∷ [] ≡ index_list l at times n
  unfolding index_list
  index_told x h p = rw (ne_eqb times 3 h) (ap (λ (y : ℕ). 2 ∷ y ∷ []) (p ∙ ap (λ (m : ℕ). big_endian l at m) whole))

  pub indices_told : (x y z : ℕ) → times ≡ 3 → x ≡ big_endian l at (at_most_four n) → y ≡ big_endian l (at + n) (at_most_four n)
      → z ≡ big_endian l (at + 2 * n) (at_most_four n) → 3 ∷ x ∷ y ∷ z ∷ [] ≡ index_list l at times n
  unfolding index_list
  indices_told x y z h p q r =
      let p' : x ≡ big_endian l at n = p ∙ ap (λ (m : ℕ). big_endian l at m) whole in
      let q' : y ≡ big_endian l (at + n) n = q ∙ ap (λ (m : ℕ). big_endian l (at + n) m) whole in
      let r' : z ≡ big_endian l (at + 2 * n) n = r ∙ ap (λ (m : ℕ). big_endian l (at + 2 * n) m) whole in
      rw (eq-eqb times 3 h) (cc)

-- ---- attribute k, by its mode
module _ (d : Descriptor) (k : ℕ) (l : List ℕ) (at : ℕ) where
  pub attribute_absent : mode_of d k ≡ 0 → attribute_list d k l at ≡ 0 ∷ []
  unfolding attribute_list
  attribute_absent e = rw (eq-eqb (mode_of d k) 0 e)

  pub attribute_matrix : (mode_of d k ≡ 0 → ⊥) → k < 9 → attribute_list d k l at ≡ 1 ∷ big_endian l at 1 ∷ []
  unfolding attribute_list
  attribute_matrix z h = rw (ne_eqb (mode_of d k) 0 z, lt-ltb k 9 h)

  pub attribute_direct : 9 ≤ k → mode_of d k ≡ 1
      → attribute_list d k l at ≡ direct_list l at k (count_of d k) (format_of d k) (fraction_of d k)
  unfolding attribute_list
  attribute_direct h e = rw (ne_eqb (mode_of d k) 0 some, le-ltb k 9 h, eq-eqb (mode_of d k) 1 e)
    where
      some : mode_of d k ≡ 0 → ⊥
      some z = omega arith

  pub attribute_indexed : (mode_of d k ≡ 0 → ⊥) → 9 ≤ k → (mode_of d k ≡ 1 → ⊥)
      → attribute_list d k l at ≡ index_list l at (indices_of d k) (mode_of d k - 1)
  unfolding attribute_list
  attribute_indexed z h o = rw (ne_eqb (mode_of d k) 0 z, le-ltb k 9 h, ne_eqb (mode_of d k) 1 o)

-- ---- f32 components
module _ (d : Descriptor) (k : ℕ) where
  pub singles_indirect : (mode_of d k ≡ 1 → ⊥) → singles_of d k ≡ 0
  unfolding singles_of
  singles_indirect h = rw (ne_eqb (mode_of d k) 1 h)

  pub singles_other : mode_of d k ≡ 1 → (format_of d k ≡ 4 → ⊥) → singles_of d k ≡ 0
  unfolding singles_of
  singles_other e h = rw (eq-eqb (mode_of d k) 1 e, ne_eqb (format_of d k) 4 h)

  pub singles_by : (b : Bool) → mode_of d k ≡ 1 → format_of d k ≡ 4 → is_colour k ≡ b → singles_of d k ≡ cond (not b)
      (components_of k (count_of d k)) 0
  unfolding singles_of
  singles_by b e f c = rw (eq-eqb (mode_of d k) 1 e, eq-eqb (format_of d k) 4 f, c)
