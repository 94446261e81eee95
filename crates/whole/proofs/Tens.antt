-- Ten words for each attribute: what an attribute's kind and components are word by word, and words put one after the other.
use mathlib.Core.Path.{◌≡◌, refl, sym, ap, ◌∙◌}
use mathlib.Core.Bool.{Bool, true, false, cond}
use mathlib.Core.Logic.{inl, inr}
use mathlib.Core.List.{List, [], ◌∷◌, ◌++◌, append_assoc, append-nil}
use Prim.Native.Nat.{ℕ, zero, suc, ◌+◌, ◌-◌, ◌*◌, ◌%◌, ◌<◌, ◌≤◌}
use native.Mathlib.Nat.{mod-lt, mul-le-mul, le_refl, le_of_eq, eq-or-lt_of_le, le_of_suc-le-suc, not-suc-le-zero}
use native.Mathlib.Numerals.{add-one}
use native.Mathlib.Omega.{arith}
use lib.Dec.{eqb, lit<}
use lib.ListN.{length, take, drop, replicate, length-append, drop_of_length-le}
use lib.Seq.{drop-drop, take_at, drop_at, length-take-le}
use borrow.Author.Tests.{lt-ltb}
use Rattle.laws.specs.Values.{up_to}
use Rattle.fields.specs.declared.Descriptor.{Descriptor}
use Rattle.fields.specs.Components.{components_of}
use Rattle.layout.specs.Sizes.{size_of, offset_of}
use Rattle.layout.proofs.Tests.{sum_next}
use Rattle.vertex.specs.Attributes.{bits_of, padded_list, component_list, attribute_list}
use Rattle.vertex.specs.Answers.{refusal_at}
use Rattle.encoding.specs.Told.{padded}
use Rattle.whole.specs.Whole.{whole_to, whole_refusal}
use Rattle.whole.specs.Inner.{ten_at, three_list, frame_list, few_kind, ToldAt, TellsFrom}

-- ---- components, by the number of the attribute and the count bit

-- how many there are, of a position, a normal or else a texture
abbrev many_of : Bool → Bool → ℕ → ℕ
many_of a b c = cond a (2 + c) (cond b (3 + 6 * c) (1 + c))

module _ (l : List ℕ) (at f s : ℕ) where
  -- its kind and components
  abbrev listed : Bool → Bool → ℕ → List ℕ
  listed a b c =
      cond a 5 (cond b (7 + c) 6)
      ∷ (up_to (bits_of l at f s) (many_of a b c) ++ replicate (cond b (many_of a b c) (many_of a b 1) - many_of a b c) 0)

  few_by : (a b : Bool) (c : ℕ) → c < 2 → (many_of a b c ≡ 9 → ⊥)
      → padded 10 (cond a 5 (cond b 7 6) ∷ three_list l at f s (many_of a b c)) ≡ padded 10 (listed a b c)
  unfolding up_to
  few_by true true zero h n = refl
  few_by true true (suc zero) h n = refl
  few_by true false zero h n = refl
  few_by true false (suc zero) h n = refl
  few_by false true zero h n = refl
  few_by false true (suc zero) h n = absurd (n refl)
  few_by false false zero h n = refl
  few_by false false (suc zero) h n = refl
  few_by a b (suc (suc c)) h n = absurd (omega arith)

  frame_by : (a b : Bool) (c : ℕ) → c < 2 → many_of a b c ≡ 9 → frame_list l at f s ≡ padded 10 (listed a b c)
  unfolding up_to
  frame_by true b c h n = absurd (omega arith)
  frame_by false true zero h n = absurd (omega arith)
  frame_by false true (suc zero) h n = refl
  frame_by false true (suc (suc c)) h n = absurd (omega arith)
  frame_by false false c h n = absurd (omega arith)

  module _ (k count : ℕ) where
    pub few_told : (components_of k count ≡ 9 → ⊥)
        → padded 10 (few_kind k ∷ three_list l at f s (components_of k count)) ≡ padded 10 (component_list l at k count f s)
    unfolding component_list padded_list
    few_told n = few_by (eqb k 9) (eqb k 10) (count % 2) (mod-lt count (lit< tt)) n

    pub frame_told : components_of k count ≡ 9 → frame_list l at f s ≡ padded 10 (component_list l at k count f s)
    unfolding component_list padded_list
    frame_told n = frame_by (eqb k 9) (eqb k 10) (count % 2) (mod-lt count (lit< tt)) n

-- the kind and the components of a normal of nine, by their places
abbrev pub framed : List ℕ → ℕ → ℕ → ℕ → ℕ → ℕ
framed l at f s zero = 8
framed l at f s (suc i) = bits_of l at f s i

pub framed_at : (l : List ℕ) (at f s i : ℕ) → bits_of l at f s i ≡ framed l at f s (i + 1)
framed_at l at f s i =
    let e : i + 1 ≡ suc i = omega arith in
    rw e refl

-- fewer components have room where more do
pub room_for : (at m n w most : ℕ) → m ≤ n → at + n * w ≤ most → at + m * w ≤ most
room_for at m n w most h k = omega (arith, mul-le-mul h (le_refl w))

-- ---- one attribute after the other
pub length_padded : (x : List ℕ) → length (padded 10 x) ≡ 10
length_padded x = length-take-le 10 (x ++ replicate 10 0) (omega (arith, length-append x (replicate 10 0)))

pub length_whole : (d : Descriptor) (l : List ℕ) (k : ℕ) → length (whole_to d l k) ≡ 10 * k
unfolding whole_to
length_whole d l zero = refl
length_whole d l (suc k) =
    omega (
      arith,
      length-append (whole_to d l k) (padded 10 (attribute_list d k l (offset_of d k))),
      length_whole d l k,
      length_padded (attribute_list d k l (offset_of d k)),
    )

ten_more : (k : ℕ) → 10 * k + 10 ≡ 10 * suc k
ten_more k = omega arith

ten_front : (d : Descriptor) (l : List ℕ) (k : ℕ) (old values : List ℕ) → values ≡ whole_to d l k ++ drop (10 * k) old
    → ten_at (10 * k) (padded 10 (attribute_list d k l (offset_of d k))) values ≡ whole_to d l (suc k) ++ drop (10 * suc k) old
unfolding whole_to
ten_front d l k old values e =
    let ten : List ℕ = padded 10 (attribute_list d k l (offset_of d k)) in
    let before : take (10 * k) values ≡ whole_to d l k =
    ap (λ (x : List ℕ). take (10 * k) x) e ∙ take_at (whole_to d l k) (drop (10 * k) old) (10 * k) (length_whole d l k) in
    let rest : drop (10 * k) values ≡ drop (10 * k) old =
    ap (λ (x : List ℕ). drop (10 * k) x) e ∙ drop_at (whole_to d l k) (drop (10 * k) old) (10 * k) (length_whole d l k) in
    let past : drop (10 * k + 10) values ≡ drop (10 * suc k) old =
    sym (drop-drop 10 (10 * k) values) ∙ ap (λ (x : List ℕ). drop 10 x) rest ∙ drop-drop 10 (10 * k) old
    ∙ ap (λ (n : ℕ). drop n old) (ten_more k) in
    rw (before, past) (sym (append_assoc (whole_to d l k) ten (drop (10 * suc k) old)))

module _ (d : Descriptor) (l : List ℕ) where
  -- attribute k is told
  pub tells_ten : (k slot : ℕ) (values words : List ℕ) (at n r : ℕ) {values' : List ℕ} → at ≡ offset_of d k
      → words ≡ padded 10 (attribute_list d k l at) → n ≡ size_of d k → r ≡ at + n → values' ≡ ten_at slot words values
      → ToldAt d k l slot values r values'
  tells_ten k slot values words at n r {values'} e w s q v =
      let w' : words ≡ padded 10 (attribute_list d k l (offset_of d k)) = w ∙ ap (λ (x : ℕ). padded 10 (attribute_list d k l x)) e in
      let v' : values' ≡ ten_at slot (padded 10 (attribute_list d k l (offset_of d k))) values =
      v ∙ ap (λ (x : List ℕ). ten_at slot x values) w' in
      record {
        next_is = q ∙ sum_next d k at n e s;
        told = v';
      }

  -- to its place among all
  pub moves_told : (k : ℕ) {values : List ℕ} {r : ℕ} {values' : List ℕ} → ToldAt d k l (10 * k) values r values'
      → TellsFrom d l k (k + 1) values r values'
  moves_told k {values} t = record {
    at_is = t.next_is;
    told = λ old f. t.told ∙ rw (add-one k) (ten_front d l k old values f);
  }

  -- and then others
  pub moves_then : {i j k a b : ℕ} {u v w : List ℕ} → TellsFrom d l i j u a v → TellsFrom d l j k v b w → TellsFrom d l i k u b w
  moves_then f g = record { at_is = g.at_is; told = λ old e. g.told old (f.told old e) }

  -- none yet
  pub moves_none : (values : List ℕ) → TellsFrom d l 0 0 values 0 values
  unfolding offset_of
  moves_none values = record { at_is = refl; told = λ old e. e }

  -- all of them
  pub moves_all : (values values' : List ℕ) (r : ℕ) → length values ≡ 210 → TellsFrom d l 0 21 values r values' → values' ≡ whole_to d l 21
  unfolding whole_to
  moves_all values values' r h m =
      m.told values refl ∙ ap (λ (x : List ℕ). whole_to d l 21 ++ x) (drop_of_length-le values {i = 210} (le_of_eq h)) ∙ append-nil
      (whole_to d l 21)

-- ---- ten words of a whole vertex

-- what follows attribute k
record Split (d : Descriptor) (l : List ℕ) (k n : ℕ) : Type 0 where
  pub rest : List ℕ
  pub whole_is : whole_to d l n ≡ whole_to d l k ++ (padded 10 (attribute_list d k l (offset_of d k)) ++ rest)

split : (d : Descriptor) (l : List ℕ) (k n : ℕ) → k < n → Split d l k n
unfolding whole_to
split d l k zero h = absurd (not-suc-le-zero h)
split d l k (suc n) h = elim (eq-or-lt_of_le (le_of_suc-le-suc h)) [
  | inl e ↦
      record {
        rest = [];
        whole_is = ap (λ (i : ℕ). whole_to d l i ++ padded 10 (attribute_list d i l (offset_of d i))) (sym e)
            ∙ ap (λ (x : List ℕ). whole_to d l k ++ x) (sym (append-nil (padded 10 (attribute_list d k l (offset_of d k)))));
      }
  | inr m ↦
      let s = split d l k n m in
      let ten : List ℕ = padded 10 (attribute_list d k l (offset_of d k)) in
      let last : List ℕ = padded 10 (attribute_list d n l (offset_of d n)) in
      record {
        rest = s.rest ++ last;
        whole_is = ap (λ (x : List ℕ). x ++ last) s.whole_is ∙ append_assoc (whole_to d l k) (ten ++ s.rest) last
            ∙ ap (λ (x : List ℕ). whole_to d l k ++ x) (append_assoc ten s.rest last);
      }
]

pub part_of_whole : (d : Descriptor) (l : List ℕ) (k n : ℕ) → k < n
    → take 10 (drop (10 * k) (whole_to d l n)) ≡ padded 10 (attribute_list d k l (offset_of d k))
part_of_whole d l k n h =
    let s = split d l k n h in
    let ten : List ℕ = padded 10 (attribute_list d k l (offset_of d k)) in
    ap (λ (x : List ℕ). take 10 (drop (10 * k) x)) s.whole_is
    ∙ ap (λ (x : List ℕ). take 10 x) (drop_at (whole_to d l k) (ten ++ s.rest) (10 * k) (length_whole d l k))
    ∙ take_at ten s.rest 10 (length_padded (attribute_list d k l (offset_of d k)))

-- all attributes are refused alike
pub refusal_alike : (d : Descriptor) (k : ℕ) (l : List ℕ) → k < 21 → refusal_at d k l ≡ whole_refusal d l
unfolding refusal_at
refusal_alike d k l h = rw (lt-ltb k 21 h)
