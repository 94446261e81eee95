-- The list of a function's values: its length and elements, and an array that a loop fills with them.
use mathlib.Core.Path.{◌≡◌, refl, sym, ap, ◌∙◌, subst}
use mathlib.Core.List.{List, [], ◌∷◌, ◌++◌, append-nil, append_assoc}
use mathlib.Core.Logic.{inl, inr}
use Prim.Native.Nat.{ℕ, zero, suc, ◌+◌, ◌<◌, ◌≤◌}
use native.Mathlib.Nat.{le_of_eq, eq-or-lt_of_le, le_of_suc-le-suc, not-suc-le-zero, add-zero}
use native.Mathlib.Numerals.{add-one}
use native.Mathlib.Omega.{arith}
use lib.ListN.{length, take, set, get_or, length-append, get_or-append}
use lib.Seq.{ext_get_or, take-suc-set, take_all, length-take-le, get_or-take, get_or-append-add}
use Rattle.laws.specs.Values.{up_to}

pub length_up_to : (f : ℕ → ℕ) (n : ℕ) → length (up_to f n) ≡ n
unfolding up_to
length_up_to f zero = refl
length_up_to f (suc n) = omega (arith, length-append (up_to f n) (f n ∷ []), length_up_to f n)

pub get_d_up_to : (f : ℕ → ℕ) (n k : ℕ) → k < n → get_or (up_to f n) k 0 ≡ f k
unfolding up_to
get_d_up_to f zero k h = absurd (not-suc-le-zero h)
get_d_up_to f (suc n) k h = elim (eq-or-lt_of_le (le_of_suc-le-suc h)) [
  | inl e ↦
      ap (λ (x : ℕ). get_or (up_to f n ++ (f n ∷ [])) x 0) (e ∙ sym (add-zero n) ∙ ap (λ (x : ℕ). x + 0) (sym (length_up_to f n)))
      ∙ get_or-append-add (up_to f n) (f n ∷ []) 0 0
      ∙ ap f (sym e)
  | inr l ↦ get_or-append (up_to f n) (f n ∷ []) 0 k (subst (λ (x : ℕ). k < x) (sym (length_up_to f n)) l) ∙ get_d_up_to f n k l
]

-- the values in two parts
pub up_to_add : (f : ℕ → ℕ) (a b : ℕ) → up_to f (a + b) ≡ up_to f a ++ up_to (λ k. f (a + k)) b
unfolding up_to
up_to_add f a zero = rw (add-zero a) (sym (append-nil (up_to f a)))
up_to_add f a (suc b) =
    let e : a + suc b ≡ suc (a + b) = omega arith in
    rw e
    (ap (λ (x : List ℕ). x ++ (f (a + b) ∷ [])) (up_to_add f a b) ∙ append_assoc (up_to f a) (up_to (λ k. f (a + k)) b) (f (a + b) ∷ []))

-- nothing is filled yet
pub fill_none : (f : ℕ → ℕ) (l : List ℕ) → take 0 l ≡ up_to f 0
unfolding up_to
fill_none f [] = refl
fill_none f (x ∷ l) = refl

-- one more element
pub fill_next : (f : ℕ → ℕ) (l : List ℕ) (i v : ℕ) → i < length l → take i l ≡ up_to f i → v ≡ f i
    → take (i + 1) (set l i v) ≡ up_to f (i + 1)
unfolding up_to
fill_next f l i v h e q =
    rw add-one (take-suc-set l i v h ∙ ap (λ (x : List ℕ). x ++ (v ∷ [])) e ∙ ap (λ (x : ℕ). up_to f i ++ (x ∷ [])) q)

-- all of them
pub fill_all : (f : ℕ → ℕ) (l : List ℕ) (n i : ℕ) → length l ≡ n → i ≡ n → take i l ≡ up_to f i → l ≡ up_to f n
fill_all f l n i h e t =
    sym (take_all n l (le_of_eq h)) ∙ subst (λ (k : ℕ). take k l ≡ up_to f k) e t

-- the first n elements of a list one by one
pub firsts : (n : ℕ) (l : List ℕ) → n ≤ length l → take n l ≡ up_to (λ i. get_or l i 0) n
firsts n l h =
    let f : ℕ → ℕ = λ i. get_or l i 0 in
    let k : length (take n l) ≡ n = length-take-le n l h in
    ext_get_or 0 (take n l) (up_to f n) (k ∙ sym (length_up_to f n))
    (λ i m. let b : i < n = subst (λ (x : ℕ). i < x) k m in get_or-take n l i 0 b ∙ sym (get_d_up_to f n i b))
