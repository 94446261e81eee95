-- Which refusal an attribute gets, and what an accepted one has.
use mathlib.Core.Path.{◌≡◌, refl, sym, ap, ◌∙◌}
use mathlib.Core.Bool.{Bool, true, false, cond}
use mathlib.Core.List.{List, [], ◌∷◌}
use Prim.Native.Nat.{ℕ, ◌<◌, ◌≤◌}
use native.Mathlib.Omega.{arith}
use lib.Dec.{eqb}
use lib.ListN.{length, get_or}
use borrow.Author.Tests.{lt-ltb, le-ltb, eq-eqb, ne_eqb, eqb-true}
use Rattle.fields.specs.declared.Descriptor.{Descriptor}
use Rattle.layout.specs.Sizes.{offset_of}
use Rattle.layout.specs.Answers.{refusal_of}
use Rattle.refusal.specs.Number.{number}
use Rattle.refusal.specs.declared.Reason.{Reason}
use Rattle.refusal.proofs.Positive.{number_some}
use Rattle.vertex.specs.Answers.{refusal_at, unless}

module _ (d : Descriptor) (k : ℕ) (l : List ℕ) where
  pub refused_layout : (refusal_of d ≡ 0 → ⊥) → refusal_at d k l ≡ refusal_of d
  unfolding refusal_at
  refused_layout h = rw (ne_eqb (refusal_of d) 0 h)

  pub refused_number : refusal_of d ≡ 0 → 21 ≤ k → refusal_at d k l ≡ 19
  unfolding refusal_at
  refused_number e h = rw (eq-eqb (refusal_of d) 0 e, le-ltb k 21 h)

  pub refused_length : refusal_of d ≡ 0 → k < 21 → (length l ≡ offset_of d 21 → ⊥) → refusal_at d k l ≡ 19
  unfolding refusal_at
  refused_length e h n = rw (eq-eqb (refusal_of d) 0 e, lt-ltb k 21 h, ne_eqb (length l) (offset_of d 21) n)

  pub accepted_at : refusal_of d ≡ 0 → k < 21 → length l ≡ offset_of d 21 → refusal_at d k l ≡ 0
  unfolding refusal_at
  accepted_at e h n = rw (eq-eqb (refusal_of d) 0 e, lt-ltb k 21 h, eq-eqb (length l) (offset_of d 21) n)

-- a refusal alone, or what is accepted
pub unless_refused_lem : (n m : ℕ) (l : List ℕ) → n ≡ m → (m ≡ 0 → ⊥) → m ∷ [] ≡ unless n l
unless_refused_lem n m l e z = rw (ne_eqb n 0 (λ h. z (sym e ∙ h))) (ap (λ (x : ℕ). x ∷ []) (sym e))

pub unless_accepted : (n : ℕ) (l : List ℕ) → n ≡ 0 → 0 ∷ l ≡ unless n l
unless_accepted n l e = rw (eq-eqb n 0 e)

-- a layout that is refused refuses the attribute, for the same reason
pub layout_refused : (d : Descriptor) (k : ℕ) (l rest : List ℕ) (reason : Reason) → number reason ∷ [] ≡ refusal_of d ∷ []
    → number reason ∷ [] ≡ unless (refusal_at d k l) rest
layout_refused d k l rest reason e =
    let n : number reason ≡ refusal_of d = cc in
    let z : refusal_of d ≡ 0 → ⊥ = λ h. omega (arith, number_some reason) in
    unless_refused_lem (refusal_at d k l) (number reason) rest (refused_layout d k l z ∙ sym n) (λ h. z (sym n ∙ h))

-- ---- from the place of an attribute
-- the first number is the refusal, or 0
head_unless : (n : ℕ) (l : List ℕ) → get_or (unless n l) 0 0 ≡ n
head_unless n l = go (eqb n 0) refl
  where
    go : (b : Bool) → eqb n 0 ≡ b → get_or (cond b (0 ∷ l) (n ∷ [])) 0 0 ≡ n
    go true e = sym (eqb-true n 0 e)
    go false e = refl

-- a place that is refused refuses the rest, for the same reason
pub place_refused : (n : ℕ) (l rest : List ℕ) (reason : Reason) → number reason ∷ [] ≡ unless n l → number reason ∷ [] ≡ unless n rest
place_refused n l rest reason h =
    let same : n ≡ number reason = sym (head_unless n l) ∙ ap (λ (l : List ℕ). get_or l 0 0) (sym h) in
    unless_refused_lem n (number reason) rest same (λ z. omega (arith, number_some reason))

-- a place that is found is the attribute's, and nothing is refused
pub place_found : (n o at : ℕ) → 0 ∷ at ∷ [] ≡ unless n (o ∷ []) → (n ≡ 0) × (at ≡ o)
place_found n o at h =
    let zero_is : n ≡ 0 = sym (head_unless n (o ∷ [])) ∙ ap (λ (l : List ℕ). get_or l 0 0) (sym h) in
    (zero_is, ap (λ (l : List ℕ). get_or l 1 0) (h ∙ sym (unless_accepted n (o ∷ []) zero_is)))
