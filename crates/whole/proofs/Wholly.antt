-- What an attribute and a whole vertex are refused for, and what an accepted one has.
use mathlib.Core.Path.{◌≡◌, refl, sym, ap, ◌∙◌}
use mathlib.Core.Bool.{cond}
use mathlib.Core.List.{List, [], ◌∷◌}
use Prim.Native.Nat.{ℕ, ◌<◌, ◌≤◌}
use native.Mathlib.Omega.{arith}
use lib.Dec.{eqb}
use lib.ListN.{length}
use borrow.Author.Tests.{eq-eqb, ne_eqb}
use Rattle.std.specs.Prelude.{Result, Ok, Err}
use Rattle.refusal.specs.Number.{number}
use Rattle.refusal.specs.declared.Reason.{Reason}
use Rattle.refusal.specs.declared.Reason.TheVariants.{NotOfLayout}
use Rattle.refusal.proofs.Positive.{number_some}
use Rattle.fields.specs.declared.Descriptor.{Descriptor}
use Rattle.layout.specs.Sizes.{offset_of}
use Rattle.layout.specs.Answers.{meaning, refusal_of}
use Rattle.vertex.specs.Answers.{refusal_at}
use Rattle.vertex.proofs.Refusals.{refused_layout, refused_number, refused_length, accepted_at}

-- the refusal of attribute k, and new words or the old ones
abbrev pub Answered : Descriptor → ℕ → List ℕ → List ℕ → List ℕ → Result (Unit {0}) Reason → List ℕ → Type 0
Answered d k l new values r values' = (meaning r ≡ refusal_at d k l ∷ []) × (values' ≡ cond (eqb (refusal_at d k l) 0) new values)

module _ (d : Descriptor) (k : ℕ) (l new values : List ℕ) where
  -- refused by a number that is not 0, with all that was lent as it was
  refused_by : (r : Result (Unit {0}) Reason) (n : ℕ) → meaning r ≡ n ∷ [] → refusal_at d k l ≡ n → (n ≡ 0 → ⊥)
      → Answered d k l new values r values
  refused_by r n m e z =
      (m ∙ ap (λ (x : ℕ). x ∷ []) (sym e), rw (ne_eqb (refusal_at d k l) 0 (λ h. z (sym e ∙ h))))

  -- by the layout
  pub layout_refused : (reason : Reason) → number reason ∷ [] ≡ refusal_of d ∷ [] → Answered d k l new values (Err reason) values
  layout_refused reason e =
      let n : number reason ≡ refusal_of d = cc in
      let z : refusal_of d ≡ 0 → ⊥ = λ h. omega (arith, number_some reason) in
      refused_by (Err reason) (number reason) refl (refused_layout d k l z ∙ sym n) (λ h. z (sym n ∙ h))

  -- by the number
  pub number_refused : refusal_of d ≡ 0 → 21 ≤ k → Answered d k l new values (Err NotOfLayout) values
  number_refused e h = refused_by (Err NotOfLayout) 19 refl (refused_number d k l e h) (λ z. omega arith)

  -- by the length
  pub length_refused : refusal_of d ≡ 0 → k < 21 → (length l ≡ offset_of d 21 → ⊥) → Answered d k l new values (Err NotOfLayout) values
  length_refused e m h = refused_by (Err NotOfLayout) 19 refl (refused_length d k l e m h) (λ z. omega arith)

  -- or all words
  pub all_told : refusal_of d ≡ 0 → k < 21 → length l ≡ offset_of d 21 → {values' : List ℕ} → values' ≡ new
      → Answered d k l new values (Ok tt) values'
  all_told e m h v =
      let z : refusal_at d k l ≡ 0 = accepted_at d k l e m h in
      (ap (λ (x : ℕ). x ∷ []) (sym z), rw (eq-eqb (refusal_at d k l) 0 z) v)
