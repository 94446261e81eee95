-- A refusal before an answer: a layout's, as the look at a draw uses it, and one of 1 to 5, as a look and a taking use it.
use mathlib.Core.Path.{◌≡◌, refl, ap, ◌∙◌}
use mathlib.Core.List.{List, [], ◌∷◌}
use Prim.Native.Nat.{ℕ, zero, suc, ◌≤◌}
use native.Mathlib.Nat.{not-suc-le-zero}
use Rattle.refusal.specs.Number.{number}
use Rattle.refusal.specs.declared.Reason.{Reason}
use Rattle.refusal.proofs.Positive.{number_some}
use Rattle.command.specs.Command.{Found, unit, waiting, refused}
use Rattle.command.specs.Look.{unless_refused}
use Rattle.command.proofs.Extends.{refused_settled, refused_no_unit}

-- a number that is not 0 is a refusal
unless_some : (n : ℕ) (found : Found) → 1 ≤ n → refused n ≡ unless_refused n found
unless_some zero found h = absurd (not-suc-le-zero h)
unless_some (suc n) found h = refl

pub unless_refused_lem : (r : Reason) (n : ℕ) (found : Found) → number r ∷ [] ≡ n ∷ [] → refused (number r) ≡ unless_refused n found
unless_refused_lem r n found e =
    let k : number r ≡ n = cc in
    unless_some (number r) found (number_some r) ∙ ap (λ (x : ℕ). unless_refused x found) k

pub unless_accepted : (n : ℕ) (found : Found) → 0 ∷ [] ≡ n ∷ [] → found ≡ unless_refused n found
unless_accepted n found e =
    let k : 0 ≡ n = cc in
    ap (λ (x : ℕ). unless_refused x found) k

-- an answer that is no refusal is given where nothing was refused before
unless_other : (r : ℕ) (x y : Found) → ((q : ℕ) → refused q ≡ y → ⊥) → unless_refused r x ≡ y → (r ≡ 0) × (x ≡ y)
unless_other zero x y other e = (refl, e)
unless_other (suc r) x y other e = absurd (other (suc r) e)

pub unless_waiting : (r : ℕ) (x : Found) (k : ℕ) → unless_refused r x ≡ waiting k → (r ≡ 0) × (x ≡ waiting k)
unless_waiting r x k = unless_other r x (waiting k) (λ q. refused_settled q k)

pub unless_unit : (r : ℕ) (x : Found) (c : List ℕ) (m n : ℕ) → unless_refused r x ≡ unit c m n → (r ≡ 0) × (x ≡ unit c m n)
unless_unit r x c m n = unless_other r x (unit c m n) (λ q. refused_no_unit q c m n)
