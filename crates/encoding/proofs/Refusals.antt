-- What a refusal leaves: its number is not 0, so everything that was lent is what it was.
use mathlib.Core.Path.{◌≡◌, refl, sym, ap, ◌∙◌}
use mathlib.Core.Bool.{cond}
use mathlib.Core.List.{List, [], ◌∷◌}
use Prim.Native.Nat.{ℕ, zero, suc}
use native.Mathlib.Omega.{arith}
use lib.Dec.{eqb}
use lib.ListN.{drop}
use borrow.Author.Tests.{ne_eqb}
use Rattle.refusal.specs.Number.{number}
use Rattle.refusal.specs.declared.Reason.{Reason}
use Rattle.refusal.proofs.Positive.{not_zero}
use Rattle.encoding.specs.Told.{first_of}

-- what was lent, list or number
pub stays : (reason : Reason) {r : ℕ} → r ≡ number reason → (new old : List ℕ) → old ≡ cond (eqb r 0) new old
stays reason e new old = rw (not_zero reason e)

pub stays_number : (reason : Reason) {r : ℕ} → r ≡ number reason → (new old : ℕ) → old ≡ cond (eqb r 0) new old
stays_number reason e new old = rw (not_zero reason e)

-- an answer that is the refusal alone, or 0 and something: its first number is the refusal
pub first_is : (refusal : ℕ) (l : List ℕ) → first_of (cond (eqb refusal 0) (0 ∷ l) (refusal ∷ [])) ≡ refusal
first_is zero l = refl
first_is (suc n) l = rw (ne_eqb (suc n) 0 (λ e. omega (arith, e)))

-- an answer that is 0 and what it tells
pub accepted_is : (n : ℕ) (l : List ℕ) {m : List ℕ} → 0 ∷ m ≡ cond (eqb n 0) (0 ∷ l) (n ∷ []) → (n ≡ 0) × (m ≡ l)
accepted_is n l e =
    let z : n ≡ 0 = sym (ap first_of e ∙ first_is n l) in
    (z, ap (λ (x : List ℕ). drop 1 x) (e ∙ ap (λ (x : ℕ). cond (eqb x 0) (0 ∷ l) (x ∷ [])) z))

-- the number of an answer that is one number
pub first_number : {m n : ℕ} → m ∷ [] ≡ n ∷ [] → m ≡ n
first_number e = ap first_of e
