-- Laws of a test that every number of a list is below a limit.
use mathlib.Core.Path.{◌≡◌, refl, sym, ap, ◌∙◌}
use mathlib.Core.Bool.{Bool, true, false, ◌&&◌}
use mathlib.Core.List.{List, [], ◌∷◌}
use mathlib.Core.Logic.{⊎_elim}
use Prim.Native.Nat.{ℕ, zero, suc, ◌+◌, ◌^◌, ◌<◌, ◌≤◌}
use native.Mathlib.Omega.{arith}
use lib.Bits.{bit_and, bit_or, or_add_and, or_lt, and_le_l, and_le_r}
use lib.Dec.{ltb}
use lib.Pow.{pow_pos}
use lib.ListN.{length, get_or, set}
use Rattle.std.proofs.lemmas.Bool.{and_parts, cases_lt}
use Rattle.std.specs.List.{fold}
use borrow.Author.Tests.{ltb-true, lt-ltb, le-ltb}
use Rattle.machine.specs.Gate.{all_below}

and_assoc : (a b c : Bool) → (a && b) && c ≡ a && (b && c)
and_assoc true b c = refl
and_assoc false b c = refl

and_true : (a : Bool) → a && true ≡ a
and_true true = refl
and_true false = refl

-- two numbers joined are below a power of two exactly where both are
or_ltb : (k a b : ℕ) → ltb (bit_or a b) (2 ^ k) ≡ ltb a (2 ^ k) && ltb b (2 ^ k)
or_ltb k a b =
    let sum : bit_or a b + bit_and a b ≡ a + b = or_add_and a b in
    let least : bit_and a b ≤ a = and_le_l a b in
    let last : bit_and a b ≤ b = and_le_r a b in
    ⊎_elim
    (λ p.
    ⊎_elim
    (λ q. rw (lt-ltb a (2 ^ k) p, lt-ltb b (2 ^ k) q, lt-ltb (bit_or a b) (2 ^ k) (or_lt k a b p q)))
    (λ q. rw (lt-ltb a (2 ^ k) p, le-ltb b (2 ^ k) q, le-ltb (bit_or a b) (2 ^ k) (omega arith)))
    (cases_lt b (2 ^ k)))
    (λ p. rw (le-ltb a (2 ^ k) p, le-ltb (bit_or a b) (2 ^ k) (omega arith)))
    (cases_lt a (2 ^ k))

-- joined with all of a list
joined_ltb : (k joined : ℕ) (l : List ℕ) → ltb (fold bit_or joined l) (2 ^ k) ≡ ltb joined (2 ^ k) && all_below (2 ^ k) l
unfolding all_below
joined_ltb k joined [] = sym (and_true (ltb joined (2 ^ k)))
joined_ltb k joined (x ∷ l) =
    joined_ltb k (bit_or joined x) l
    ∙ ap (λ (b : Bool). b && all_below (2 ^ k) l) (or_ltb k joined x)
    ∙ and_assoc (ltb joined (2 ^ k)) (ltb x (2 ^ k)) (all_below (2 ^ k) l)

-- the numbers of a list joined are below a power of two exactly where each of them is
pub joined_below : (k : ℕ) (l : List ℕ) {joined : ℕ} → joined ≡ fold bit_or 0 l → ltb joined (2 ^ k) ≡ all_below (2 ^ k) l
joined_below k l e =
    ap (λ (x : ℕ). ltb x (2 ^ k)) e ∙ joined_ltb k 0 l ∙ ap (λ (b : Bool). b && all_below (2 ^ k) l) (lt-ltb 0 (2 ^ k) (pow_pos k))

-- each number of a list is below the limit, 0 past its end too; and back
pub below_at : (limit : ℕ) (l : List ℕ) → 0 < limit → all_below limit l ≡ true → (k : ℕ) → get_or l k 0 < limit
unfolding all_below
below_at limit [] some e k = some
below_at limit (x ∷ l) some e zero = ltb-true x limit (and_parts (ltb x limit) (all_below limit l) e).0
below_at limit (x ∷ l) some e (suc k) = below_at limit l some (and_parts (ltb x limit) (all_below limit l) e).1 k

pub below_all : (limit : ℕ) (l : List ℕ) → ((k : ℕ) → k < length l → get_or l k 0 < limit) → all_below limit l ≡ true
unfolding all_below
below_all limit [] f = refl
below_all limit (x ∷ l) f = rw (lt-ltb x limit (f 0 (omega arith)), below_all limit l (λ k h. f (suc k) (omega arith)))

-- a value below the limit stored
pub below_set : (limit : ℕ) (l : List ℕ) (k v : ℕ) → all_below limit l ≡ true → v < limit → all_below limit (set l k v) ≡ true
unfolding all_below
below_set limit [] k v e h = refl
below_set limit (x ∷ l) zero v e h = rw (lt-ltb v limit h) (and_parts (ltb x limit) (all_below limit l) e).1
below_set limit (x ∷ l) (suc k) v e h =
    rw (and_parts (ltb x limit) (all_below limit l) e).0 (below_set limit l k v (and_parts (ltb x limit) (all_below limit l) e).1 h)
