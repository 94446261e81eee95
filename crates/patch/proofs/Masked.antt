-- "new = old outside m, number inside m", bit by bit, and what two masked stores come to. Registers have 24 bits.
use mathlib.Core.Path.{◌≡◌, refl, sym, ap, ◌∙◌}
use mathlib.Core.Logic.{◌↔◌}
use mathlib.Core.Bool.{Bool, true, false, cond, ◌&&◌, ◌||◌}
use Prim.Native.Nat.{ℕ, ◌^◌, ◌<◌}
use native.Mathlib.Nat.{lt_of_le_of_lt}
use lib.Dec.{lit<}
use lib.Bits.{bit_and, bit_or, bit_xor, and_le_r, or_lt, xor_lt}
use Rattle.laws.specs.Bits.{bit, differs}
use Rattle.laws.proofs.Bits.{bit_and_lem, bit_or_lem, bit_xor_lem, bit_none, same_bits}
use Rattle.laws.proofs.Cases.{is_true}
use Rattle.laws.proofs.Table.{at}
use Rattle.effect.specs.Effect.{masked}
use Rattle.patch.specs.Registers.{AgreeAt}

bit_full : (k : ℕ) → k < 24 → bit k 0xFFFFFF ≡ true
unfolding bit
bit_full k h = is_true (bit k 0xFFFFFF) (at (λ i. bit i 0xFFFFFF) 24 tt k h)

chosen : (m n o : Bool) → ((o && differs true m) || (n && m)) ≡ cond m n o
chosen true true true = refl
chosen true true false = refl
chosen true false true = refl
chosen true false false = refl
chosen false true true = refl
chosen false true false = refl
chosen false false true = refl
chosen false false false = refl

-- each bit is the number's where the mask has it, and the old one's elsewhere
pub masked_bit : (k old mask n : ℕ) → k < 24 → bit k (masked old mask n) ≡ cond (bit k mask) (bit k n) (bit k old)
unfolding masked
masked_bit k old mask n h = simp (bit_or_lem, bit_and_lem, bit_xor_lem, bit_full) (chosen (bit k mask) (bit k n) (bit k old))

pub masked_lt : (old mask n : ℕ) → mask < 2 ^ 24 → masked old mask n < 2 ^ 24
unfolding masked
masked_lt old mask n h =
    or_lt 24 (bit_and old (bit_xor 0xFFFFFF mask)) (bit_and n mask)
    (lt_of_le_of_lt (and_le_r old (bit_xor 0xFFFFFF mask)) (xor_lt 24 0xFFFFFF mask (lit< tt) h))
    (lt_of_le_of_lt (and_le_r n mask) h)

-- a mask of no bits changes nothing, and one of all bits everything
pub masked_none : (old n : ℕ) → old < 2 ^ 24 → masked old 0 n ≡ old
masked_none old n h =
    same_bits 24 (masked old 0 n) old (masked_lt old 0 n (lit< tt)) h (λ k l. simp (masked_bit, bit_none, l))

pub masked_full : (old n : ℕ) → n < 2 ^ 24 → masked old 0xFFFFFF n ≡ n
masked_full old n h =
    same_bits 24 (masked old 0xFFFFFF n) n (masked_lt old 0xFFFFFF n (lit< tt)) h (λ k l. simp (masked_bit, bit_full, l))

module _ (o m n m' n' : ℕ) (h : m < 2 ^ 24) (h' : m' < 2 ^ 24) where
  either : (a b x y z : Bool) → cond (a || b) (cond b y x) z ≡ cond b y (cond a x z)
  either true true x y z = refl
  either true false x y z = refl
  either false true x y z = refl
  either false false x y z = refl

  -- two masked stores are one, of the union of the masks and of the first number with the second stored in it
  pub masked_masked : masked o (bit_or m m') (masked n m' n') ≡ masked (masked o m n) m' n'
  masked_masked =
      same_bits 24 (masked o (bit_or m m') (masked n m' n')) (masked (masked o m n) m' n')
      (masked_lt o (bit_or m m') (masked n m' n') (or_lt 24 m m' h h'))
      (masked_lt (masked o m n) m' n' h')
      (λ k l. simp (masked_bit, bit_or_lem, l) (either (bit k m) (bit k m') (bit k n) (bit k n') (bit k o)))

  swap : (a b x y z : Bool) → (a ≡ true → b ≡ true → x ≡ y) → cond b y (cond a x z) ≡ cond a x (cond b y z)
  swap true true x y z g = sym (g refl refl)
  swap true false x y z g = refl
  swap false true x y z g = refl
  swap false false x y z g = refl

  swap_back : (a b x y z : Bool) → cond b y (cond a x z) ≡ cond a x (cond b y z) → a ≡ true → b ≡ true → x ≡ y
  swap_back true true x y z e p q = sym e
  swap_back true false x y z e p q = cc
  swap_back false b x y z e p q = cc

  -- two masked stores in either order leave the same, whatever the register held, exactly when they agree
  pub masked_swap : (masked (masked o m n) m' n' ≡ masked (masked o m' n') m n) ↔ AgreeAt m n m' n'
  masked_swap = (
    (λ e k l. swap_back (bit k m) (bit k m') (bit k n) (bit k n') (bit k o) (simp (masked_bit, l) at (ap (bit k) e))),
    (λ g. same_bits 24 (masked (masked o m n) m' n') (masked (masked o m' n') m n)
        (masked_lt (masked o m n) m' n' h') (masked_lt (masked o m' n') m n h)
        (λ k l. simp (masked_bit, l) (swap (bit k m) (bit k m') (bit k n) (bit k n') (bit k o) (g k l)))),
  )

  inside_either : (a x b y : Bool) → (x && a) ≡ x → (y && b) ≡ y → (cond b y x && (a || b)) ≡ cond b y x
  inside_either true x true true e f = refl
  inside_either true x true false e f = refl
  inside_either true true false y e f = refl
  inside_either true false false y e f = refl
  inside_either false x true true e f = refl
  inside_either false x true false e f = refl
  inside_either false true false y e f = e
  inside_either false false false y e f = refl

  -- numbers inside their masks stay inside the union
  pub masked_inside : bit_and n m ≡ n → bit_and n' m' ≡ n' → bit_and (masked n m' n') (bit_or m m') ≡ masked n m' n'
  masked_inside e f =
      same_bits 24 (bit_and (masked n m' n') (bit_or m m')) (masked n m' n')
      (lt_of_le_of_lt (and_le_r (masked n m' n') (bit_or m m')) (or_lt 24 m m' h h')) (masked_lt n m' n' h')
      (λ k l. simp (bit_and_lem, bit_or_lem, masked_bit, l)
      (inside_either (bit k m) (bit k n) (bit k m') (bit k n')
      (sym (bit_and_lem k n m) ∙ ap (bit k) e) (sym (bit_and_lem k n' m') ∙ ap (bit k) f)))

or_cases : (a b c : Bool) → ((a || b) || c) ≡ (a || (b || c))
or_cases true b c = refl
or_cases false b c = refl

pub or_assoc : (a b c : ℕ) → a < 2 ^ 24 → b < 2 ^ 24 → c < 2 ^ 24 → bit_or (bit_or a b) c ≡ bit_or a (bit_or b c)
or_assoc a b c ha hb hc =
    same_bits 24 (bit_or (bit_or a b) c) (bit_or a (bit_or b c))
    (or_lt 24 (bit_or a b) c (or_lt 24 a b ha hb) hc) (or_lt 24 a (bit_or b c) ha (or_lt 24 b c hb hc))
    (λ k l. simp bit_or_lem (or_cases (bit k a) (bit k b) (bit k c)))
