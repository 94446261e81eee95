-- The search for faults, register by register, and what it says of a patch in which nothing is found.
use mathlib.Core.Path.{◌≡◌, refl, sym, ap, ap₂, ◌∙◌, subst}
use mathlib.Core.Logic.{inl, inr}
use mathlib.Core.Bool.{Bool, true, false, cond, not, ◌&&◌, ◌||◌, false≢true}
use mathlib.Core.List.{List}
use Prim.Native.Nat.{ℕ, zero, suc, ◌+◌, ◌-◌, ◌^◌, ◌≤◌, ◌<◌}
use native.Mathlib.Nat.{eq-or-lt_of_le, lt_of_le_of_lt}
use native.Mathlib.Numerals.{add-one}
use native.Mathlib.Omega.{arith}
use lib.Bits.{bit_and, and_le_r}
use lib.Dec.{eqb, ltb, lit<}
use lib.ListN.{length}
use borrow.Author.Tests.{not-false, eqb-true, ltb-false, eq-eqb, le-ltb}
use Rattle.std.proofs.lemmas.Bool.{or_parts}
use Rattle.refusal.specs.Number.{number}
use Rattle.refusal.specs.declared.Reason.{Reason}
use Rattle.refusal.proofs.Positive.{number_some}
use Rattle.refusal.proofs.First.{or_some, or_zero}
use Rattle.effect.specs.Effect.{mask_place}
use Rattle.patch.specs.Patch.{bp_count, Patch, patch_of, mask_at, number_at, fault_at, or_else, fault_from, fault_of, IsAccepted}

-- ---- for the search's loop

module _ (ms ns : List ℕ) where
  pub fault_sized : length ms ≡ bp_count → length ns ≡ bp_count → fault_of (patch_of ms ns) ≡ fault_from bp_count 0 (patch_of ms ns)
  unfolding fault_of
  fault_sized h k = rw (eq-eqb (length ms) bp_count h, eq-eqb (length ns) bp_count k)

module _ (p : Patch) (r : ℕ) where
  -- the fault of register r
  abbrev here : ℕ
  here = fault_at r (mask_at p r) (number_at p r)

  -- the search from r on
  from_here : r < bp_count → fault_from (bp_count - r) r p ≡ or_else here (fault_from (bp_count - (r + 1)) (r + 1) p)
  unfolding fault_from
  from_here h =
      let e : bp_count - r ≡ suc (bp_count - (r + 1)) = omega arith in
      ap (λ (x : ℕ). fault_from x r p) e ∙ ap (λ (x : ℕ). or_else here (fault_from (bp_count - (r + 1)) x p)) (sym (add-one r))

  pub fault_next : r < bp_count → here ≡ 0 → fault_from (bp_count - r) r p ≡ fault_from (bp_count - (r + 1)) (r + 1) p
  fault_next h e = from_here h ∙ ap (λ (x : ℕ). or_else x (fault_from (bp_count - (r + 1)) (r + 1) p)) e

  pub fault_here : r < bp_count → (reason : Reason) → number reason ≡ here → fault_from (bp_count - r) r p ≡ number reason
  fault_here h reason e =
      from_here h ∙ ap (λ (x : ℕ). or_else x (fault_from (bp_count - (r + 1)) (r + 1) p)) (sym e)
      ∙ or_some (number reason) _ (number_some reason)

  pub fault_end : r ≡ bp_count → fault_from (bp_count - r) r p ≡ 0
  unfolding fault_from
  fault_end e = ap (λ (x : ℕ). fault_from (bp_count - x) x p) e

-- ---- a patch in which nothing is found, by its registers

record Clean (r m n : ℕ) : Type 0 where
  of_mask : r ≡ mask_place → (m ≡ 0) × (n ≡ 0)
  narrow : m < 2 ^ 24
  inside : bit_and n m ≡ n

-- none of 12 to 15 applies
pub record Sound (p : Patch) : Type 0 where
  pub masks_size : length p.masks ≡ bp_count
  pub numbers_size : length p.numbers ≡ bp_count
  pub mask_mask : mask_at p mask_place ≡ 0
  pub mask_number : number_at p mask_place ≡ 0
  pub small : (r : ℕ) → r < bp_count → mask_at p r < 2 ^ 24
  pub inside : (r : ℕ) → r < bp_count → bit_and (number_at p r) (mask_at p r) ≡ number_at p r

-- neither of two, unless the first holds
unnamed : (a b c : Bool) → (a && (not b || not c)) ≡ false → a ≡ true → (b ≡ true) × (c ≡ true)
unnamed true b c e t = (not-false b (or_parts (not b) (not c) e).0, not-false c (or_parts (not b) (not c) e).1)
unnamed false b c e t = absurd (false≢true t)

named : (a b c : Bool) → (a ≡ true → (b ≡ true) × (c ≡ true)) → (a && (not b || not c)) ≡ false
named true b c h = ap₂ (λ (x y : Bool). not x || not y) (h refl).0 (h refl).1
named false b c h = refl

clean_at : (r m n : ℕ) → fault_at r m n ≡ 0 → Clean r m n
unfolding fault_at
clean_at r m n e = go (eqb r mask_place && (not (eqb m 0) || not (eqb n 0))) (ltb 0xFFFFFF m) (eqb (bit_and n m) n) refl refl refl e
  where
    go : (t u v : Bool) → (eqb r mask_place && (not (eqb m 0) || not (eqb n 0))) ≡ t → ltb 0xFFFFFF m ≡ u → eqb (bit_and n m) n ≡ v
        → ◌≡◌ {A = ℕ} (cond t 13 (cond u 14 (cond v 0 15))) 0 → Clean r m n
    go true u v x y z w = absurd (omega arith)
    go false true v x y z w = absurd (omega arith)
    go false false false x y z w = absurd (omega arith)
    go false false true x y z w =
        record {
          of_mask =
              λ h. let b = unnamed (eqb r mask_place) (eqb m 0) (eqb n 0) x (eq-eqb _ _ h) in (eqb-true _ _ b.0, eqb-true _ _ b.1);
          narrow = omega (arith, ltb-false 0xFFFFFF m y);
          inside = eqb-true _ _ z;
        }

at_clean : (r m n : ℕ) → Clean r m n → fault_at r m n ≡ 0
unfolding fault_at
at_clean r m n h =
    rw (
      named (eqb r mask_place) (eqb m 0) (eqb n 0)
          (λ t. let b = h.of_mask (eqb-true _ _ t) in (eq-eqb _ _ b.0, eq-eqb _ _ b.1)),
      le-ltb 0xFFFFFF m (omega (arith, h.narrow)),
      eq-eqb _ _ h.inside,
    )

module _ (p : Patch) where
  from_clean : (n r : ℕ) → fault_from n r p ≡ 0 → (i : ℕ) → r ≤ i → i < r + n → here p i ≡ 0
  unfolding fault_from
  from_clean zero r e i h k = absurd (omega arith)
  from_clean (suc n) r e i h k = elim (eq-or-lt_of_le h) [
    | inl q ↦ subst (λ (x : ℕ). here p x ≡ 0) q (or_zero (here p r) (fault_from n (suc r) p) e).0
    | inr l ↦ from_clean n (suc r) (or_zero (here p r) (fault_from n (suc r) p) e).1 i l (omega arith)
  ]

  clean_from : (n r : ℕ) → ((i : ℕ) → i < r + n → here p i ≡ 0) → fault_from n r p ≡ 0
  unfolding fault_from
  clean_from zero r e = refl
  clean_from (suc n) r e = ap₂ or_else (e r (omega arith)) (clean_from n (suc r) (λ i h. e i (omega arith)))

  sound_by : (t u : Bool) → eqb (length p.masks) bp_count ≡ t → eqb (length p.numbers) bp_count ≡ u
      → cond (t && u) (fault_from bp_count 0 p) 12 ≡ 0 → Sound p
  sound_by false u x y e = absurd (omega arith)
  sound_by true false x y e = absurd (omega arith)
  sound_by true true x y e =
      let clean : (i : ℕ) → i < bp_count → Clean i (mask_at p i) (number_at p i) =
      λ i h. clean_at i (mask_at p i) (number_at p i) (from_clean bp_count 0 e i (omega arith) (omega arith)) in
      record {
        masks_size = eqb-true _ _ x;
        numbers_size = eqb-true _ _ y;
        mask_mask = ((clean mask_place (lit< tt)).of_mask refl).0;
        mask_number = ((clean mask_place (lit< tt)).of_mask refl).1;
        small = λ r h. (clean r h).narrow;
        inside = λ r h. (clean r h).inside;
      }

  -- an accepted patch is sound, and a sound one is accepted
  pub sound : IsAccepted p → Sound p
  unfolding fault_of
  sound e = sound_by (eqb (length p.masks) bp_count) (eqb (length p.numbers) bp_count) refl refl e

  pub accepted : Sound p → IsAccepted p
  accepted a =
      fault_sized p.masks p.numbers a.masks_size a.numbers_size
      ∙ clean_from bp_count 0 (λ i h. at_clean i (mask_at p i) (number_at p i) (record {
        of_mask = λ q. rw q (a.mask_mask, a.mask_number);
        narrow = a.small i (omega arith);
        inside = a.inside i (omega arith);
      }))

  pub number_small : Sound p → (r : ℕ) → r < bp_count → number_at p r < 2 ^ 24
  number_small a r h =
      lt_of_le_of_lt (subst (λ (x : ℕ). x ≤ mask_at p r) (a.inside r h) (and_le_r (number_at p r) (mask_at p r))) (a.small r h)
