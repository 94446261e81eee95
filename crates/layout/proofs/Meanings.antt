-- A layout's answer is known from its meaning; and which refusal it is.
use mathlib.Core.Path.{◌≡◌, refl, sym, ap, ◌∙◌}
use mathlib.Core.Bool.{true, false}
use mathlib.Core.List.{List}
use Prim.Native.Nat.{ℕ}
use native.Mathlib.Omega.{arith}
use lib.ListN.{get_or}
use borrow.Author.Tests.{eq-eqb, ne_eqb}
use Rattle.std.specs.Prelude.{Option, Some, None, Result, Ok, Err}
use Rattle.std.specs.Result.{result_unwrap_or}
use Rattle.refusal.specs.Number.{number}
use Rattle.refusal.specs.declared.Reason.{Reason}
use Rattle.refusal.proofs.Injective.{number_injective}
use Rattle.refusal.proofs.Positive.{number_some}
use Rattle.fields.specs.declared.Descriptor.{Descriptor}
use Rattle.fields.specs.Fields.{mode_of}
use Rattle.layout.specs.Sizes.{any_unknown}
use Rattle.layout.specs.declared.Layout.{Layout}
use Rattle.layout.specs.declared.Spot.{Spot}
use Rattle.layout.specs.Answers.{meaning, refusal_of, length_of, Laid, Measured, SpotOf}

-- ---- which refusal
pub refused_absent : (d : Descriptor) → mode_of d 9 ≡ 0 → refusal_of d ≡ 9
unfolding refusal_of
refused_absent d e = rw (eq-eqb (mode_of d 9) 0 e)

pub refused_unknown : (d : Descriptor) → (mode_of d 9 ≡ 0 → ⊥) → any_unknown d 21 ≡ true → refusal_of d ≡ 10
unfolding refusal_of
refused_unknown d n e = rw (ne_eqb (mode_of d 9) 0 n, e)

pub accepted : (d : Descriptor) → (mode_of d 9 ≡ 0 → ⊥) → any_unknown d 21 ≡ false → refusal_of d ≡ 0
unfolding refusal_of
accepted d n e = rw (ne_eqb (mode_of d 9) 0 n, e)

-- ---- the meaning determines the answer
pub meaning_injective : (a b : Result (Unit {0}) Reason) → meaning a ≡ meaning b → a ≡ b
meaning_injective (Ok _) (Ok _) e = refl
meaning_injective (Ok _) (Err r) e = absurd (omega (arith, number_some r, ap (λ (l : List ℕ). get_or l 0 0) e))
meaning_injective (Err r) (Ok _) e = absurd (omega (arith, number_some r, ap (λ (l : List ℕ). get_or l 0 0) e))
meaning_injective (Err r) (Err s) e = ap Err (number_injective r s (ap (λ (l : List ℕ). get_or l 0 0) e))

-- whether an answer is refused, and why, without the layout or the length that it gives
abbrev pub refusal_in : {T : Type 0} → Result T Reason → Option Reason
refusal_in (Ok _) = None
refusal_in (Err reason) = Some reason

-- the meaning determines this of every answer
pub refusal_injective : {T : Type 0} (a b : Result T Reason) → meaning a ≡ meaning b → refusal_in a ≡ refusal_in b
refusal_injective (Ok _) (Ok _) e = refl
refusal_injective (Ok _) (Err r) e = absurd (omega (arith, number_some r, ap (λ (l : List ℕ). get_or l 0 0) e))
refusal_injective (Err r) (Ok _) e = absurd (omega (arith, number_some r, ap (λ (l : List ℕ). get_or l 0 0) e))
refusal_injective (Err r) (Err s) e = ap Some (number_injective r s (ap (λ (l : List ℕ). get_or l 0 0) e))

-- ---- what is promised determines the whole answer
module _ (d : Descriptor) where
  pub laid_injective : (a b : Result Layout Reason) → Laid d a → Laid d b → a ≡ b
  laid_injective (Ok a) (Ok b) p q =
      let lengths = p.layout_is.length_is ∙ sym q.layout_is.length_is in
      let sizes = p.layout_is.sizes_is ∙ sym q.layout_is.sizes_is in
      let offsets = p.layout_is.offsets_is ∙ sym q.layout_is.offsets_is in
      λ i. Ok (record { length = lengths i; sizes = sizes i; offsets = offsets i })
  laid_injective (Ok _) (Err r) p q =
      absurd (omega (arith, number_some r, ap (λ (l : List ℕ). get_or l 0 0) (p.answer_is ∙ sym q.answer_is)))
  laid_injective (Err r) (Ok _) p q =
      absurd (omega (arith, number_some r, ap (λ (l : List ℕ). get_or l 0 0) (p.answer_is ∙ sym q.answer_is)))
  laid_injective (Err r) (Err s) p q =
      ap Err (number_injective r s (ap (λ (l : List ℕ). get_or l 0 0) (p.answer_is ∙ sym q.answer_is)))

  pub measured_injective : (a b : Result ℕ Reason) → Measured d a → Measured d b → a ≡ b
  measured_injective (Ok _) (Ok _) p q = ap Ok (p.length_is ∙ sym q.length_is)
  measured_injective (Ok _) (Err r) p q =
      absurd (omega (arith, number_some r, ap (λ (l : List ℕ). get_or l 0 0) (p.answer_is ∙ sym q.answer_is)))
  measured_injective (Err r) (Ok _) p q =
      absurd (omega (arith, number_some r, ap (λ (l : List ℕ). get_or l 0 0) (p.answer_is ∙ sym q.answer_is)))
  measured_injective (Err r) (Err s) p q =
      ap Err (number_injective r s (ap (λ (l : List ℕ). get_or l 0 0) (p.answer_is ∙ sym q.answer_is)))

  pub spot_injective : (k : ℕ) (a b : Spot) → SpotOf d k a → SpotOf d k b → a ≡ b
  spot_injective k a b p q =
      let measured : (s : Spot) → SpotOf d k s → Measured d s.length =
      λ s h. record { answer_is = h.answer_is; length_is = h.length_is } in
      let lengths = measured_injective a.length b.length (measured a p) (measured b q) in
      let offsets = p.offset_is ∙ sym q.offset_is in
      λ i. record { length = lengths i; offset = offsets i }

-- ---- the length, or 0 where it is refused
pub length_or_none : (d : Descriptor) (r : Result ℕ Reason) → Measured d r → result_unwrap_or r 0 ≡ length_of d
unfolding length_of
length_or_none d (Ok n) m = m.length_is
length_or_none d (Err reason) m =
    let e : refusal_of d ≡ number reason = sym (ap (λ (l : List ℕ). get_or l 0 0) m.answer_is) in
    rw (ne_eqb (refusal_of d) 0 (λ z. omega (arith, number_some reason)))
