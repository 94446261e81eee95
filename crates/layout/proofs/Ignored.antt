-- "VCD bits not named here are kept and ignored": descriptors that differ in such bits alone have the same layout.
use mathlib.Core.Path.{◌≡◌, refl}
use Rattle.std.specs.Prelude.{Result}
use Prim.Native.Nat.{ℕ, zero, suc, min}
use Rattle.laws.specs.Values.{up_to}
use Rattle.refusal.specs.declared.Reason.{Reason}
use Rattle.fields.specs.declared.Descriptor.{Descriptor}
use Rattle.layout.specs.declared.Layout.{Layout}
use Rattle.layout.specs.declared.Spot.{Spot}
use Rattle.fields.specs.Fields.{Alike}
use Rattle.fields.proofs.Ignored.{mode_alike, count_alike, format_alike, indices_alike}
use Rattle.layout.specs.Sizes.{size_of, offset_of, unknown_at, any_unknown}
use Rattle.layout.specs.Answers.{refusal_of, length_of, Laid, Measured, SpotOf}
use Rattle.layout.specs.Promises.{LayoutPromises}
use Rattle.layout.proofs.Bounds.{length_bounds}

module _ (d e : Descriptor) (a : Alike d e) where
  pub size_alike : (k : ℕ) → size_of d k ≡ size_of e k
  unfolding size_of
  size_alike k = rw (mode_alike d e a k, count_alike d e a k, format_alike d e a k, indices_alike d e a k)

  pub offset_alike : (k : ℕ) → offset_of d k ≡ offset_of e k
  unfolding offset_of
  offset_alike zero = refl
  offset_alike (suc k) = rw (offset_alike k, size_alike k)

  unknown_alike : (n : ℕ) → any_unknown d n ≡ any_unknown e n
  unfolding any_unknown unknown_at
  unknown_alike zero = refl
  unknown_alike (suc n) = rw (unknown_alike n, mode_alike d e a n, format_alike d e a n)

  pub refusal_alike : refusal_of d ≡ refusal_of e
  unfolding refusal_of
  refusal_alike = rw (mode_alike d e a 9, unknown_alike 21)

  pub length_alike : length_of d ≡ length_of e
  unfolding length_of
  length_alike = rw (refusal_alike, offset_alike 21)

  values_alike : (f g : ℕ → ℕ) → ((k : ℕ) → f k ≡ g k) → (n : ℕ) → up_to f n ≡ up_to g n
  unfolding up_to
  values_alike f g h zero = refl
  values_alike f g h (suc n) = rw (values_alike f g h n, h n)

  -- what `lay_out`, `measure` and `find` promise of one they promise of the other
  laid_alike : (r : Result Layout Reason) → Laid d r → Laid e r
  laid_alike r l =
      record {
        answer_is = rw (← refusal_alike) l.answer_is;
        layout_is = rw (
          ← length_alike,
          ← values_alike (size_of d) (size_of e) size_alike 21,
          ← values_alike (offset_of d) (offset_of e) offset_alike 21,
        ) l.layout_is;
      }

  measured_alike : (r : Result ℕ Reason) → Measured d r → Measured e r
  measured_alike r l =
      record { answer_is = rw (← refusal_alike) l.answer_is; length_is = rw (← length_alike) l.length_is }

  found_alike : (k : ℕ) (r : Spot) → SpotOf d k r → SpotOf e k r
  found_alike k r l =
      record {
        answer_is = rw (← refusal_alike) l.answer_is;
        length_is = rw (← length_alike) l.length_is;
        offset_is = rw (← offset_alike (min k 21)) l.offset_is;
      }

pub layout_promises : LayoutPromises
layout_promises =
    record {
      laid = laid_alike;
      measured = measured_alike;
      found = found_alike;
      refusal_same = refusal_alike;
      length_same = length_alike;
      size_same = size_alike;
      offset_same = offset_alike;
      length_bounds = length_bounds;
    }
