-- "VCD bits not named here are kept and ignored": what is told of an attribute, and of a whole vertex, rests on what it decodes to.
use mathlib.Core.Path.{◌≡◌, refl}
use mathlib.Core.List.{List}
use Prim.Native.Nat.{ℕ, zero, suc}
use Rattle.std.specs.Prelude.{Result}
use Rattle.refusal.specs.declared.Reason.{Reason}
use Rattle.fields.specs.declared.Descriptor.{Descriptor}
use Rattle.fields.specs.Fields.{Alike}
use Rattle.vertex.proofs.Ignored.{refusal_same, attribute_same}
use Rattle.whole.specs.Whole.{DecodesOne, DecodesAll, whole_to}
use Rattle.whole.specs.Promises.{TellingPromises}

module _ (d e : Descriptor) (a : Alike d e) where
  one_alike : (k : ℕ) (l values : List ℕ) (r : Result (Unit {0}) Reason) (values' : List ℕ) → DecodesOne d k l values r values'
      → DecodesOne e k l values r values'
  one_alike k l values r values' t =
      record {
        answer_is = rw (← refusal_same d e a k l) t.answer_is;
        values_are = rw (← refusal_same d e a k l, ← attribute_same d e a k l) t.values_are;
      }

  whole_alike : (l : List ℕ) (n : ℕ) → whole_to d l n ≡ whole_to e l n
  unfolding whole_to
  whole_alike l zero = refl
  whole_alike l (suc k) = rw (whole_alike l k, attribute_same d e a k l)

  all_alike : (l values : List ℕ) (r : Result (Unit {0}) Reason) (values' : List ℕ) → DecodesAll d l values r values'
      → DecodesAll e l values r values'
  all_alike l values r values' t =
      record {
        answer_is = rw (← refusal_same d e a 0 l) t.answer_is;
        values_are = rw (← refusal_same d e a 0 l, ← whole_alike l 21) t.values_are;
      }

pub telling_promises : TellingPromises
telling_promises = record { told_one = one_alike; told_all = all_alike }
