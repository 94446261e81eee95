-- The first 18,016 bytes decide alone as far as the numbers go.
use mathlib.Core.Path.{◌≡◌, refl, ap}
use mathlib.Core.Logic.{⊎_elim}
use mathlib.Core.List.{List}
use Prim.Native.Nat.{ℕ, zero, suc, ◌+◌, ◌*◌, ◌<◌, ◌≤◌}
use native.Mathlib.Omega.{arith}
use lib.ListN.{length, take}
use lib.Seq.{get_or-take, length-take-le, take_all}
use borrow.Author.Tests.{le-ltb}
use Rattle.std.proofs.lemmas.Bool.{cases_lt}
use Rattle.laws.proofs.Front.{up_to_ext}
use Rattle.octets.specs.BigEndian.{big_endian, words_at}
use Rattle.octets.proofs.Number.{agree}
use Rattle.places.specs.Places.{cp_count, bp_count}
use Rattle.command.specs.declared.Draw.TheVariants.{Closed}
use Rattle.command.specs.Look.{xf_count}
use Rattle.recording.specs.Format.{bp_from, cp_from, xf_from, stream_count_at, number_count, stream_at, content_of}
use Rattle.recording.specs.Faults.{first_fault, first_place, head_fault, head_place}
use Rattle.recording.specs.Promises.{HeadAlone}

module _ (file : List ℕ) where
  abbrev front : List ℕ
  front = take stream_at file

  word_alone : (at : ℕ) → at + 4 ≤ stream_at → big_endian front at 4 ≡ big_endian file at 4
  word_alone at h = agree front file at 4 (λ i l. get_or-take stream_at file i 0 (omega arith))

  words_alone : (at n : ℕ) → at + 4 * n ≤ stream_at → words_at front at n ≡ words_at file at n
  words_alone at n h = up_to_ext _ _ n (λ i l. word_alone (at + 4 * i) (omega arith))

  -- what is found in a file that has all numbers
  long : (limit : ℕ) → stream_at ≤ length file → (n k : ℕ) → k + n ≤ number_count
      → (first_fault limit front n k ≡ first_fault limit file n k) × (first_place limit front n k ≡ first_place limit file n k)
  unfolding first_fault first_place
  long limit h zero k l = (refl, refl)
  long limit h (suc n) k l =
      let t : length front ≡ stream_at = length-take-le stream_at file h in
      let a = le-ltb (length front) (4 * k + 4) (omega (arith, t)) in
      let b = le-ltb (length file) (4 * k + 4) (omega arith) in
      let w = word_alone (4 * k) (omega arith) in
      let next = long limit h n (suc k) (omega arith) in
      (rw (a, b, w, next.0), rw (a, b, w, next.1))

  -- a file that has not all of them is its own front
  short : length file < stream_at → front ≡ file
  short h = take_all stream_at file (omega (arith, h))

  pub head_alone : (limit : ℕ) → HeadAlone limit file
  unfolding head_fault head_place content_of
  head_alone limit =
      record {
        fault =
            ⊎_elim (λ h. ap (λ (l : List ℕ). first_fault limit l number_count 0) (short h))
            (λ h. (long limit h number_count 0 (omega arith)).0) (cases_lt (length file) stream_at);
        place =
            ⊎_elim (λ h. ap (λ (l : List ℕ). first_place limit l number_count 0) (short h))
            (λ h. (long limit h number_count 0 (omega arith)).1) (cases_lt (length file) stream_at);
        told = word_alone (4 * stream_count_at) (omega arith);
        registers =
            λ i. record {
              cp = words_alone (4 * cp_from) cp_count (omega arith) i;
              bp = words_alone (4 * bp_from) bp_count (omega arith) i;
              draw = Closed;
            };
        words = words_alone (4 * xf_from) xf_count (omega arith);
      }
