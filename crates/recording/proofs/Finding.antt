-- The search for the first fault, number by number: its refusal and its place together.
use mathlib.Core.Path.{◌≡◌, refl, sym, ap, ◌∙◌}
use mathlib.Core.Logic.{inl, inr}
use mathlib.Core.List.{List, [], ◌∷◌}
use Prim.Native.Nat.{ℕ, zero, suc, ◌+◌, ◌-◌, ◌*◌, ◌<◌, ◌≤◌}
use native.Mathlib.Numerals.{add-one}
use native.Mathlib.Omega.{arith}
use lib.Dec.{eqb}
use lib.ListN.{length}
use borrow.Author.Tests.{eqb-true, lt-ltb, le-ltb}
use Rattle.std.proofs.lemmas.Bool.{cases_Bool, cases_lt}
use Rattle.refusal.specs.Number.{number}
use Rattle.refusal.specs.declared.Reason.{Reason}
use Rattle.refusal.proofs.Positive.{number_some, not_zero}
use Rattle.refusal.proofs.First.{or_some, or_zero}
use Rattle.recording.specs.Format.{number_count, stream_at, file_number, xf_from, stream_count_at}
use Rattle.std.specs.Prelude.{Option, None, Some}
use Rattle.recording.specs.declared.Fault.{Fault}
use Rattle.recording.specs.Answers.{meaning_of_fault}
use Rattle.recording.specs.Searching.{found_from, SearchesPart}
use Rattle.recording.proofs.Classes.{of_xf}
use Rattle.recording.specs.Faults.{stream_limit, number_fault, first_fault, first_place, head_fault, head_place}
use Rattle.recording.specs.Promises.{PlaceTold}

module _ (limit : ℕ) (file : List ℕ) where
  pub found_first : head_fault limit file ∷ head_place limit file ∷ [] ≡ found_from limit file 0
  unfolding head_fault head_place
  found_first = refl

  module _ (k : ℕ) where
    left : k < number_count → number_count - k ≡ suc (number_count - (k + 1))
    left h = omega (arith, h)

    pub found_next : k < number_count → 4 * k + 4 ≤ length file → number_fault limit k (file_number file k) ≡ 0
        → found_from limit file k ≡ found_from limit file (k + 1)
    unfolding first_fault first_place
    found_next h w e = rw (left h, le-ltb (length file) (4 * k + 4) w, e, add-one k)

    pub found_here : k < number_count → 4 * k + 4 ≤ length file → (reason : Reason)
        → number reason ≡ number_fault limit k (file_number file k) → found_from limit file k ≡ number reason ∷ 4 * k ∷ []
    unfolding first_fault first_place
    found_here h w reason e =
        rw (
          left h,
          le-ltb (length file) (4 * k + 4) w,
          ← e,
          or_some (number reason) (first_fault limit file (number_count - (k + 1)) (suc k)) (number_some reason),
          not_zero reason refl,
        )

    pub found_cut : k < number_count → length file < 4 * k + 4 → found_from limit file k ≡ 22 ∷ length file ∷ []
    unfolding first_fault first_place
    found_cut h w = rw (left h, lt-ltb (length file) (4 * k + 4) w)

    pub found_none : k ≡ number_count → found_from limit file k ≡ 0 ∷ stream_at ∷ []
    unfolding first_fault first_place
    found_none e = rw e

-- ---- the XF words

module _ (limit : ℕ) (file : List ℕ) where
  -- where they are all there the search goes on behind them
  pub found_words : (n k : ℕ) → xf_from ≤ k → n + k ≡ stream_count_at → 4 * stream_count_at ≤ length file
      → found_from limit file k ≡ found_from limit file stream_count_at
  found_words zero k a e h = let same : k ≡ stream_count_at = omega arith in ap (found_from limit file) same
  found_words (suc n) k a e h =
      found_next limit file k (omega arith) (omega arith) (of_xf limit k (file_number file k) a (omega arith))
      ∙ found_words n (k + 1) (omega arith) (omega arith) h

  -- and else the file is cut among them
  pub found_cut_word : (n k : ℕ) → xf_from ≤ k → n + k ≡ stream_count_at → 4 * k ≤ length file → length file < 4 * stream_count_at
      → found_from limit file k ≡ 22 ∷ length file ∷ []
  found_cut_word zero k a e l h = absurd (omega arith)
  found_cut_word (suc n) k a e l h = elim (cases_lt (length file) (4 * k + 4)) [
    | inl c ↦ found_cut limit file k (omega arith) c
    | inr c ↦
        found_next limit file k (omega arith) c (of_xf limit k (file_number file k) a (omega arith))
        ∙ found_cut_word n (k + 1) (omega arith) (omega arith) (omega arith) h
  ]

-- ---- the last part

-- what a search to the end of the numbers gives is what is found
pub part_told : (file : List ℕ) (k : ℕ) (r : Option Fault) → SearchesPart file k number_count r
    → meaning_of_fault r ≡ found_from stream_limit file k
part_told file k None h = sym (h.0 ∙ found_none stream_limit file number_count refl)
part_told file k (Some fault) h = h

-- ---- the place of the first fault

module _ (limit : ℕ) (file : List ℕ) where
  -- the fault of number k, and what is found behind it, where the number is whole
  abbrev of : ℕ → ℕ
  of k = number_fault limit k (file_number file k)

  -- of n numbers from k on: right behind them where there is no fault
  place_none : (n k : ℕ) → first_fault limit file n k ≡ 0 → first_place limit file n k ≡ 4 * (k + n)
  unfolding first_fault first_place
  place_none zero k e = omega arith
  place_none (suc n) k e = elim (cases_lt (length file) (4 * k + 4)) [
    | inl h ↦ absurd (omega (arith, rw (lt-ltb (length file) (4 * k + 4) h) at e))
    | inr h ↦
        let f = or_zero (of k) (first_fault limit file n (suc k)) (rw (le-ltb (length file) (4 * k + 4) h) at e) in
        rw (le-ltb (length file) (4 * k + 4) h, f.0) (place_none n (suc k) f.1 ∙ omega arith)
  ]

  -- before that where there is one
  place_some : (n k : ℕ) → (first_fault limit file n k ≡ 0 → ⊥) → first_place limit file n k < 4 * (k + n)
  unfolding first_fault first_place
  place_some zero k e = absurd (e refl)
  place_some (suc n) k e = elim (cases_lt (length file) (4 * k + 4)) [
    | inl h ↦ rw (lt-ltb (length file) (4 * k + 4) h) (omega (arith, h))
    | inr h ↦
        let t = le-ltb (length file) (4 * k + 4) h in
        elim (cases_Bool (eqb (of k) 0)) [
          | inl z ↦
              let q : of k ≡ 0 = eqb-true (of k) 0 z in
              let next = place_some n (suc k) (λ y. e (rw (t, q) y)) in
              rw (t, z) (omega (arith, next))
          | inr z ↦ rw (t, z) (omega arith)
        ]
  ]

  -- and never past the file's end
  place_within : (n k : ℕ) → 4 * k ≤ length file → first_place limit file n k ≤ length file
  unfolding first_place
  place_within zero k h = h
  place_within (suc n) k h = elim (cases_lt (length file) (4 * k + 4)) [
    | inl l ↦ rw (lt-ltb (length file) (4 * k + 4) l) (omega arith)
    | inr l ↦
        let t = le-ltb (length file) (4 * k + 4) l in
        elim (cases_Bool (eqb (of k) 0)) [
          | inl z ↦ rw (t, z) (place_within n (suc k) (omega (arith, l)))
          | inr z ↦ rw (t, z) h
        ]
  ]

  pub place_told : PlaceTold limit file
  unfolding head_fault head_place
  place_told = record {
    none = place_none number_count 0;
    some = place_some number_count 0;
    within = place_within number_count 0 (omega arith);
  }
