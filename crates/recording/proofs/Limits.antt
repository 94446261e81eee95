-- What specs/Limits says.
use mathlib.Core.Path.{◌≡◌, refl, sym, ap, ◌∙◌}
use mathlib.Core.Logic.{◌⊎◌, inl, inr, ⊎_elim}
use mathlib.Core.List.{List}
use Prim.Native.Nat.{ℕ, zero, suc, ◌+◌, ◌*◌, ◌^◌, ◌<◌, ◌≤◌}
use native.Mathlib.Omega.{arith}
use lib.ListN.{length}
use borrow.Author.Tests.{ne_eqb, le-leb, lt-leb, lt-ltb, le-ltb}
use Rattle.std.proofs.lemmas.Bool.{cases_lt}
use Rattle.refusal.proofs.First.{or_some}
use Rattle.recording.specs.Format.{Recording, file_bytes, stream_count_at, number_count, file_number}
use Rattle.recording.specs.Faults.{number_fault, first_fault, first_place, head_fault, head_place, file_fault}
use Rattle.recording.specs.Answers.{head_refusal, read_refusal, content_refusal, record_refusal, head_record_refusal}
use Rattle.recording.specs.Promises.{Recordable}
use Rattle.recording.specs.Limits.{ReadAlike, WrittenAlike, LongStream, LimitPromises}
use Rattle.recording.proofs.Classes.{of_stream_count}
use Rattle.recording.proofs.Sound.{clean, told_within}
use Rattle.recording.proofs.Back.{accepted_back, last_count}

module _ (a b : ℕ) (file : List ℕ) (raised : a ≤ b) where
  -- what the search finds in n numbers from number k on: by both limits the same, or by the first one 20 at the stream's count
  abbrev Same : ℕ → ℕ → Type 0
  Same n k = (first_fault a file n k ≡ first_fault b file n k) × (first_place a file n k ≡ first_place b file n k)

  abbrev Long : ℕ → ℕ → Type 0
  Long n k = (first_fault a file n k ≡ 20) × (first_place a file n k ≡ 4 * stream_count_at)

  -- before the stream's count no number is held to the limit
  before : (k v : ℕ) → k < stream_count_at → number_fault a k v ≡ number_fault b k v
  unfolding number_fault
  before k v h = rw (lt-ltb k stream_count_at h)

  -- the fault of a number by both limits
  judged : (k v : ℕ) → k < number_count → (number_fault a k v ≡ number_fault b k v) ⊎ ((number_fault a k v ≡ 20) × (k ≡ stream_count_at))
  judged k v h =
      ⊎_elim (λ l. inl (before k v l))
      (λ l. ⊎_elim (λ o. inr (of_stream_count a k v l ∙ rw (lt-leb v a o), omega (arith, h, l)))
      (λ o. inl (rw (of_stream_count a k v l, of_stream_count b k v l, le-leb v a o, le-leb v b (omega (arith, o, raised)))))
      (cases_lt a v)) (cases_lt k stream_count_at)

  found : (n k : ℕ) → k + n ≤ number_count → Same n k ⊎ Long n k
  unfolding first_fault first_place
  found zero k h = inl (refl, refl)
  found (suc n) k h =
      let v = file_number file k in
      elim (cases_lt (length file) (4 * k + 4)) [
        | inl l ↦ inl (rw (lt-ltb (length file) (4 * k + 4) l), rw (lt-ltb (length file) (4 * k + 4) l))
        | inr l ↦
            let w = le-ltb (length file) (4 * k + 4) l in
            elim (judged k v (omega arith)) [
              | inr e ↦ inr (rw (w, e.0), rw (w, e.0) (ap (λ (m : ℕ). 4 * m) e.1))
              | inl e ↦
                  elim (found n (suc k) (omega arith)) [
                    | inl s ↦ inl (rw (w, e, s.0), rw (w, e, s.1))
                    | inr s ↦
                        let f = number_fault b k v in
                        elim (cases_lt f 1) [
                          | inl z ↦ let q : f ≡ 0 = omega (arith, z) in inr (rw (w, e, q) s.0, rw (w, e, q) s.1)
                          | inr z ↦
                              let q = ne_eqb f 0 (λ y. omega (arith, y, z)) in
                              inl (rw (w, e) (or_some f _ z ∙ sym (or_some f _ z)), rw (w, e, q))
                        ]
                  ]
            ]
      ]

  alike : Same number_count 0 → ReadAlike a b file
  unfolding read_refusal head_refusal file_fault head_fault head_place
  alike s = record {
    whole = λ xf. rw s.0;
    head = λ xf. rw s.0;
    place = s.1;
  }

  long : Long number_count 0 → LongStream a file
  unfolding read_refusal head_refusal file_fault head_fault head_place
  long s = record {
    whole = λ xf. rw s.0;
    head = λ xf. rw s.0;
    place = s.1;
  }

  alike_or_long : ReadAlike a b file ⊎ LongStream a file
  alike_or_long = ⊎_elim (λ s. inl (alike s)) (λ s. inr (long s)) (found number_count 0 (omega arith))

  -- a file whose head the first reader accepts is read alike
  pub head_alike : head_fault a file ≡ 0 → ReadAlike a b file
  unfolding head_fault
  head_alike e = ⊎_elim alike (λ s. absurd (omega (arith, e, s.0))) (found number_count 0 (omega arith))

  -- one whose head only the second one accepts has a longer stream than the first one takes
  over : head_fault b file ≡ 0 → a < file_number file stream_count_at → LongStream a file
  unfolding head_fault
  over e h =
      ⊎_elim (λ s. let n = told_within a file (s.0 ∙ e) in absurd (omega (arith, n, h))) long (found number_count 0 (omega arith))

read_alike : (earlier later : ℕ) (file : List ℕ) → earlier ≤ later → file_fault earlier file ≡ 0 → ReadAlike earlier later file
read_alike earlier later file h e = head_alike earlier later file h (clean earlier file e).head_clear

written_alike : (earlier later : ℕ) (cp bp : List ℕ) (xf stream : ℕ) → earlier ≤ later → stream ≤ earlier
    → WrittenAlike earlier later cp bp xf stream
unfolding record_refusal head_record_refusal content_refusal
written_alike earlier later cp bp xf stream h s =
    let a = le-leb stream earlier s in
    let b = le-leb stream later (omega arith) in
    record { whole = λ room. rw (a, b); head = λ room. rw (a, b) }

long_stream : (earlier later : ℕ) (r : Recording) → later < 2 ^ 32 → Recordable later r → earlier < length r.stream
    → LongStream earlier (file_bytes r)
long_stream earlier later r n w h =
    let c = clean later (file_bytes r) (accepted_back later r n w) in
    let t = last_count later r n w in
    let m = told_within later (file_bytes r) c.head_clear in
    over earlier later (file_bytes r) (omega (arith, h, t, m)) c.head_clear (omega (arith, h, t))

pub limit_promises : LimitPromises
limit_promises = record {
  read_alike = read_alike;
  alike_or_long = alike_or_long;
  written_alike = written_alike;
  long_stream = long_stream;
}
