-- What specs/Promises says.
use mathlib.Core.Path.{◌≡◌, refl, sym, ap, ◌∙◌}
use mathlib.Core.Bool.{Bool, true, false, cond}
use mathlib.Core.Logic.{inl, inr}
use mathlib.Core.List.{List}
use Prim.Native.Nat.{ℕ, zero, suc, ◌+◌, ◌-◌, ◌^◌, ◌<◌, ◌≤◌}
use native.Mathlib.Omega.{arith}
use lib.Dec.{eqb, ltb}
use lib.ListN.{length, take}
use borrow.Author.Tests.{lt-ltb, le-ltb}
use Rattle.std.proofs.lemmas.Bool.{cases_lt}
use Rattle.refusal.specs.Number.{or_else}
use Rattle.command.specs.Look.{xf_count}
use Rattle.recording.specs.Format.{Recording, file_bytes, stream_count_at, stream_at, file_number, content_of}
use Rattle.recording.specs.Faults.{rest_fault, file_fault}
use Rattle.recording.specs.Answers.{head_refusal, read_refusal, content_refusal, record_refusal, head_record_refusal}
use Rattle.recording.specs.Promises.{Recordable, RecordingPromises}
use Rattle.recording.proofs.Finding.{place_told}
use Rattle.recording.proofs.Sound.{rewrites}
use Rattle.recording.proofs.Content.{writable, room_enough}
use Rattle.recording.proofs.Back.{accepted_back, content_back}
use Rattle.recording.proofs.Head.{head_alone}

apart : (limit : ℕ) (r s : Recording) → limit < 2 ^ 32 → Recordable limit r → Recordable limit s → file_bytes r ≡ file_bytes s → r ≡ s
apart limit r s n a b e = sym (content_back limit r n a) ∙ ap content_of e ∙ content_back limit s n b

-- 2 comes before all
by_words : (t : Bool) (a b : ℕ) → cond t (or_else a b) 2 ≡ or_else (cond t a 2) b
by_words true a b = refl
by_words false a b = refl

in_parts : (limit : ℕ) (file : List ℕ) (xf : ℕ)
    → read_refusal limit file xf
    ≡ or_else (head_refusal limit (take stream_at file) xf)
    (rest_fault (file_number (take stream_at file) stream_count_at) (length file - stream_at))
unfolding read_refusal head_refusal file_fault
in_parts limit file xf =
    let h = head_alone file limit in
    rw (h.fault, h.told) (by_words (eqb xf xf_count) _ _)

-- the room for the head comes before that for the whole
rooms : (c room n : ℕ) → stream_at ≤ n
    → or_else c (cond (ltb room n) 16 0) ≡ or_else (or_else c (cond (ltb room stream_at) 16 0)) (cond (ltb room n) 16 0)
rooms (suc c) room n h = refl
rooms zero room n h = elim (cases_lt room stream_at) [
  | inl l ↦ rw (lt-ltb room stream_at l, lt-ltb room n (omega arith))
  | inr l ↦ rw (le-ltb room stream_at l)
]

written_in_parts : (limit : ℕ) (cp bp : List ℕ) (xf stream room : ℕ)
    → record_refusal limit cp bp xf stream room
    ≡ or_else (head_record_refusal limit cp bp xf stream room) (cond (ltb room (stream_at + stream)) 16 0)
unfolding record_refusal head_record_refusal
written_in_parts limit cp bp xf stream room = rooms (content_refusal limit cp bp xf stream) room (stream_at + stream) (omega arith)

pub recording_promises : RecordingPromises
unfolding file_bytes
recording_promises = record {
  rewrites = λ limit file o e. rewrites file o limit e;
  writable = λ limit file o e. (writable limit file o e, room_enough limit file o e);
  accepted = accepted_back;
  reads_back = content_back;
  apart = apart;
  head_alone = λ limit file. head_alone file limit;
  in_parts = in_parts;
  place_told = place_told;
  written_in_parts = written_in_parts;
  head_then_stream = λ r. refl;
}
