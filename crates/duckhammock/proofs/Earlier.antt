-- What specs/Recordings says of the calls before L9.
use mathlib.Core.Path.{◌≡◌, sym, ap, ◌∙◌, subst}
use mathlib.Core.List.{List, ◌++◌}
use Prim.Native.Nat.{ℕ, ◌<◌, ◌≤◌}
use native.Mathlib.Omega.{arith}
use lib.Dec.{lit<}
use lib.ListN.{length, take}
use borrow.Author.Tests.{eq-eqb}
use Rattle.refusal.proofs.First.{or_zero}
use Rattle.octets.specs.BigEndian.{WordsFit}
use Rattle.command.specs.Look.{xf_count}
use Rattle.words.specs.State.{cp_of, bp_of}
use Rattle.answers.specs.Counting.{PutsBytes}
use Rattle.recording.specs.Format.{recording_of, head_bytes, file_bytes}
use Rattle.recording.specs.Faults.{stream_limit, head_fault, file_fault}
use Rattle.recording.specs.Answers.{content_refusal, record_refusal, head_record_refusal}
use Rattle.recording.specs.Limits.{earlier_limit, LongStream}
use Rattle.recording.proofs.Content.{passes}
use Rattle.recording.proofs.Limits.{head_alike, limit_promises}
use Rattle.recording.proofs.Promises.{recording_promises}
use Rattle.filing.specs.Calls.{LoadsInto, LoadsFile, LoadsHead, PutsFile, PutsHead}
use Rattle.duckhammock.specs.Recordings.{ReadAgain, LeftAlone, EarlierPromises}
use Rattle.duckhammock.proofs.Recorded.{taken, put_front, taken_content, written_whole, written_read}

-- ---- read

read_alike : (words file xf told : List ℕ) (r : ℕ) (words' xf' told' : List ℕ) → file_fault earlier_limit file ≡ 0
    → LoadsFile stream_limit words file xf told r words' xf' told' → LoadsFile earlier_limit words file xf told r words' xf' told'
read_alike words file xf told r words' xf' told' e h =
    let same = (limit_promises.read_alike earlier_limit stream_limit file (omega arith) e).whole (length xf) in
    record { loads = subst (λ (n : ℕ). LoadsInto n words file xf r words' xf') (sym same) h.loads; stream_is = h.stream_is }

head_read_alike : (words head xf : List ℕ) (told r : ℕ) (words' xf' : List ℕ) (told' : ℕ) → head_fault earlier_limit head ≡ 0
    → LoadsHead stream_limit words head xf told r words' xf' told' → LoadsHead earlier_limit words head xf told r words' xf' told'
head_read_alike words head xf told r words' xf' told' e h =
    let same = (head_alike earlier_limit stream_limit head (omega arith) e).head (length xf) in
    record { loads = subst (λ (n : ℕ). LoadsInto n words head xf r words' xf') (sym same) h.loads; told_is = h.told_is }

-- ---- written

module _ (words xf stream out : List ℕ) (count r : ℕ) (out' : List ℕ) (count' : ℕ) (short : length stream ≤ earlier_limit) where
  same_answer : record_refusal earlier_limit (cp_of words) (bp_of words) (length xf) (length stream) (length out)
      ≡ record_refusal stream_limit (cp_of words) (bp_of words) (length xf) (length stream) (length out)
  same_answer =
      (limit_promises.written_alike earlier_limit stream_limit (cp_of words) (bp_of words) (length xf) (length stream) (omega arith) short
      ).whole (length out)

  abbrev Puts : ℕ → Type 0
  Puts n = PutsBytes n (file_bytes (recording_of (cp_of words) (bp_of words) xf stream)) out count r out' count'

  written_alike : PutsFile stream_limit words xf stream out count r out' count'
      → PutsFile earlier_limit words xf stream out count r out' count'
  written_alike p = subst Puts (sym same_answer) p

  written_now : PutsFile earlier_limit words xf stream out count r out' count'
      → PutsFile stream_limit words xf stream out count r out' count'
  written_now p = subst Puts same_answer p

head_written_alike : (words xf : List ℕ) (n : ℕ) (out : List ℕ) (count r : ℕ) (out' : List ℕ) (count' : ℕ) → n ≤ earlier_limit
    → PutsHead stream_limit words xf n out count r out' count' → PutsHead earlier_limit words xf n out count r out' count'
head_written_alike words xf n out count r out' count' s p =
    let alike = limit_promises.written_alike earlier_limit stream_limit (cp_of words) (bp_of words) (length xf) n (omega arith) s in
    subst (λ (k : ℕ). PutsBytes k (head_bytes (cp_of words) (bp_of words) xf n) out count r out' count') (sym (alike.head (length out))) p

earlier_read : (words xf stream out : List ℕ) (count r : ℕ) (out' : List ℕ) (count' : ℕ) (other xf₀ told : List ℕ) (s : ℕ)
    (words' xf' told' : List ℕ) → length words ≡ 327 → WordsFit words → WordsFit xf → length xf₀ ≡ xf_count
    → PutsFile earlier_limit words xf stream out count r out' count' → r ≡ 0
    → LoadsFile stream_limit other (take count' out') xf₀ told s words' xf' told' → ReadAgain words xf stream other out' s words' xf' told'
unfolding record_refusal
earlier_read words xf stream out count r out' count' other xf₀ told s words' xf' told' long fit fit-xf n p z h =
    let content : content_refusal earlier_limit (cp_of words) (bp_of words) (length xf) (length stream) ≡ 0 =
    (or_zero _ _ (sym p.answer_is ∙ z)).0 in
    let short = (passes earlier_limit (cp_of words) (bp_of words) (length xf) (length stream) content).short in
    written_read words xf stream out count r out' count' other xf₀ told s words' xf' told' long fit fit-xf n
    (written_now words xf stream out count r out' count' short p) z h

-- ---- a longer stream

-- a file that is refused for its stream leaves all as it was
left_alone : (other file xf₀ told : List ℕ) (s : ℕ) (words' xf' told' : List ℕ) → LongStream earlier_limit file → length xf₀ ≡ xf_count
    → LoadsFile earlier_limit other file xf₀ told s words' xf' told' → LeftAlone s other xf₀ told words' xf' told'
left_alone other file xf₀ told s words' xf' told' l n h =
    let z : s ≡ 20 = h.loads.answer_is ∙ l.whole (length xf₀) ∙ rw (eq-eqb (length xf₀) xf_count n) in
    record {
      answer_is = z;
      words_are = rw z at h.loads.state_is;
      xf_is = rw z at h.loads.xf_is;
      told_is = rw z at h.stream_is;
    }

module _ (words xf stream : List ℕ) (long : length words ≡ 327) (fit : WordsFit words) (fit-xf : WordsFit xf)
    (content : content_refusal stream_limit (cp_of words) (bp_of words) (length xf) (length stream) ≡ 0)
    (over : earlier_limit < length stream) where
  refused : LongStream earlier_limit (file_bytes (recording_of (cp_of words) (bp_of words) xf stream))
  refused =
      limit_promises.long_stream earlier_limit stream_limit (recording_of (cp_of words) (bp_of words) xf stream) (lit< tt)
      (taken words xf stream long fit fit-xf content) over

long_stream : (words xf stream out : List ℕ) (count r : ℕ) (out' : List ℕ) (count' : ℕ) (other xf₀ told : List ℕ) (s : ℕ)
    (words' xf' told' : List ℕ) → length words ≡ 327 → WordsFit words → WordsFit xf → length xf₀ ≡ xf_count
    → PutsFile stream_limit words xf stream out count r out' count' → r ≡ 0 → earlier_limit < length stream
    → LoadsFile earlier_limit other (take count' out') xf₀ told s words' xf' told' → LeftAlone s other xf₀ told words' xf' told'
long_stream words xf stream out count r out' count' other xf₀ told s words' xf' told' long fit fit-xf n p z over h =
    let content = taken_content words xf stream out count r out' count' p z in
    let file : take count' out' ≡ file_bytes (recording_of (cp_of words) (bp_of words) xf stream) =
    written_whole words xf stream out count r out' count' p z in
    left_alone other (take count' out') xf₀ told s words' xf' told'
    (subst (LongStream earlier_limit) (sym file) (refused words xf stream long fit fit-xf content over)) n h

long_stream_in_parts : (words xf stream out : List ℕ) (count r : ℕ) (out' : List ℕ) (count' : ℕ) (other xf₀ told : List ℕ) (s : ℕ)
    (words' xf' told' : List ℕ) → length words ≡ 327 → WordsFit words → WordsFit xf → length xf₀ ≡ xf_count
    → PutsHead stream_limit words xf (length stream) out count r out' count' → r ≡ 0 → earlier_limit < length stream
    → LoadsFile earlier_limit other (take count' out' ++ stream) xf₀ told s words' xf' told' → LeftAlone s other xf₀ told words' xf' told'
unfolding head_record_refusal
long_stream_in_parts words xf stream out count r out' count' other xf₀ told s words' xf' told' long fit fit-xf n p z over h =
    let content : content_refusal stream_limit (cp_of words) (bp_of words) (length xf) (length stream) ≡ 0 =
    (or_zero _ _ (sym p.answer_is ∙ z)).0 in
    let front = put_front _ (head_bytes (cp_of words) (bp_of words) xf (length stream)) out count r out' count' p z in
    let file : take count' out' ++ stream ≡ file_bytes (recording_of (cp_of words) (bp_of words) xf stream) =
    ap (λ (l : List ℕ). l ++ stream) front
    ∙ sym (recording_promises.head_then_stream (recording_of (cp_of words) (bp_of words) xf stream)) in
    left_alone other (take count' out' ++ stream) xf₀ told s words' xf' told'
    (subst (LongStream earlier_limit) (sym file) (refused words xf stream long fit fit-xf content over)) n h

pub earlier_promises : EarlierPromises
earlier_promises = record {
  read_alike = read_alike;
  head_read_alike = head_read_alike;
  earlier_read = earlier_read;
  written_alike = written_alike;
  head_written_alike = head_written_alike;
  long_stream = long_stream;
  long_stream_in_parts = long_stream_in_parts;
}
