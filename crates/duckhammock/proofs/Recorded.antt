-- What specs/Recordings says.
use mathlib.Core.Path.{◌≡◌, refl, sym, ap, ◌∙◌, subst}
use mathlib.Core.Bool.{Bool, true, false, cond}
use mathlib.Core.Logic.{inl, inr}
use mathlib.Core.List.{List, [], ◌∷◌, ◌++◌, append_assoc}
use Prim.Native.Nat.{ℕ, zero, suc, ◌+◌, ◌-◌, ◌^◌, ◌<◌, ◌≤◌}
use native.Mathlib.Nat.{mod_self}
use native.Mathlib.Omega.{arith}
use lib.Dec.{eqb, lit<}
use lib.ListN.{length, take, drop, length-take, length-drop}
use lib.Seq.{drop_at, get_or-take, get_or-drop, take-append_seam}
use borrow.Author.Tests.{eq-eqb, lt-ltb, le-ltb}
use Rattle.std.proofs.lemmas.Bool.{cases_lt}
use Rattle.laws.specs.Values.{up_to}
use Rattle.laws.proofs.Filled.{length_up_to}
use Rattle.refusal.specs.Number.{or_else}
use Rattle.refusal.proofs.First.{or_zero}
use Rattle.octets.specs.BigEndian.{Octets, WordsFit}
use Rattle.places.specs.Places.{cp_count, bp_count}
use Rattle.command.specs.declared.Draw.TheVariants.{Closed}
use Rattle.command.specs.Look.{xf_count}
use Rattle.fifo.specs.declared.Window.{Window}
use Rattle.fifo.specs.declared.Fifo.{Fifo}
use Rattle.fifo.specs.Window.{size_of, count_of}
use Rattle.queue.specs.Feeding.{feed_refusal, bytes_accepted, fifo_after, ring_after}
use Rattle.queue.specs.Pending.{pending}
use Rattle.queue.proofs.FeedLaws.{Fits, fits_accepted, refused_none, pending_after}
use Rattle.machine.specs.declared.Registers.{Registers}
use Rattle.machine.specs.State.{State, state_of}
use Rattle.machine.proofs.Below.{below_at, below_all}
use Rattle.writer.specs.Write.{placed}
use Rattle.answers.specs.Counting.{PutsBytes}
use Rattle.words.specs.State.{window_of, fifo_of, cp_of, bp_of, state_at, words_by, fifo_stored}
use Rattle.words.specs.Promises.{state_with}
use Rattle.words.proofs.Holding.{words_promises}
use Rattle.words.proofs.ReadBack.{read_back}
use Rattle.words.proofs.Saving.{cp_length, bp_length}
use Rattle.access.specs.Calls.{Feeds}
use Rattle.recording.specs.Format.{Recording, recording_of, head_bytes, file_bytes, stream_count_at, stream_at, file_number, content_of}
use Rattle.recording.specs.Faults.{stream_limit, rest_fault, file_fault}
use Rattle.recording.specs.Answers.{read_refusal, content_refusal, record_refusal}
use Rattle.recording.specs.Promises.{Recordable, writer_answer}
use Rattle.recording.proofs.Sound.{rest_is}
use Rattle.recording.proofs.Sizes.{head_length}
use Rattle.recording.proofs.Content.{passes}
use Rattle.recording.proofs.Promises.{recording_promises}
use Rattle.filing.specs.Calls.{words_in, LoadsInto, LoadsFile, LoadsHead, PutsFile}
use Rattle.duckhammock.specs.Recordings.{loaded_state, EmptyRing, LoadedFed, InParts, ReadAgain, RecordedPromises}
use Rattle.duckhammock.proofs.Chained.{calls_promises}

-- ---- the state after a reading

loaded_said : (words file vertex : List ℕ)
    → state_at (words_in words file) (content_of file).xf vertex ≡ loaded_state (fifo_of words) file vertex
unfolding content_of
loaded_said words file vertex =
    read_back (loaded_state (fifo_of words) file vertex)
    (record { cp_length = length_up_to _ cp_count; bp_length = length_up_to _ bp_count; of_draw = tt })

after_read : (refusal : ℕ) (words file xf vertex : List ℕ) (r : ℕ) (words' xf' : List ℕ) → LoadsInto refusal words file xf r words' xf'
    → state_at words' xf' vertex ≡ cond (eqb r 0) (loaded_state (fifo_of words) file vertex) (state_at words xf vertex)
after_read refusal words file xf vertex r words' xf' h = go (eqb r 0) h.state_is h.xf_is
  where
    go : (b : Bool) → words' ≡ cond b (words_in words file) words → xf' ≡ cond b (content_of file).xf xf
        → state_at words' xf' vertex ≡ cond b (loaded_state (fifo_of words) file vertex) (state_at words xf vertex)
    go true w x = (λ i. state_at (w i) (x i) vertex) ∙ loaded_said words file vertex
    go false w x = λ i. state_at (w i) (x i) vertex

-- ---- the stream fed

-- "equal pointers mean empty"
count_equal : (w : Window) → w.read ≡ w.write → count_of w ≡ 0
unfolding count_of
count_equal w e =
    let d : w.write + size_of w - w.read ≡ size_of w = omega arith in
    rw d (mod_self (size_of w))

module _ (f : Fifo) (ring bytes : List ℕ) (e : EmptyRing f ring) (room : length bytes < length ring) where
  none : count_of f.window ≡ 0
  none = count_equal f.window e.empty

  fits : Fits f (length ring) (length bytes)
  fits = record { ready = e.ready; room = omega (arith, none, room, e.ready.whole) }

  queued : pending (fifo_after f ring bytes).window (ring_after f ring bytes) ≡ bytes
  unfolding pending up_to bytes_accepted
  queued =
      let empty : pending f.window ring ≡ [] = rw none in
      pending_after f ring bytes ∙ rw (empty, fits_accepted f ring bytes fits)

-- a state with another fifo
abbrev behind : Fifo → State → State
behind f t = state_of f t.cp t.bp t.draw t.xf t.buffer

loaded_fed : (refusal : ℕ) (words file xf vertex : List ℕ) (r : ℕ) (words' xf' : List ℕ) (f : Fifo) (ring bytes : List ℕ) (s : ℕ)
    (words'' ring' : List ℕ) → LoadsInto refusal words file xf r words' xf' → r ≡ 0 → EmptyRing f ring → length bytes < length ring
    → Feeds (fifo_stored words' f) ring bytes s words'' ring' → LoadedFed file vertex bytes ring f s words'' xf' ring'
unfolding fifo_of
loaded_fed refusal words file xf vertex r words' xf' f ring bytes s words'' ring' h z e room fed =
    let w : List ℕ = fifo_stored words' f in
    let load : state_at words' xf' vertex ≡ loaded_state (fifo_of words) file vertex =
    rw z at (after_read refusal words file xf vertex r words' xf' h) in
    let stored : state_at w xf' vertex ≡ state_with words' xf' vertex f = words_promises.of_fifo words' xf' vertex f in
    let same : fifo_of w ≡ f = ap (λ (t : State). t.fifo) stored in
    let after = calls_promises.after_feed_lem w xf' vertex ring bytes s words'' ring' fed in
    let state : state_at words'' xf' vertex ≡ loaded_state (fifo_after f ring bytes) file vertex =
    after.0
    ∙ ap (behind (fifo_after (fifo_of w) ring bytes)) stored
    ∙ ap (behind (fifo_after (fifo_of w) ring bytes)) load
    ∙ ap (λ (g : Fifo). loaded_state (fifo_after g ring bytes) file vertex) same in
    let window : window_of words'' ≡ (fifo_after f ring bytes).window = ap (λ (t : State). t.fifo.window) state in
    let held : ring' ≡ ring_after f ring bytes = after.1 ∙ ap (λ (g : Fifo). ring_after g ring bytes) same in
    record {
      accepted =
          fed.answer_is ∙ ap (λ (g : Fifo). feed_refusal g (length ring) (length bytes)) same
          ∙ refused_none f ring bytes (fits f ring bytes e room);
      state_is = state;
      queue_is = (λ i. pending (window i) (held i)) ∙ queued f ring bytes e room;
    }

-- ---- read in two parts

-- the length that the head tells counts where the head is accepted
by_head : (r a b rest : ℕ) → (r ≡ 0 → a ≡ b) → or_else r (rest_fault a rest) ≡ or_else r (rest_fault b rest)
by_head zero a b rest e = ap (λ (n : ℕ). rest_fault n rest) (e refl)
by_head (suc r) a b rest e = refl

in_two : (words file xf : List ℕ) (told r : ℕ) (words' xf' : List ℕ) (told' : ℕ) (stream : List ℕ) (s : ℕ)
    (words'' xf'' stream' : List ℕ) → LoadsHead stream_limit words (take stream_at file) xf told r words' xf' told'
    → LoadsFile stream_limit words file xf stream s words'' xf'' stream'
    → InParts (length file - stream_at) r told' s words' xf' words'' xf'' stream'
unfolding read_refusal content_of
in_two words file xf told r words' xf' told' stream s words'' xf'' stream' h k =
    let front : List ℕ = take stream_at file in
    let rest : ℕ = length file - stream_at in
    let alone = recording_promises.head_alone stream_limit file in
    let by-told : r ≡ 0 → file_number front stream_count_at ≡ told' = λ z. sym (rw z at h.told_is) in
    let answer : s ≡ or_else r (rest_fault told' rest) =
    k.loads.answer_is ∙ recording_promises.in_parts stream_limit file (length xf)
    ∙ ap (λ (n : ℕ). or_else n (rest_fault (file_number front stream_count_at) rest)) (sym h.loads.answer_is)
    ∙ by_head r (file_number front stream_count_at) told' rest by-told in
    record {
      answer_is = answer;
      left_is = λ z.
          let both = or_zero r (rest_fault told' rest) (sym answer ∙ z) in
          let n : length (drop stream_at file) ≡ told' = length-drop stream_at file ∙ rest_is told' rest both.1 in (
            (rw z at k.loads.state_is)
                ∙ sym (ap (λ (g : Registers). words_by (fifo_of words) g.cp g.bp g.draw) alone.registers)
                ∙ sym (rw both.0 at h.loads.state_is),
            (rw z at k.loads.xf_is) ∙ sym alone.words ∙ sym (rw both.0 at h.loads.xf_is),
            (rw z at k.stream_is) ∙ ap (λ (m : ℕ). stream_at ∷ m ∷ []) n,
          );
    }

-- ---- read, and written again

-- a file whose reading is not refused has no fault
no_fault : (limit : ℕ) (file : List ℕ) (xf : ℕ) → read_refusal limit file xf ≡ 0 → file_fault limit file ≡ 0
unfolding read_refusal
no_fault limit file xf e = go (eqb xf xf_count) e
  where
    go : (t : Bool) → cond t (file_fault limit file) 2 ≡ 0 → file_fault limit file ≡ 0
    go true z = z
    go false z = absurd (omega arith)

-- room for a file is room in a longer output
more_room : (limit : ℕ) (c : Recording) (room more : ℕ) → room ≤ more → writer_answer limit c room ≡ 0 → writer_answer limit c more ≡ 0
unfolding record_refusal
more_room limit c room more h e =
    let p = or_zero (content_refusal limit c.cp c.bp (length c.xf) (length c.stream)) _ e in
    elim (cases_lt room (stream_at + length c.stream)) [
      | inl l ↦ absurd (omega (arith, rw (lt-ltb room (stream_at + length c.stream) l) at p.1))
      | inr l ↦ rw (p.0, le-ltb more (stream_at + length c.stream) (omega arith))
    ]

read_written : (words file xf told : List ℕ) (r : ℕ) (words' xf' told' out : List ℕ) (count s : ℕ) (out' : List ℕ) (count' : ℕ)
    → Octets file → LoadsFile stream_limit words file xf told r words' xf' told' → r ≡ 0 → length file ≤ length out
    → PutsFile stream_limit words' xf' (content_of file).stream out count s out' count'
    → (s ≡ 0) × (count' ≡ length file) × (out' ≡ placed file out)
read_written words file xf told r words' xf' told' out count s out' count' o h z room p =
    let clear = no_fault stream_limit file (length xf) (sym h.loads.answer_is ∙ z) in
    let said : state_at words' xf' [] ≡ loaded_state (fifo_of words) file [] =
    rw z at (after_read _ words file xf [] r words' xf' h.loads) in
    let held : recording_of (cp_of words') (bp_of words') xf' (content_of file).stream ≡ content_of file =
    ap (λ (t : State). recording_of t.cp t.bp t.xf (content_of file).stream) said in
    let bytes : file_bytes (recording_of (cp_of words') (bp_of words') xf' (content_of file).stream) ≡ file =
    ap file_bytes held ∙ recording_promises.rewrites stream_limit file o clear in
    let taken : s ≡ 0 =
    p.answer_is ∙ ap (λ (c : Recording). writer_answer stream_limit c (length out)) held
    ∙ more_room stream_limit (content_of file) (length file) (length out) room
    (recording_promises.writable stream_limit file o clear).1 in (
      taken,
      (rw taken at p.count_is) ∙ ap (λ (l : List ℕ). length l) bytes,
      (rw taken at p.out_is) ∙ ap (λ (l : List ℕ). placed l out) bytes,
    )

-- ---- written, and read again

module _ (words xf stream : List ℕ) (long : length words ≡ 327) (fit : WordsFit words) (fit-xf : WordsFit xf)
    (pass : content_refusal stream_limit (cp_of words) (bp_of words) (length xf) (length stream) ≡ 0) where
  abbrev held : Recording
  held = recording_of (cp_of words) (bp_of words) xf stream

  words_fit : WordsFit (cp_of words)
  unfolding cp_of
  words_fit =
      below_at (2 ^ 32) (take 60 (drop 11 words)) (lit< tt)
      (below_all (2 ^ 32) (take 60 (drop 11 words))
      (λ k h.
      let l : k < 60 = omega (arith, h, length-take 60 (drop 11 words)) in
      rw (get_or-take 60 (drop 11 words) k 0 l, get_or-drop 11 words k 0) (fit (11 + k))))

  pub taken : Recordable stream_limit held
  taken = record {
    passes = pass;
    cp_length = cp_length words long;
    bp_length = bp_length words long;
    cp_words = words_fit;
    xf_words_lem = fit-xf;
  }

  -- the stream stands behind the head
  stream_there : (out : List ℕ) → take (length stream) (drop stream_at (placed (file_bytes held) out)) ≡ stream
  unfolding file_bytes
  stream_there out =
      let head : List ℕ = head_bytes (cp_of words) (bp_of words) xf (length stream) in
      let size : length head ≡ stream_at =
      head_length (cp_of words) (bp_of words) xf (length stream) (cp_length words long) (bp_length words long)
      (passes stream_limit _ _ _ _ pass).words in
      let rest : List ℕ = drop (length (head ++ stream)) out in
      ap (λ (l : List ℕ). take (length stream) l)
      (ap (λ (l : List ℕ). drop stream_at l) (append_assoc head stream rest) ∙ drop_at head (stream ++ rest) stream_at size)
      ∙ take-append_seam stream rest

  read_again : (other out xf₀ told : List ℕ) (s : ℕ) (words' xf' told' : List ℕ) → length xf₀ ≡ xf_count
      → LoadsFile stream_limit other (file_bytes held) xf₀ told s words' xf' told'
      → ReadAgain words xf stream other (placed (file_bytes held) out) s words' xf' told'
  unfolding read_refusal
  read_again other out xf₀ told s words' xf' told' n h =
      let back : content_of (file_bytes held) ≡ held = recording_promises.reads_back stream_limit held (lit< tt) taken in
      let z : s ≡ 0 =
      h.loads.answer_is ∙ rw (eq-eqb (length xf₀) xf_count n) (recording_promises.accepted stream_limit held (lit< tt) taken) in
      record {
        accepted = z;
        words_are = (rw z at h.loads.state_is) ∙ ap (λ (c : Recording). words_by (fifo_of other) c.cp c.bp Closed) back;
        xf_is = (rw z at h.loads.xf_is) ∙ ap (λ (c : Recording). c.xf) back;
        told_is = (rw z at h.stream_is) ∙ ap (λ (c : Recording). stream_at ∷ length c.stream ∷ []) back;
        stream_is = stream_there out;
      }

-- what a call that writes has put stands at the front of its output
pub put_front : (refusal : ℕ) (bytes out : List ℕ) (count r : ℕ) (out' : List ℕ) (count' : ℕ)
    → PutsBytes refusal bytes out count r out' count' → r ≡ 0 → take count' out' ≡ bytes
put_front refusal bytes out count r out' count' p z =
    let o : out' ≡ placed bytes out = rw z at p.out_is in
    let c : count' ≡ length bytes = rw z at p.count_is in
    (λ i. take (c i) (o i)) ∙ take-append_seam bytes (drop (length bytes) out)

-- what was written is the file of a content that is not refused
module _ (words xf stream out : List ℕ) (count r : ℕ) (out' : List ℕ) (count' : ℕ)
    (p : PutsFile stream_limit words xf stream out count r out' count') (z : r ≡ 0) where
  pub taken_content : content_refusal stream_limit (cp_of words) (bp_of words) (length xf) (length stream) ≡ 0
  unfolding record_refusal
  taken_content = (or_zero _ _ (sym p.answer_is ∙ z)).0

  pub written_whole : take count' out' ≡ file_bytes (recording_of (cp_of words) (bp_of words) xf stream)
  written_whole = put_front _ _ out count r out' count' p z

pub written_read : (words xf stream out : List ℕ) (count r : ℕ) (out' : List ℕ) (count' : ℕ) (other xf₀ told : List ℕ) (s : ℕ)
    (words' xf' told' : List ℕ) → length words ≡ 327 → WordsFit words → WordsFit xf → length xf₀ ≡ xf_count
    → PutsFile stream_limit words xf stream out count r out' count' → r ≡ 0
    → LoadsFile stream_limit other (take count' out') xf₀ told s words' xf' told'
    → ReadAgain words xf stream other out' s words' xf' told'
written_read words xf stream out count r out' count' other xf₀ told s words' xf' told' long fit fit-xf n p z h =
    let file : List ℕ = file_bytes (recording_of (cp_of words) (bp_of words) xf stream) in
    let o : out' ≡ placed file out = rw z at p.out_is in
    let content = taken_content words xf stream out count r out' count' p z in
    let whole : take count' out' ≡ file = written_whole words xf stream out count r out' count' p z in
    subst (λ (l : List ℕ). ReadAgain words xf stream other l s words' xf' told') (sym o)
    (read_again words xf stream long fit fit-xf content other out xf₀ told s words' xf' told' n
    (subst (λ (l : List ℕ). LoadsFile stream_limit other l xf₀ told s words' xf' told') whole h))

pub recorded_promises : RecordedPromises
recorded_promises = record {
  after_read = after_read;
  loaded_fed = loaded_fed;
  in_parts = in_two;
  read_written = read_written;
  written_read = written_read;
}
