-- The content of a file without a fault is one that the writer takes, and a content that it takes has narrow numbers.
use mathlib.Core.Path.{◌≡◌, refl, sym, ap, ◌∙◌}
use mathlib.Core.Bool.{Bool, true, false, cond}
use mathlib.Core.List.{List}
use Prim.Native.Nat.{ℕ, ◌+◌, ◌*◌, ◌^◌, ◌<◌, ◌≤◌}
use native.Mathlib.Omega.{arith}
use lib.Dec.{ltb, leb, eqb, lit<}
use lib.ListN.{length, get_or, take, drop, length-take, length-drop}
use lib.Seq.{get_or-take, get_or-drop}
use borrow.Author.Tests.{eq-eqb, eqb-true, le-leb, le-ltb, ltb-true, leb-true}
use Rattle.std.proofs.lemmas.Bool.{and_parts}
use Rattle.laws.proofs.Filled.{length_up_to, get_d_up_to}
use Rattle.octets.specs.BigEndian.{Octets, big_endian, WordsFit, words_at}
use Rattle.octets.proofs.Number.{big_lt}
use Rattle.places.specs.Places.{cp_count, bp_count, base_place, stride_place}
use Rattle.command.specs.declared.Draw.TheVariants.{Closed}
use Rattle.command.specs.Look.{xf_count}
use Rattle.machine.specs.Gate.{all_below, bp_fits, bases_of, strides_of, cp_fits, draw_fits, registers_fit}
use Rattle.machine.proofs.Below.{below_at, below_all}
use Rattle.recording.specs.Format.{bp_from, cp_from, xf_from, stream_count_at, stream_at, file_number, content_of}
use Rattle.recording.specs.Faults.{unless_below, file_fault}
use Rattle.recording.specs.Answers.{content_refusal, record_refusal}
use Rattle.recording.specs.Promises.{Recordable, writer_answer}
use Rattle.recording.proofs.Classes.{of_bp, of_base, of_stride}
use Rattle.recording.proofs.Sound.{SoundAt, sound, long, told_within, Clean, clean}

-- ---- a content that the writer takes

-- a content that the writer's first three tests pass
pub record Passes (limit : ℕ) (cp bp : List ℕ) (xf stream : ℕ) : Type 0 where
  pub registers : registers_fit cp bp Closed ≡ true
  pub words : xf ≡ xf_count
  pub short : stream ≤ limit

pub passes : (limit : ℕ) (cp bp : List ℕ) (xf stream : ℕ) → content_refusal limit cp bp xf stream ≡ 0 → Passes limit cp bp xf stream
unfolding content_refusal
passes limit cp bp xf stream e = go (registers_fit cp bp Closed) (eqb xf xf_count) (leb stream limit) refl refl refl e
  where
    go : (t u v : Bool) → registers_fit cp bp Closed ≡ t → eqb xf xf_count ≡ u → leb stream limit ≡ v
        → ◌≡◌ {A = ℕ} (cond t (cond u (cond v 0 20) 2) 1) 0 → Passes limit cp bp xf stream
    go false u v a b c z = absurd (omega arith)
    go true false v a b c z = absurd (omega arith)
    go true true false a b c z = absurd (omega arith)
    go true true true a b c z = record { registers = a; words = eqb-true xf xf_count b; short = leb-true stream limit c }

-- what its registers hold
pub record Narrow (cp bp : List ℕ) : Type 0 where
  pub bp_bits : (k : ℕ) → get_or bp k 0 < 2 ^ 24
  pub bases : (k : ℕ) → k < 16 → get_or cp (base_place k) 0 < 2 ^ 26
  pub strides : (k : ℕ) → k < 16 → get_or cp (stride_place k) 0 < 2 ^ 8

-- sixteen of a list, from a place on
part_at : (l : List ℕ) (from k : ℕ) → k < 16 → get_or (take 16 (drop from l)) k 0 ≡ get_or l (from + k) 0
part_at l from k h = get_or-take 16 (drop from l) k 0 h ∙ get_or-drop from l k 0

pub narrow : (cp bp : List ℕ) → registers_fit cp bp Closed ≡ true → Narrow cp bp
unfolding registers_fit bp_fits cp_fits
narrow cp bp e =
    let f = (and_parts (bp_fits bp) _ e).0 in
    let c = (and_parts (cp_fits cp) _ (and_parts (bp_fits bp) _ e).1).0 in
    let b = (and_parts (all_below (2 ^ 26) (bases_of cp)) _ c).0 in
    let s = (and_parts (all_below (2 ^ 26) (bases_of cp)) _ c).1 in
    record {
      bp_bits = below_at (2 ^ 24) bp (lit< tt) f;
      bases = λ k h. rw (sym (part_at cp (base_place 0) k h)) (below_at (2 ^ 26) (bases_of cp) (lit< tt) b k);
      strides = λ k h. rw (sym (part_at cp (stride_place 0) k h)) (below_at (2 ^ 8) (strides_of cp) (lit< tt) s k);
    }

-- ---- the content of a file without a fault

below_by : (v n : ℕ) → unless_below v n ≡ 0 → v < n
below_by v n e = go (ltb v n) refl e
  where
    go : (t : Bool) → ltb v n ≡ t → ◌≡◌ {A = ℕ} (cond t 0 21) 0 → v < n
    go true p q = ltb-true v n p
    go false p q = absurd (omega arith)

module _ (limit : ℕ) (file : List ℕ) (o : Octets file) (e : file_fault limit file ≡ 0) where
  n : Clean limit file
  n = clean limit file e

  abbrev bp : List ℕ
  bp = words_at file (4 * bp_from) bp_count

  abbrev cp : List ℕ
  cp = words_at file (4 * cp_from) cp_count

  s : (k : ℕ) → k < stream_count_at + 1 → SoundAt limit file k
  s = sound limit file n.head_clear

  -- a word of a section, by its number in the file
  word_is : (from count k : ℕ) → k < count → get_or (words_at file (4 * from) count) k 0 ≡ file_number file (from + k)
  word_is from count k h =
      let q : 4 * from + 4 * k ≡ 4 * (from + k) = omega arith in
      get_d_up_to _ count k h ∙ ap (λ (a : ℕ). big_endian file a 4) q

  bp_fits_lem : bp_fits bp ≡ true
  unfolding bp_fits
  bp_fits_lem =
      below_all (2 ^ 24) bp
      (λ k h.
      let l : k < bp_count = rw (length_up_to (λ i. big_endian file (4 * bp_from + 4 * i) 4) bp_count) at h in
      let i = bp_from + k in
      let f = sym (of_bp limit i (file_number file i) (omega arith) (omega arith)) ∙ (s i (omega arith)).fault in
      rw (word_is bp_from bp_count k l) (below_by (file_number file i) (2 ^ 24) f))

  -- sixteen CP registers from a place on, each below its limit
  part_below : (from most : ℕ) → from + 16 ≤ cp_count → ((k : ℕ) → k < 16 → file_number file (cp_from + (from + k)) < most)
      → all_below most (take 16 (drop from cp)) ≡ true
  part_below from most room f =
      below_all most (take 16 (drop from cp))
      (λ k h.
      let all : length cp ≡ cp_count = length_up_to (λ i. big_endian file (4 * cp_from + 4 * i) 4) cp_count in
      let l : k < 16 = omega (arith, h, length-take 16 (drop from cp)) in
      rw (part_at cp from k l, word_is cp_from cp_count (from + k) (omega arith)) (f k l))

  cp_fits_lem : cp_fits cp ≡ true
  unfolding cp_fits
  cp_fits_lem =
      let b = part_below (base_place 0) (2 ^ 26) (omega arith)
      (λ k h.
      let i = cp_from + (base_place 0 + k) in
      let f = sym (of_base limit i (file_number file i) (omega arith) (omega arith)) ∙ (s i (omega arith)).fault in
      below_by (file_number file i) (2 ^ 26) f) in
      let t = part_below (stride_place 0) (2 ^ 8) (omega arith)
      (λ k h.
      let i = cp_from + (stride_place 0 + k) in
      let f = sym (of_stride limit i (file_number file i) (omega arith) (omega arith)) ∙ (s i (omega arith)).fault in
      below_by (file_number file i) (2 ^ 8) f) in
      rw (b, t)

  short : length (drop stream_at file) ≤ limit
  short = let m = told_within limit file n.head_clear in omega (arith, m, n.stream_told)

  fit : (from count : ℕ) → WordsFit (words_at file (4 * from) count)
  fit from count =
      let l = words_at file (4 * from) count in
      below_at (2 ^ 32) l (lit< tt)
      (below_all (2 ^ 32) l
      (λ k h.
      let i : k < count = rw (length_up_to (λ i. big_endian file (4 * from + 4 * i) 4) count) at h in
      rw (word_is from count k i) (big_lt file (4 * (from + k)) o 4)))

  pub writable : Recordable limit (content_of file)
  unfolding content_of content_refusal registers_fit draw_fits
  writable =
      record {
        passes =
            rw (
              bp_fits_lem,
              cp_fits_lem,
              eq-eqb (length (words_at file (4 * xf_from) xf_count)) xf_count (length_up_to _ xf_count),
              le-leb (length (drop stream_at file)) limit short,
            );
        cp_length = length_up_to _ cp_count;
        bp_length = length_up_to _ bp_count;
        cp_words = fit cp_from cp_count;
        xf_words_lem = fit xf_from xf_count;
      }

  pub room_enough : writer_answer limit (content_of file) (length file) ≡ 0
  unfolding record_refusal content_of
  room_enough =
      let l : stream_at ≤ length file = long limit file n.head_clear in
      rw (writable.passes, le-ltb (length file) (stream_at + length (drop stream_at file)) (omega (arith, length-drop stream_at file)))
