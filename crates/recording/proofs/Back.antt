-- What is written for a content is accepted, and holds that content.
use mathlib.Core.Path.{◌≡◌, refl, sym, ap, ap₂, ◌∙◌}
use mathlib.Core.Logic.{⊎_elim}
use mathlib.Core.List.{List, [], ◌++◌, append_assoc}
use Prim.Native.Nat.{ℕ, zero, suc, ◌+◌, ◌-◌, ◌*◌, ◌^◌, ◌<◌, ◌≤◌}
use native.Mathlib.Omega.{arith}
use lib.ListN.{length, get_or, drop, length-append}
use lib.Seq.{drop_at}
use borrow.Author.Tests.{eq-eqb, lt-ltb, le-ltb, le-leb}
use Rattle.std.proofs.lemmas.Bool.{cases_lt}
use Rattle.octets.specs.BigEndian.{big_endian, bytes_of, WordsFit, words_at, word_bytes}
use Rattle.octets.proofs.Written.{length_bytes, read_back}
use Rattle.octets.proofs.Words.{length_words}
use Rattle.octets.proofs.WordsBack.{word_there, words_there}
use Rattle.places.specs.Places.{cp_count, bp_count, base_place, stride_place}
use Rattle.command.specs.Look.{xf_count}
use Rattle.recording.specs.Format.{Recording, head_bytes, file_bytes, bp_from, cp_count_at, cp_from, xf_count_at, xf_from}
use Rattle.recording.specs.Format.{stream_count_at, number_count, stream_at, file_number, content_of}
use Rattle.recording.specs.Faults.{unless_equal, unless_below, bases_from, strides_from, number_fault}
use Rattle.recording.specs.Faults.{first_fault, head_fault, rest_fault, file_fault}
use Rattle.recording.specs.Promises.{Recordable}
use Rattle.recording.proofs.Classes.{of_bp_count, of_bp, of_cp_count, of_plain_cp, of_base, of_stride, of_xf_count, of_xf}
use Rattle.recording.proofs.Classes.{of_stream_count}
use Rattle.recording.proofs.Content.{passes, Narrow, narrow}

module _ (limit : ℕ) (r : Recording) (small : limit < 2 ^ 32) (w : Recordable limit r) where
  abbrev file : List ℕ
  file = file_bytes r

  -- the count of a section, or of the stream
  abbrev count : List ℕ → List ℕ
  count l = bytes_of 4 (length l)

  four : (l : List ℕ) → length (count l) ≡ 4
  four l = length_bytes 4 (length l)

  -- what stands behind the numbers of each section
  abbrev after_xf : List ℕ
  after_xf = count r.stream ++ r.stream

  abbrev after_cp : List ℕ
  after_cp = count r.xf ++ (word_bytes r.xf ++ after_xf)

  abbrev after_bp : List ℕ
  after_bp = count r.cp ++ (word_bytes r.cp ++ after_cp)

  -- what stands before them
  abbrev to_bp : List ℕ
  to_bp = count r.bp

  abbrev to_cp : List ℕ
  to_cp = to_bp ++ (word_bytes r.bp ++ count r.cp)

  abbrev to_xf : List ℕ
  to_xf = to_cp ++ (word_bytes r.cp ++ count r.xf)

  abbrev to_stream : List ℕ
  to_stream = to_xf ++ (word_bytes r.xf ++ count r.stream)

  by_bp : file ≡ to_bp ++ (word_bytes r.bp ++ after_bp)
  unfolding file_bytes head_bytes
  by_bp = simp append_assoc

  by_cp : file ≡ to_cp ++ (word_bytes r.cp ++ after_cp)
  unfolding file_bytes head_bytes
  by_cp = simp append_assoc

  by_xf : file ≡ to_xf ++ (word_bytes r.xf ++ after_xf)
  unfolding file_bytes head_bytes
  by_xf = simp append_assoc

  by_stream : file ≡ to_stream ++ r.stream
  unfolding file_bytes head_bytes
  by_stream = simp append_assoc

  -- how long they are
  step : (x l next : List ℕ) → length (x ++ (word_bytes l ++ count next)) ≡ length x + 4 * length l + 4
  step x l next =
      omega (arith, length-append x (word_bytes l ++ count next), length-append (word_bytes l) (count next), length_words l, four next)

  held : length r.xf ≡ xf_count
  held = (passes limit r.cp r.bp (length r.xf) (length r.stream) w.passes).words

  len_bp : length to_bp ≡ 4 * bp_from
  len_bp = four r.bp

  len_cp : length to_cp ≡ 4 * cp_from
  len_cp = omega (arith, step to_bp r.bp r.cp, len_bp, w.bp_length)

  len_xf : length to_xf ≡ 4 * xf_from
  len_xf = omega (arith, step to_cp r.cp r.xf, len_cp, w.cp_length)

  len_stream : length to_stream ≡ stream_at
  len_stream = omega (arith, step to_xf r.xf r.stream, len_xf, held)

  bits : Narrow r.cp r.bp
  bits = narrow r.cp r.bp (passes limit r.cp r.bp (length r.xf) (length r.stream) w.passes).registers

  bp_words : WordsFit r.bp
  bp_words k = let h : get_or r.bp k 0 < 2 ^ 24 = bits.bp_bits k in omega arith

  pub content_back : content_of file ≡ r
  unfolding content_of
  content_back =
      let b : words_at file (4 * bp_from) bp_count ≡ r.bp =
      rw by_bp (words_there to_bp r.bp after_bp (4 * bp_from) bp_count bp_words len_bp w.bp_length) in
      let c : words_at file (4 * cp_from) cp_count ≡ r.cp =
      rw by_cp (words_there to_cp r.cp after_cp (4 * cp_from) cp_count w.cp_words len_cp w.cp_length) in
      let x : words_at file (4 * xf_from) xf_count ≡ r.xf =
      rw by_xf (words_there to_xf r.xf after_xf (4 * xf_from) xf_count w.xf_words_lem len_xf held) in
      let t : drop stream_at file ≡ r.stream = rw by_stream (drop_at to_stream r.stream stream_at len_stream) in
      λ i. record { bp = b i; cp = c i; xf = x i; stream = t i }

  -- ---- the numbers one by one

  -- number k, where it is word i of a section
  number_is : (x l y : List ℕ) (k i : ℕ) → file ≡ x ++ (word_bytes l ++ y) → WordsFit l → 4 * k ≡ length x + 4 * i → i < length l
      → file_number file k ≡ get_or l i 0
  number_is x l y k i e f q h = ap₂ (λ (z : List ℕ) (a : ℕ). big_endian z a 4) e q ∙ word_there x l y f i h

  -- number k, where it is a count
  count_is : (x l y : List ℕ) (k : ℕ) → file ≡ x ++ (count l ++ y) → length x ≡ 4 * k → length l < 2 ^ 32 → file_number file k ≡ length l
  count_is x l y k e q h = ap₂ (λ (z : List ℕ) (a : ℕ). big_endian z a 4) e (sym q) ∙ read_back x 4 (length l) y h

  -- bytes of a section before its next count
  upto : (x l : List ℕ) → length (x ++ word_bytes l) ≡ length x + 4 * length l
  upto x l = omega (arith, length-append x (word_bytes l), length_words l)

  first_count : file_number file 0 ≡ bp_count
  unfolding file_bytes head_bytes
  first_count = count_is [] r.bp (word_bytes r.bp ++ after_bp) 0 (simp append_assoc) refl (omega (arith, w.bp_length)) ∙ w.bp_length

  second_count : file_number file cp_count_at ≡ cp_count
  unfolding file_bytes head_bytes
  second_count =
      count_is (to_bp ++ word_bytes r.bp) r.cp (word_bytes r.cp ++ after_cp) cp_count_at (simp append_assoc)
      (omega (arith, upto to_bp r.bp, len_bp, w.bp_length)) (omega (arith, w.cp_length)) ∙ w.cp_length

  third_count : file_number file xf_count_at ≡ xf_count
  unfolding file_bytes head_bytes
  third_count =
      count_is (to_cp ++ word_bytes r.cp) r.xf (word_bytes r.xf ++ after_xf) xf_count_at (simp append_assoc)
      (omega (arith, upto to_cp r.cp, len_cp, w.cp_length)) (omega (arith, held)) ∙ held

  short : length r.stream ≤ limit
  short = (passes limit r.cp r.bp (length r.xf) (length r.stream) w.passes).short

  pub last_count : file_number file stream_count_at ≡ length r.stream
  unfolding file_bytes head_bytes
  last_count =
      count_is (to_xf ++ word_bytes r.xf) r.stream r.stream stream_count_at (simp append_assoc)
      (omega (arith, upto to_xf r.xf, len_xf, held)) (omega (arith, short))

  bp_number : (k : ℕ) → bp_from ≤ k → k < cp_count_at → file_number file k ≡ get_or r.bp (k - bp_from) 0
  bp_number k a h = number_is to_bp r.bp after_bp k (k - bp_from) by_bp bp_words (omega (arith, len_bp)) (omega (arith, w.bp_length))

  cp_number : (i : ℕ) → i < cp_count → file_number file (cp_from + i) ≡ get_or r.cp i 0
  cp_number i h = number_is to_cp r.cp after_cp (cp_from + i) i by_cp w.cp_words (omega (arith, len_cp)) (omega (arith, w.cp_length))

  -- ---- each number is sound

  of_count : (k v n : ℕ) → number_fault limit k (file_number file k) ≡ unless_equal (file_number file k) n → k ≡ v → file_number file v ≡ n
      → number_fault limit k (file_number file k) ≡ 0
  of_count k v n e q c = e ∙ rw (eq-eqb (file_number file k) n (ap (file_number file) q ∙ c))

  of_register : (k v most : ℕ) → number_fault limit k (file_number file k) ≡ unless_below (file_number file k) most → file_number file k ≡ v
      → v < most
      → number_fault limit k (file_number file k) ≡ 0
  of_register k v most e q h = e ∙ rw (q, lt-ltb v most h)

  sound_bp : (k : ℕ) → bp_from ≤ k → k < cp_count_at → number_fault limit k (file_number file k) ≡ 0
  sound_bp k a h = of_register k _ (2 ^ 24) (of_bp limit k (file_number file k) a h) (bp_number k a h) (bits.bp_bits (k - bp_from))

  sound_base : (k : ℕ) → bases_from ≤ k → k < strides_from → number_fault limit k (file_number file k) ≡ 0
  sound_base k a h =
      let i = k - bases_from in
      let e : k ≡ cp_from + base_place i = omega arith in
      of_register k _ (2 ^ 26) (of_base limit k (file_number file k) a h) (ap (file_number file) e ∙ cp_number (base_place i) (omega arith))
      (bits.bases i (omega arith))

  sound_stride : (k : ℕ) → strides_from ≤ k → k < xf_count_at → number_fault limit k (file_number file k) ≡ 0
  sound_stride k a h =
      let i = k - strides_from in
      let e : k ≡ cp_from + stride_place i = omega arith in
      of_register k _ (2 ^ 8) (of_stride limit k (file_number file k) a h)
      (ap (file_number file) e ∙ cp_number (stride_place i) (omega arith))
      (bits.strides i (omega arith))

  sound_last : (k : ℕ) → k ≡ stream_count_at → number_fault limit k (file_number file k) ≡ 0
  sound_last k e =
      of_stream_count limit k (file_number file k) (omega (arith, e))
      ∙ rw (ap (file_number file) e ∙ last_count, le-leb (length r.stream) limit short)

  sound_number : (k : ℕ) → k < number_count → number_fault limit k (file_number file k) ≡ 0
  sound_number k h =
      let v = file_number file k in
      ⊎_elim (λ a. let e : k ≡ 0 = omega (arith, a) in of_count k 0 bp_count (of_bp_count limit k v e) e first_count)
      (λ a. ⊎_elim (λ b. sound_bp k a b)
      (λ b. ⊎_elim (λ c. let e : k ≡ cp_count_at = omega (arith, b, c) in
      of_count k cp_count_at cp_count (of_cp_count limit k v e) e second_count)
      (λ c. ⊎_elim (λ d. of_plain_cp limit k v c d)
      (λ d. ⊎_elim (λ f. sound_base k d f)
      (λ f. ⊎_elim (λ g. sound_stride k f g)
      (λ g. ⊎_elim (λ i. let e : k ≡ xf_count_at = omega (arith, g, i) in
      of_count k xf_count_at xf_count (of_xf_count limit k v e) e third_count)
      (λ i. ⊎_elim (λ j. of_xf limit k v i j) (λ j. sound_last k (omega (arith, h, j)))
      (cases_lt k stream_count_at)) (cases_lt k xf_from)) (cases_lt k xf_count_at)) (cases_lt k strides_from)) (cases_lt k bases_from)) (cases_lt k cp_from))
      (cases_lt k cp_count_at)) (cases_lt k bp_from)

  file_length : length file ≡ stream_at + length r.stream
  file_length =
      ap (λ (l : List ℕ). length l) by_stream ∙ length-append to_stream r.stream ∙ ap (λ (n : ℕ). n + length r.stream) len_stream

  clear : (n k : ℕ) → k + n ≤ number_count → first_fault limit file n k ≡ 0
  unfolding first_fault
  clear zero k h = refl
  clear (suc n) k h =
      rw (le-ltb (length file) (4 * k + 4) (omega (arith, file_length)), sound_number k (omega arith)) (clear n (suc k) (omega arith))

  rest_none : (a : ℕ) → rest_fault a a ≡ 0
  unfolding rest_fault
  rest_none a = rw (le-ltb a a (omega arith))

  pub accepted_back : file_fault limit file ≡ 0
  unfolding file_fault head_fault
  accepted_back =
      let e : length file - stream_at ≡ length r.stream = omega (arith, file_length) in
      rw (clear number_count 0 (omega arith), last_count, e) (rest_none (length r.stream))
