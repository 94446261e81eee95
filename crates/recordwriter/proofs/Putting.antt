-- Bytes put one after the other over an output.
use mathlib.Core.Path.{◌≡◌, sym, ap, ap₂, ◌∙◌}
use mathlib.Core.List.{List, [], ◌∷◌, ◌++◌, append_assoc}
use Prim.Native.Nat.{ℕ, ◌+◌, ◌-◌, ◌*◌, ◌≤◌}
use native.Mathlib.Omega.{arith}
use lib.ListN.{length, take, drop, length-append, length-drop}
use lib.Seq.{take_at, drop_at, drop-drop, length-take-le}
use borrow.Rule.Slice.PartMut.{put_mid}
use Rattle.octets.specs.BigEndian.{bytes_of, word_bytes, with_words}
use Rattle.octets.proofs.Written.{length_bytes}
use Rattle.octets.proofs.Words.{words_one, words_lent}
use Rattle.places.specs.Places.{cp_count, bp_count}
use Rattle.command.specs.Look.{xf_count}
use Rattle.recording.specs.Format.{recording_of, section, head_bytes, file_bytes, stream_at}
use Rattle.recording.proofs.Sizes.{second, third, fourth, joined, head_length}
use Rattle.recordwriter.specs.Putting.{over, HeadOver}

-- a second piece right behind the first
over_next : (out a b : List ℕ) (at next : ℕ) → at ≤ length out → next ≡ at + length a → over (over out at a) next b ≡ over out at (a ++ b)
over_next out a b at next h e =
    let rest : List ℕ = drop (length a) (drop at out) in
    let front : List ℕ = take at out ++ a in
    let long : length front ≡ next = length-append (take at out) a ∙ ap (λ (n : ℕ). n + length a) (length-take-le at out h) ∙ sym e in
    let split : over out at a ≡ front ++ rest = sym (append_assoc (take at out) a rest) in
    let t : take next (over out at a) ≡ front = ap (λ (l : List ℕ). take next l) split ∙ take_at front rest next long in
    let d : drop next (over out at a) ≡ rest = ap (λ (l : List ℕ). drop next l) split ∙ drop_at front rest next long in
    let s : drop (length b) rest ≡ drop (length (a ++ b)) (drop at out) =
    drop-drop (length b) (length a) (drop at out) ∙ ap (λ (n : ℕ). drop n (drop at out)) (sym (length-append a b)) in
    ap₂ (λ (x y : List ℕ). x ++ (b ++ drop (length b) y)) t d
    ∙ append_assoc (take at out) a (b ++ drop (length b) rest)
    ∙ ap (λ (x : List ℕ). take at out ++ (a ++ (b ++ x))) s
    ∙ ap (λ (x : List ℕ). take at out ++ x) (sym (append_assoc a b (drop (length (a ++ b)) (drop at out))))

pub over_length : (out a : List ℕ) (at : ℕ) → at + length a ≤ length out → length (over out at a) ≡ length out
over_length out a at h =
    let t : length (take at out) ≡ at = length-take-le at out (omega arith) in
    rw (
      length-append (take at out) (a ++ drop (length a) (drop at out)),
      length-append a (drop (length a) (drop at out)),
      length-drop (length a) (drop at out),
      length-drop at out,
    ) (omega arith)

-- one number
pub number_put : (out v : List ℕ) (at n : ℕ) → at + 4 ≤ length out → v ≡ with_words (n ∷ []) (take (length out - at) (drop at out))
    → put_mid at (length out - at) out v ≡ over out at (bytes_of 4 n)
number_put out v at n h q = words_lent out (n ∷ []) v at (omega arith) q ∙ ap (over out at) (words_one n)

-- numbers behind their count
pub section_put : (out counted v numbers : List ℕ) (at : ℕ) → at + 4 + 4 * length numbers ≤ length out
    → counted ≡ over out at (bytes_of 4 (length numbers))
    → v ≡ with_words numbers (take (length counted - (at + 4)) (drop (at + 4) counted))
    → put_mid (at + 4) (length counted - (at + 4)) counted v ≡ over out at (section numbers)
section_put out counted v numbers at h e q =
    let four : length (bytes_of 4 (length numbers)) ≡ 4 = length_bytes 4 (length numbers) in
    let l : length counted ≡ length out =
    ap (λ (x : List ℕ). length x) e ∙ over_length out (bytes_of 4 (length numbers)) at (omega arith) in
    words_lent counted numbers v (at + 4) (omega arith) q
    ∙ ap (λ (x : List ℕ). over x (at + 4) (word_bytes numbers)) e
    ∙ over_next out (bytes_of 4 (length numbers)) (word_bytes numbers) at (at + 4) (omega arith) (omega arith)

module _ (cp bp xf : List ℕ) (n : ℕ) (of_cp : length cp ≡ cp_count) (of_bp : length bp ≡ bp_count) (of_xf : length xf ≡ xf_count) where
  -- the three sections and the count, one after the other
  pub head_put : (out a b c d : List ℕ) → stream_at ≤ length out → a ≡ over out 0 (section bp) → b ≡ over a 1028 (section cp)
      → c ≡ over b 1272 (section xf) → d ≡ over c 18012 (bytes_of 4 n) → HeadOver cp bp xf n out d
  head_put out a b c d h p q r s =
      let two : b ≡ over out 0 (section bp ++ section cp) =
      q ∙ ap (λ (x : List ℕ). over x 1028 (section cp)) p
      ∙ over_next out (section bp) (section cp) 0 1028 (omega arith) (omega (arith, second cp bp xf n of_cp of_bp of_xf)) in
      let three : c ≡ over out 0 ((section bp ++ section cp) ++ section xf) =
      r ∙ ap (λ (x : List ℕ). over x 1272 (section xf)) two
      ∙ over_next out (section bp ++ section cp) (section xf) 0 1272 (omega arith) (omega (arith, third cp bp xf n of_cp of_bp of_xf)) in
      let four : d ≡ over out 0 (head_bytes cp bp xf n) =
      s ∙ ap (λ (x : List ℕ). over x 18012 (bytes_of 4 n)) three
      ∙ over_next out ((section bp ++ section cp) ++ section xf) (bytes_of 4 n) 0 18012 (omega arith)
      (omega (arith, fourth cp bp xf n of_cp of_bp of_xf))
      ∙ ap (over out 0) (joined cp bp xf n of_cp of_bp of_xf) in
      record { out_is = four; size = head_length cp bp xf n of_cp of_bp of_xf }

-- the stream behind a head
pub stream_put : (cp bp xf stream out o v : List ℕ) → HeadOver cp bp xf (length stream) out o → stream_at ≤ length out → v ≡ stream
    → put_mid stream_at (stream_at + length stream - stream_at) o v ≡ over out 0 (file_bytes (recording_of cp bp xf stream))
unfolding file_bytes
stream_put cp bp xf stream out o v p h q =
    let head : List ℕ = head_bytes cp bp xf (length stream) in
    let n : stream_at + length stream - stream_at ≡ length stream = omega arith in
    rw (q, n)
    (ap (λ (x : List ℕ). over x stream_at stream) p.out_is
    ∙ over_next out head stream 0 stream_at (omega arith) (omega (arith, p.size)))
