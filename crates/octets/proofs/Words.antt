-- Words stored one after the other are the words' bytes.
use mathlib.Core.Path.{◌≡◌, refl, ◌∙◌}
use mathlib.Core.List.{List, [], ◌∷◌, ◌++◌, append_assoc, append-nil}
use Prim.Native.Nat.{ℕ, ◌+◌, ◌-◌, ◌*◌, ◌/◌, ◌%◌, ◌<◌, ◌≤◌}
use native.Mathlib.Numerals.{add-one}
use native.Mathlib.Omega.{arith}
use lib.ListN.{length, get_or, take, drop, length-append, length-drop}
use lib.Seq.{take-suc, take_at, drop-append-add, drop-drop, length-take-le}
use borrow.Author.Tests.{le-leb}
use borrow.Rule.Slice.PartMut.{put_mid}
use Rattle.std.specs.Int.{w32, to_be_bytes}
use Rattle.laws.proofs.Pieces.{lent_rest}
use Rattle.octets.specs.BigEndian.{bytes_of, word_bytes, with_words}
use Rattle.octets.proofs.Written.{length_bytes}

pub length_words : (ws : List ℕ) → length (word_bytes ws) ≡ 4 * length ws
unfolding word_bytes
length_words [] = refl
length_words (w ∷ ws) =
    let e : length (bytes_of 4 w) ≡ 4 = length_bytes 4 w in
    rw (length-append, length_words ws) (omega arith)

pub words_append : (xs ys : List ℕ) → word_bytes (xs ++ ys) ≡ word_bytes xs ++ word_bytes ys
unfolding word_bytes
words_append [] ys = refl
words_append (x ∷ xs) ys = rw (words_append xs ys, append_assoc)

pub words_one : (w : ℕ) → word_bytes (w ∷ []) ≡ bytes_of 4 w
unfolding word_bytes
words_one w = append-nil (bytes_of 4 w)

-- a word's four bytes, as std writes them
pub four_bytes_written : (w : ℕ) → to_be_bytes w32 w ≡ bytes_of 4 w
unfolding bytes_of
four_bytes_written w =
    let high : w / 16777216 % 256 ≡ w / 256 / 256 / 256 % 256 = omega arith in
    let next : w / 65536 % 256 ≡ w / 256 / 256 % 256 = omega arith in
    rw (high, next)

-- the output with the first i words at its front
abbrev pub state : List ℕ → List ℕ → ℕ → List ℕ
state out words i = word_bytes (take i words) ++ drop (4 * i) out

pub state_none : (out words : List ℕ) → out ≡ state out words 0
unfolding word_bytes
state_none out words = refl

module _ (out words : List ℕ) (i : ℕ) (there : i < length words) (room : 4 * (i + 1) ≤ length out) where
  abbrev before : List ℕ
  before = word_bytes (take i words)

  before_length : length before ≡ 4 * i
  before_length =
      let b : length (take i words) ≡ i = length-take-le i words (omega arith) in
      rw length_words (omega arith)

  next_words : word_bytes (take (i + 1) words) ≡ before ++ bytes_of 4 (get_or words i 0)
  next_words = rw (add-one i, take-suc words i 0 there, words_append (take i words) (get_or words i 0 ∷ []), words_one (get_or words i 0))

  rest : drop (4 * i + 4) (state out words i) ≡ drop (4 * (i + 1)) out
  rest =
      let e : 4 * i + 4 ≡ length before + 4 = omega (arith, before_length) in
      let f : 4 * i + 4 ≡ 4 * (i + 1) = omega arith in
      rw (e, drop-append-add before (drop (4 * i) out) 4, drop-drop 4 (4 * i) out, f)

  front : take (4 * i) (state out words i) ≡ before
  front = take_at before (drop (4 * i) out) (4 * i) before_length

  -- the four bytes of the next word
  pub state_next : {o v : List ℕ} {n : ℕ} → o ≡ state out words i → v ≡ to_be_bytes w32 (get_or words i 0) → n ≡ 4
      → put_mid (4 * i) n o v ≡ state out words (i + 1)
  state_next so_far w e =
      rw (so_far, w ∙ four_bytes_written (get_or words i 0), e, drop-drop 4 (4 * i) (state out words i), front, rest, next_words)
      (simp append_assoc)

-- words over what is left of an output from a place on
pub words_lent : (out ws v : List ℕ) (at : ℕ) → at + 4 * length ws ≤ length out → v ≡ with_words ws (take (length out - at) (drop at out))
    → put_mid at (length out - at) out v ≡ take at out ++ (word_bytes ws ++ drop (length (word_bytes ws)) (drop at out))
words_lent out ws v at h q =
    let part : List ℕ = take (length out - at) (drop at out) in
    let l : length part ≡ length out - at = length-take-le (length out - at) (drop at out) (rw length-drop (omega arith)) in
    lent_rest out (word_bytes ws) v at (q ∙ rw (le-leb (4 * length ws) (length part) (omega arith), length_words ws))
