-- An XF load written and executed leaves the lent words in the XF memory.
use mathlib.Core.Path.{◌≡◌, refl, sym, ap, ◌∙◌}
use mathlib.Core.Bool.{◌&&◌}
use mathlib.Core.List.{List, [], ◌++◌, append-nil}
use Prim.Native.Nat.{ℕ, ◌+◌, ◌*◌, ◌≤◌}
use native.Mathlib.Omega.{arith}
use lib.Dec.{leb, eqb}
use lib.ListN.{length, length-append}
use lib.Seq.{take_all}
use borrow.Author.Tests.{not-false, eqb-true, ltb-false, le-leb}
use Rattle.std.proofs.lemmas.Bool.{and_parts}
use Rattle.octets.specs.BigEndian.{bytes_of, WordsFit, words_at}
use Rattle.command.specs.Command.{load_xf}
use Rattle.command.specs.Look.{xf_count}
use Rattle.effect.specs.Effect.{loaded_xf, xf_after}
use Rattle.writer.specs.Write.{head_of, words_of, word_bytes, command_bytes}
use Rattle.writable.specs.Writable.{unwritable, past_end}
use Rattle.writer.specs.Again.{held_words}
use Rattle.writer.specs.Back.{Writable, LoadsBack}
use Rattle.octets.proofs.Words.{length_words}
use Rattle.octets.proofs.WordsBack.{words_there}
use Rattle.writer.proofs.Again.{stored_words}

module _ (w a : ℕ) (words xf : List ℕ) (many : w ≡ length words) (h : WordsFit words) (fits : a + w ≤ length xf) where
  abbrev u : List ℕ
  u = head_of (load_xf w a) ++ word_bytes words

  head_length : length (head_of (load_xf w a)) ≡ 5
  unfolding head_of bytes_of
  head_length = refl

  unit_length : length u ≡ 5 + 4 * w
  unit_length =
      let n : length (word_bytes words) ≡ 4 * length words = length_words words in
      let k : length (head_of (load_xf w a)) ≡ 5 = head_length in
      rw (length-append (head_of (load_xf w a)) (word_bytes words)) (omega arith)

  words_are : words_at u 5 w ≡ words
  words_are =
      ap (λ (x : List ℕ). words_at (head_of (load_xf w a) ++ x) 5 w) (sym (append-nil (word_bytes words)))
      ∙ words_there (head_of (load_xf w a)) words [] 5 w h head_length (sym many)

  bytes_are : command_bytes (load_xf w a) words ≡ u
  unfolding command_bytes words_of
  bytes_are = ap (λ (x : List ℕ). head_of (load_xf w a) ++ word_bytes x) (take_all w words (omega arith))

  held_back : held_words (load_xf w a) u xf ≡ words
  unfolding held_words xf_after loaded_xf words_of
  held_back =
      rw (le-leb (5 + 4 * w) (length u) (omega (arith, unit_length)), le-leb (a + w) (length xf) fits)
      (stored_words xf u a w fits ∙ words_are)

pub loads_back : (w address : ℕ) (words xf : List ℕ) → Writable (load_xf w address) words → WordsFit words → length xf ≡ xf_count
    → LoadsBack (load_xf w address) words xf
unfolding unwritable past_end
loads_back w a words xf t h size =
    let all = not-false (leb 1 w && (leb w 16 && eqb w (length words))) t.writable in
    let m = (and_parts (leb 1 w) (leb w 16 && eqb w (length words)) all).1 in
    let many : w ≡ length words = eqb-true w (length words) (and_parts (leb w 16) (eqb w (length words)) m).1 in
    let fits : a + w ≤ length xf = rw size (ltb-false xf_count (a + w) t.within) in
    ap (λ (x : List ℕ). held_words (load_xf w a) x xf) (bytes_are w a words xf many h fits) ∙ held_back w a words xf many h fits
