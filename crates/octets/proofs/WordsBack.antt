-- Words are read back from the bytes that are written for them, and bytes are written back from the words that were read.
use mathlib.Core.Path.{◌≡◌, refl, sym, ap, ap₂, ◌∙◌}
use mathlib.Core.List.{List, [], ◌∷◌, ◌++◌, append_assoc}
use Prim.Native.Nat.{ℕ, zero, suc, ◌+◌, ◌*◌, ◌<◌, ◌≤◌}
use native.Mathlib.Omega.{arith}
use lib.ListN.{length, get_or, take, drop}
use lib.Seq.{drop-drop, take-add, ext_get_or}
use Rattle.laws.specs.Values.{up_to}
use Rattle.laws.proofs.Filled.{length_up_to, get_d_up_to}
use Rattle.octets.specs.BigEndian.{Octets, big_endian, bytes_of, WordsFit, words_at, word_bytes}
use Rattle.octets.proofs.Written.{length_bytes, shift, read_back, write_back}
use Rattle.octets.proofs.Words.{words_append, words_one}

-- words that were read, written again, are the bytes that they were read from
pub words_back : (l : List ℕ) (at n : ℕ) → Octets l → at + 4 * n ≤ length l → word_bytes (words_at l at n) ≡ take (4 * n) (drop at l)
unfolding word_bytes up_to
words_back l at zero o h = refl
words_back l at (suc n) o h =
    let v : ℕ = big_endian l (at + 4 * n) 4 in
    let w : bytes_of 4 v ≡ take 4 (drop (at + 4 * n) l) = write_back l (at + 4 * n) 4 o (omega arith) in
    let f : 4 * suc n ≡ 4 * n + 4 = omega arith in
    words_append (words_at l at n) (v ∷ [])
    ∙ rw (words_one v, words_back l at n o (omega arith), w, f, take-add (4 * n) 4 (drop at l), drop-drop (4 * n) at l)

-- a word is read from its place among the words' bytes
word_at_lem : (ws y : List ℕ) → WordsFit ws → (i : ℕ) → i < length ws → big_endian (word_bytes ws ++ y) (4 * i) 4 ≡ get_or ws i 0
unfolding word_bytes
word_at_lem [] y f i h = absurd (omega (arith, h))
word_at_lem (w ∷ ws) y f zero h =
    ap (λ (l : List ℕ). big_endian l 0 4) (append_assoc (bytes_of 4 w) (word_bytes ws) y) ∙ read_back [] 4 w (word_bytes ws ++ y) (f 0)
word_at_lem (w ∷ ws) y f (suc i) h =
    let e : 4 * suc i ≡ length (bytes_of 4 w) + 4 * i = omega (arith, length_bytes 4 w) in
    ap₂ (λ (l : List ℕ) (k : ℕ). big_endian l k 4) (append_assoc (bytes_of 4 w) (word_bytes ws) y) e
    ∙ shift (bytes_of 4 w) (word_bytes ws ++ y) (4 * i) 4
    ∙ word_at_lem ws y (λ k. f (suc k)) i (omega arith)

-- a word whose bytes stand anywhere
pub word_there : (x ws y : List ℕ) → WordsFit ws → (i : ℕ) → i < length ws
    → big_endian (x ++ (word_bytes ws ++ y)) (length x + 4 * i) 4 ≡ get_or ws i 0
word_there x ws y f i h = shift x (word_bytes ws ++ y) (4 * i) 4 ∙ word_at_lem ws y f i h

-- all of them
pub words_there : (x ws y : List ℕ) (at n : ℕ) → WordsFit ws → length x ≡ at → length ws ≡ n
    → words_at (x ++ (word_bytes ws ++ y)) at n ≡ ws
words_there x ws y at n f p q =
    ext_get_or 0 (words_at (x ++ (word_bytes ws ++ y)) at n) ws (length_up_to _ n ∙ sym q)
    (λ i h.
    let l : i < n = rw (length_up_to (λ j. big_endian (x ++ (word_bytes ws ++ y)) (at + 4 * j) 4) n) at h in
    get_d_up_to _ n i l
    ∙ ap (λ (a : ℕ). big_endian (x ++ (word_bytes ws ++ y)) (a + 4 * i) 4) (sym p)
    ∙ word_there x ws y f i (omega arith))
