-- Read and written again: the bytes of a unit come back.
use mathlib.Core.Path.{◌≡◌, refl, sym, ap, ◌∙◌}
use mathlib.Core.Bool.{false}
use mathlib.Core.Logic.{◌⊎◌, inl, inr}
use mathlib.Core.List.{List, [], ◌∷◌, ◌++◌, append-nil}
use Prim.Native.Nat.{ℕ, zero, suc, ◌+◌, ◌*◌, ◌/◌, ◌%◌, ◌^◌, ◌<◌, ◌≤◌}
use native.Mathlib.Omega.{arith}
use lib.Dec.{eqb}
use lib.ListN.{length, get_or, take, drop, length-drop, take-append-drop}
use borrow.Author.Tests.{le-leb}
use lib.Seq.{take-take, take_all, drop-cons, drop-drop, drop-set-add, take-suc-set}
use Rattle.octets.specs.BigEndian.{big_endian, bytes_of, words_at}
use Rattle.laws.specs.Values.{up_to}
use Rattle.octets.proofs.Number.{Octets, big_lt, two_bytes}
use Rattle.octets.proofs.Written.{write_back}
use Rattle.command.specs.Command.{load_cp, load_xf, load_indexed, call_list, load_bp, draw_head}
use Rattle.command.specs.Look.{xf_words, xf_address, indexed_array}
use Rattle.effect.specs.Effect.{stored_xf, loaded_xf, xf_after}
use Rattle.effect.proofs.Lengths.{length_stored}
use Rattle.writer.specs.Write.{length_field, head_of, words_of, word_bytes, command_bytes}
use Rattle.writer.specs.Again.{lowered, held_words}
use Rattle.octets.proofs.WordsBack.{words_back}

-- a load of one word more adds that word
stored_next : (xf u : List ℕ) (a n : ℕ) → a + suc n ≤ length xf
    → take (suc n) (drop a (stored_xf xf u a (suc n))) ≡ take n (drop a (stored_xf xf u a n)) ++ (big_endian u (5 + 4 * n) 4 ∷ [])
unfolding stored_xf
stored_next xf u a n h =
    let x : List ℕ = stored_xf xf u a n in
    let l : length x ≡ length xf = length_stored xf u a n in
    let short : n < length (drop a x) = rw length-drop (omega arith) in
    ap (λ (y : List ℕ). take (suc n) y) (drop-set-add a x n (big_endian u (5 + 4 * n) 4)) ∙ take-suc-set (drop a x) n _ short

-- the words that a load stores are those of its unit
pub stored_words : (xf u : List ℕ) (a n : ℕ) → a + n ≤ length xf → take n (drop a (stored_xf xf u a n)) ≡ words_at u 5 n
unfolding up_to
stored_words xf u a zero h = refl
stored_words xf u a (suc n) h =
    stored_next xf u a n h ∙ ap (λ (l : List ℕ). l ++ (big_endian u (5 + 4 * n) 4 ∷ [])) (stored_words xf u a n (omega arith))

-- and written again they are its bytes
words_again : (xf u : List ℕ) → Octets u → (a n : ℕ) → a + n ≤ length xf → 5 + 4 * n ≤ length u
    → word_bytes (take n (drop a (stored_xf xf u a n))) ≡ take (4 * n) (drop 5 u)
words_again xf u o a n h k = ap word_bytes (stored_words xf u a n h) ∙ words_back u 5 n o k

-- ---- a list as its pieces
piece : (l : List ℕ) (k : ℕ) → k < length l → get_or l k 0 ∷ [] ≡ take 1 (drop k l)
piece l k h = sym (ap (λ (x : List ℕ). take 1 x) (drop-cons l k 0 h))

two : (l : List ℕ) (a b : ℕ) → length l ≡ a + b → take a l ++ take b (drop a l) ≡ l
two l a b e =
    let k : length (drop a l) ≤ b = rw length-drop (omega arith) in
    rw (take_all b (drop a l) k) (take-append-drop a l)

three : (l : List ℕ) (a b c : ℕ) → length l ≡ a + b + c → take a l ++ (take b (drop a l) ++ take c (drop (a + b) l)) ≡ l
three l a b c e =
    let k : length (drop a l) ≡ b + c = rw length-drop (omega arith) in
    rw (← drop-drop b a l, two (drop a l) b c k) (take-append-drop a l)

-- a command that names no words is its head
no_words : (c words : List ℕ) → words_of c ≡ 0 → command_bytes c words ≡ head_of c
unfolding command_bytes word_bytes
no_words c words e = rw e (append-nil (head_of c))

-- ---- each class of unit
module _ (u xf : List ℕ) (o : Octets u) where
  abbrev Back : List ℕ → Type 0
  Back c = command_bytes c (held_words c u xf) ≡ lowered c u

  first : (op : ℕ) → 1 ≤ length u → get_or u 0 0 ≡ op → op ∷ [] ≡ take 1 u
  first op h e = ap (λ (x : ℕ). x ∷ []) (sym e) ∙ piece u 0 h

  pub plain_again : (op : ℕ) → length u ≡ 1 → get_or u 0 0 ≡ op → eqb op 0x10 ≡ false → head_of (op ∷ []) ≡ op ∷ [] → Back (op ∷ [])
  unfolding words_of lowered
  plain_again op l e n h = rw n (no_words (op ∷ []) _ (rw n) ∙ h ∙ first op (omega arith) e ∙ take_all 1 u (omega arith))

  -- an opcode, a byte, and a number
  byte_again : (op n : ℕ) → length u ≡ 1 + 1 + n → get_or u 0 0 ≡ op → op ∷ get_or u 1 0 ∷ bytes_of n (big_endian u 2 n) ≡ u
  byte_again op n l e =
      ap (λ (x : List ℕ). op ∷ get_or u 1 0 ∷ x) (write_back u 2 n o (omega arith))
      ∙ ap (λ (x : List ℕ). x ++ (get_or u 1 0 ∷ take n (drop 2 u))) (first op (omega arith) e)
      ∙ ap (λ (x : List ℕ). take 1 u ++ (x ++ take n (drop 2 u))) (piece u 1 (omega arith))
      ∙ three u 1 1 n l

  -- an opcode and two numbers
  pair_again : (op n k : ℕ) → length u ≡ 1 + n + k → get_or u 0 0 ≡ op
      → op ∷ (bytes_of n (big_endian u 1 n) ++ bytes_of k (big_endian u (1 + n) k)) ≡ u
  pair_again op n k l e =
      ap (λ (x : List ℕ). op ∷ (x ++ bytes_of k (big_endian u (1 + n) k))) (write_back u 1 n o (omega arith))
      ∙ ap (λ (x : List ℕ). op ∷ (take n (drop 1 u) ++ x)) (write_back u (1 + n) k o (omega arith))
      ∙ ap (λ (x : List ℕ). x ++ (take n (drop 1 u) ++ take k (drop (1 + n) u))) (first op (omega arith) e)
      ∙ three u 1 n k l

  pub bp_again : length u ≡ 5 → get_or u 0 0 ≡ 0x61 → Back (load_bp (get_or u 1 0) (big_endian u 2 3))
  unfolding head_of words_of lowered
  bp_again l e = no_words _ _ refl ∙ byte_again 0x61 3 l e

  pub cp_again : length u ≡ 6 → get_or u 0 0 ≡ 0x08 → Back (load_cp (get_or u 1 0) (big_endian u 2 4))
  unfolding head_of words_of lowered
  cp_again l e = no_words _ _ refl ∙ byte_again 0x08 4 l e

  pub call_again : length u ≡ 9 → get_or u 0 0 ≡ 0x40 → Back (call_list (big_endian u 1 4) (big_endian u 5 4))
  unfolding head_of words_of lowered
  call_again l e = no_words _ _ refl ∙ pair_again 0x40 4 4 l e

  -- the opcodes of indexed loads and draws
  pub indexed_op : (op : ℕ) → (op ≡ 0x20) ⊎ ((op ≡ 0x28) ⊎ ((op ≡ 0x30) ⊎ (op ≡ 0x38))) → 0x20 + 8 * (indexed_array op % 4) ≡ op
  indexed_op op (inl e) = rw e
  indexed_op op (inr (inl e)) = rw e
  indexed_op op (inr (inr (inl e))) = rw e
  indexed_op op (inr (inr (inr e))) = rw e

  pub indexed_again : (op : ℕ) → length u ≡ 5 → get_or u 0 0 ≡ op → 0x20 + 8 * (indexed_array op % 4) ≡ op
      → Back (load_indexed (indexed_array op) (big_endian u 1 2) (big_endian u 3 2 / 4096 + 1) (big_endian u 3 2 % 4096))
  unfolding head_of words_of lowered
  indexed_again op l e k =
      let v : ℕ = big_endian u 3 2 in
      let h : v < 256 ^ 2 = big_lt u 3 o 2 in
      let w : length_field (v / 4096 + 1) * 4096 + v % 4096 % 4096 ≡ v = omega arith in
      no_words _ _ refl
      ∙ ap (λ (x : ℕ). x ∷ (bytes_of 2 (big_endian u 1 2) ++ bytes_of 2 (length_field (v / 4096 + 1) * 4096 + v % 4096 % 4096))) k
      ∙ ap (λ (x : ℕ). op ∷ (bytes_of 2 (big_endian u 1 2) ++ bytes_of 2 x)) w
      ∙ pair_again op 2 2 l e

  pub head_again : (op : ℕ) → length u ≡ 3 → get_or u 0 0 ≡ op → 0x80 ≤ op → op < 0xC0
      → Back (draw_head (op / 8 % 8) (op % 8) (big_endian u 1 2))
  unfolding head_of words_of lowered
  head_again op l e lo hi =
      let k : 0x80 + 8 * (op / 8 % 8 % 8) + op % 8 % 8 ≡ op = omega arith in
      no_words _ _ refl
      ∙ ap (λ (x : ℕ). x ∷ bytes_of 2 (big_endian u 1 2)) k
      ∙ ap (λ (x : List ℕ). op ∷ x) (write_back u 1 2 o (omega arith))
      ∙ ap (λ (x : List ℕ). x ++ take 2 (drop 1 u)) (first op (omega arith) e)
      ∙ two u 1 2 l

  -- the words that the memory holds after the load
  held : (w a : ℕ) → 5 + 4 * w ≤ length u → a + w ≤ length xf → word_bytes (held_words (load_xf w a) u xf) ≡ take (4 * w) (drop 5 u)
  unfolding held_words xf_after loaded_xf words_of
  held w a h k = rw (le-leb (5 + 4 * w) (length u) h, le-leb (a + w) (length xf) k) (words_again xf u o a w k h)

  held_many : (w a : ℕ) → a + w ≤ length xf → take w (held_words (load_xf w a) u xf) ≡ held_words (load_xf w a) u xf
  unfolding held_words words_of
  held_many w a k = take-take w w (drop a (xf_after (load_xf w a) u xf)) (omega arith)

  pub xf_again : (w a : ℕ) → length u ≡ 5 + 4 * w → get_or u 0 0 ≡ 0x10 → w ≡ xf_words u → a ≡ xf_address u → a + w ≤ length xf
      → Back (load_xf w a)
  unfolding command_bytes head_of words_of lowered xf_words xf_address bytes_of
  xf_again w a l e p q k =
      let high : get_or u 1 0 < 256 = o 1 in
      let v : big_endian u 1 2 ≡ get_or u 1 0 * 256 + get_or u 2 0 = two_bytes u 1 in
      let low : length_field w % 256 ≡ get_or u 2 0 % 16 = omega arith in
      let zero-byte : length_field w / 256 % 256 ≡ 0 = omega arith in
      let d : length (drop 3 u) ≡ 2 + 4 * w = rw length-drop (omega arith) in
      let r : take 2 (drop 3 u) ++ take (4 * w) (drop 5 u) ≡ drop 3 u =
      ap (λ (x : List ℕ). take 2 (drop 3 u) ++ take (4 * w) x) (sym (drop-drop 2 3 u)) ∙ two (drop 3 u) 2 (4 * w) d in
      let b : bytes_of 2 a ≡ take 2 (drop 3 u) = ap (λ (x : ℕ). bytes_of 2 x) q ∙ write_back u 3 2 o (omega arith) in
      let h : word_bytes (take w (held_words (load_xf w a) u xf)) ≡ take (4 * w) (drop 5 u) =
      ap word_bytes (held_many w a k) ∙ held w a (omega arith) k in
      ap (λ (x : List ℕ). 0x10 ∷ (length_field w / 256 % 256) ∷ (length_field w % 256) ∷ (bytes_of 2 a ++ x)) h
      ∙ ap (λ (x : List ℕ). 0x10 ∷ (length_field w / 256 % 256) ∷ (length_field w % 256) ∷ (x ++ take (4 * w) (drop 5 u))) b
      ∙ ap (λ (x : List ℕ). 0x10 ∷ (length_field w / 256 % 256) ∷ (length_field w % 256) ∷ x) r
      ∙ ap (λ (x : ℕ). 0x10 ∷ x ∷ (length_field w % 256) ∷ drop 3 u) zero-byte
      ∙ ap (λ (x : ℕ). 0x10 ∷ 0 ∷ x ∷ drop 3 u) low
