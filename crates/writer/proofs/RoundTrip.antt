-- "Stepping a written command .. gives it back", as far as the look: what is written for a command is looked at as that command.
use mathlib.Core.Path.{◌≡◌, refl, sym, ap, ◌∙◌}
use mathlib.Core.Bool.{true}
use mathlib.Core.Logic.{◌⊎◌, inl, inr}
use mathlib.Core.List.{List, [], ◌∷◌, ◌++◌}
use Prim.Native.Nat.{ℕ, zero, suc, ◌+◌, ◌*◌, ◌/◌, ◌%◌, ◌^◌, ◌<◌, ◌≤◌}
use native.Mathlib.Omega.{arith}
use lib.ListN.{length, length-append}
use borrow.Author.Tests.{le-ltb}
use Rattle.octets.specs.BigEndian.{big_endian, bytes_of}
use Rattle.octets.proofs.Written.{length_bytes, read_back}
use Rattle.layout.specs.Answers.{refusal_of}
use Rattle.command.specs.declared.Draw.TheVariants.{Closed}
use Rattle.command.specs.Command.{unit, load_bp, load_cp, call_list, draw_head, load_xf, load_indexed}
use Rattle.places.specs.Places.{cp_accepted}
use Rattle.command.specs.Look.{xf_count, whole, look_cp, look_bp, look_call, xf_words, xf_address, look_xf}
use Rattle.command.specs.Look.{descriptor_of, look_head, look_indexed, indexed_array, memory_of, by_opcode, look_of}
use Rattle.command.proofs.Opcodes.{at_opcode, at_indexed, at_head}
use Rattle.command.proofs.Decided.{head_other}
use Rattle.writer.specs.Write.{length_field}

-- a unit whose bytes are there
pub there : (n length : ℕ) (c : List ℕ) (m : ℕ) → length ≤ n → whole n length c m ≡ unit c m length
unfolding whole
there n length c m h = rw (le-ltb n length h)

-- a look at bytes that begin with an opcode
pub opened : (op : ℕ) (l : List ℕ) (cp : List ℕ) → by_opcode op (op ∷ l) (length (op ∷ l)) cp ≡ look_of (op ∷ l) (length (op ∷ l)) cp Closed
opened op l cp = at_opcode (op ∷ l) (length (op ∷ l)) cp refl (λ e. omega arith)

module _ (rest cp : List ℕ) where
  pub bp_back : (register n : ℕ) → n < 2 ^ 24
      → look_of (0x61 ∷ register ∷ (bytes_of 3 n ++ rest)) (length (0x61 ∷ register ∷ (bytes_of 3 n ++ rest))) cp Closed
      ≡ unit (load_bp register n) 0 5
  unfolding by_opcode look_bp
  bp_back register n h =
      let l : List ℕ = register ∷ (bytes_of 3 n ++ rest) in
      let k : length (bytes_of 3 n ++ rest) ≡ 3 + length rest =
      length-append (bytes_of 3 n) rest ∙ ap (λ (x : ℕ). x + length rest) (length_bytes 3 n) in
      sym (opened 0x61 l cp)
      ∙ there (length (0x61 ∷ l)) 5 _ 0 (omega arith)
      ∙ ap (λ (x : ℕ). unit (load_bp register x) 0 5) (read_back (0x61 ∷ register ∷ []) 3 n rest h)

  pub cp_back : (address n : ℕ) → n < 2 ^ 32 → cp_accepted address ≡ true
      → look_of (0x08 ∷ address ∷ (bytes_of 4 n ++ rest)) (length (0x08 ∷ address ∷ (bytes_of 4 n ++ rest))) cp Closed
      ≡ unit (load_cp address n) 0 6
  unfolding by_opcode look_cp
  cp_back address n h ok =
      let l : List ℕ = address ∷ (bytes_of 4 n ++ rest) in
      let k : length (bytes_of 4 n ++ rest) ≡ 4 + length rest =
      length-append (bytes_of 4 n) rest ∙ ap (λ (x : ℕ). x + length rest) (length_bytes 4 n) in
      let two : 2 ≤ length (0x08 ∷ l) = omega arith in
      let six : 6 ≤ length (0x08 ∷ l) = omega arith in
      sym (opened 0x08 l cp)
      ∙ rw (le-ltb (length (0x08 ∷ l)) 2 two, ok)
      (there (length (0x08 ∷ l)) 6 _ 0 six ∙ ap (λ (x : ℕ). unit (load_cp address x) 0 6) (read_back (0x08 ∷ address ∷ []) 4 n rest h))

  pub call_back : (address size : ℕ) → address < 2 ^ 32 → size < 2 ^ 32
      → look_of (0x40 ∷ (bytes_of 4 address ++ (bytes_of 4 size ++ rest)))
      (length (0x40 ∷ (bytes_of 4 address ++ (bytes_of 4 size ++ rest)))) cp Closed
      ≡ unit (call_list address size) 0 9
  unfolding by_opcode look_call bytes_of
  call_back address size h k =
      let l : List ℕ = bytes_of 4 address ++ (bytes_of 4 size ++ rest) in
      sym (opened 0x40 l cp)
      ∙ there (length (0x40 ∷ l)) 9 _ 0 (omega arith)
      ∙ ap (λ (x : ℕ). unit (call_list x (big_endian (0x40 ∷ l) 5 4)) 0 9) (read_back (0x40 ∷ []) 4 address (bytes_of 4 size ++ rest) h)
      ∙ ap (λ (x : ℕ). unit (call_list address x) 0 9) (read_back (0x40 ∷ bytes_of 4 address) 4 size rest k)

  -- an XF load's words are its length modulo 16, plus 1
  words_back : (w : ℕ) → 1 ≤ w → w ≤ 16 → length_field w % 16 + 1 ≡ w
  words_back w a b = omega arith

  pub xf_back : (w address : ℕ) → 1 ≤ w → w ≤ 16 → address < 65536 → address + w ≤ xf_count → 4 * w ≤ length rest
      → look_of (0x10 ∷ (bytes_of 2 (length_field w) ++ (bytes_of 2 address ++ rest)))
      (length (0x10 ∷ (bytes_of 2 (length_field w) ++ (bytes_of 2 address ++ rest)))) cp Closed
      ≡ unit (load_xf w address) 0 (5 + 4 * w)
  unfolding by_opcode look_xf xf_words xf_address bytes_of
  xf_back w address some most h fits long =
      let l : List ℕ = bytes_of 2 (length_field w) ++ (bytes_of 2 address ++ rest) in
      let five : 5 ≤ length (0x10 ∷ l) = omega arith in
      let a : big_endian (0x10 ∷ l) 1 2 ≡ length_field w =
      read_back (0x10 ∷ []) 2 (length_field w) (bytes_of 2 address ++ rest) (omega arith) in
      let b : big_endian (0x10 ∷ l) 3 2 ≡ address = read_back (0x10 ∷ bytes_of 2 (length_field w)) 2 address rest h in
      let k : big_endian (0x10 ∷ l) 1 2 % 16 + 1 ≡ w = ap (λ (x : ℕ). x % 16 + 1) a ∙ words_back w some most in
      sym (opened 0x10 l cp)
      ∙ rw (le-ltb (length (0x10 ∷ l)) 5 five, b, k, le-ltb xf_count (address + w) fits)
      (there (length (0x10 ∷ l)) (5 + 4 * w) (load_xf w address) 0 (omega arith))

  -- the opcode of an indexed load's array
  index_key : (k : ℕ) → k < 4 → (0x20 + 8 * k ≡ 0x20) ⊎ ((0x20 + 8 * k ≡ 0x28) ⊎ ((0x20 + 8 * k ≡ 0x30) ⊎ (0x20 + 8 * k ≡ 0x38)))
  index_key zero h = inl refl
  index_key (suc zero) h = inr (inl refl)
  index_key (suc (suc zero)) h = inr (inr (inl refl))
  index_key (suc (suc (suc zero))) h = inr (inr (inr refl))
  index_key (suc (suc (suc (suc k)))) h = absurd (omega (arith, h))

  pub indexed_back : (array index w address : ℕ) → 12 ≤ array → array ≤ 15 → index < 65536 → 1 ≤ w → w ≤ 16 → address < 4096
      → look_of ((0x20 + 8 * (array % 4)) ∷ (bytes_of 2 index ++ (bytes_of 2 (length_field w * 4096 + address % 4096) ++ rest)))
      (length ((0x20 + 8 * (array % 4)) ∷ (bytes_of 2 index ++ (bytes_of 2 (length_field w * 4096 + address % 4096) ++ rest)))) cp Closed
      ≡ unit (load_indexed array index w address) (memory_of cp array index) 5
  unfolding look_indexed bytes_of
  indexed_back array index w address lo hi h some most short =
      let op : ℕ = 0x20 + 8 * (array % 4) in
      let word : ℕ = length_field w * 4096 + address % 4096 in
      let l : List ℕ = bytes_of 2 index ++ (bytes_of 2 word ++ rest) in
      let a : big_endian (op ∷ l) 1 2 ≡ index = read_back (op ∷ []) 2 index (bytes_of 2 word ++ rest) h in
      let b : big_endian (op ∷ l) 3 2 ≡ word = read_back (op ∷ bytes_of 2 index) 2 word rest (omega arith) in
      let k : indexed_array op ≡ array = omega arith in
      let q : word / 4096 + 1 ≡ w = omega arith in
      let r : word % 4096 ≡ address = omega arith in
      sym (opened op l cp)
      ∙ sym (at_indexed (op ∷ l) (length (op ∷ l)) cp op (index_key (array % 4) (omega arith)))
      ∙ there (length (op ∷ l)) 5 _ _ (omega arith)
      ∙ rw (a, b, k, q, r)

  pub head_back : (primitive format count : ℕ) → primitive < 8 → format < 8 → count < 65536 → refusal_of (descriptor_of cp format) ≡ 0
      → look_of ((0x80 + 8 * (primitive % 8) + format % 8) ∷ (bytes_of 2 count ++ rest))
      (length ((0x80 + 8 * (primitive % 8) + format % 8) ∷ (bytes_of 2 count ++ rest))) cp Closed
      ≡ unit (draw_head primitive format count) 0 3
  unfolding look_head bytes_of
  head_back primitive format count p f h e =
      let op : ℕ = 0x80 + 8 * (primitive % 8) + format % 8 in
      let l : List ℕ = bytes_of 2 count ++ rest in
      let a : big_endian (op ∷ l) 1 2 ≡ count = read_back (op ∷ []) 2 count rest h in
      let k : op / 8 % 8 ≡ primitive = omega arith in
      let q : op % 8 ≡ format = omega arith in
      sym (opened op l cp)
      ∙ sym (at_head (op ∷ l) (length (op ∷ l)) cp (head_other op (omega arith)) (omega arith) (omega arith))
      ∙ rw (q, e, a, k) (there (length (op ∷ l)) 3 (draw_head primitive format count) 0 (omega arith))
