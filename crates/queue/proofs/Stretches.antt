-- Lists with a straight stretch replaced, and with two that go round the end: which places change, and to what.
use Prim.Native.Nat.{ℕ, ◌+◌, ◌-◌, ◌%◌, ◌≤◌, ◌<◌}
use mathlib.Core.Path.{◌≡◌, sym, ap, ◌∙◌}
use mathlib.Core.Logic.{⊎_elim}
use mathlib.Core.List.{List, ◌++◌, append_assoc}
use native.Mathlib.Nat.{mod-eq_of_lt, le_of_eq}
use native.Mathlib.Omega.{arith}
use lib.ListN.{length, get_or, take, drop, length-append, length-drop, get_or-append, take-append-drop, drop_of_length-le}
use lib.Seq.{length-take-le, take_all, take-length, drop-drop, get_or-take, get_or-drop, get_or-append-add}
use borrow.Rule.Slice.PartMut.{put_mid}
use Rattle.std.proofs.lemmas.Bool.{cases_lt}
use Rattle.laws.proofs.Pieces.{lent_rest}
use Rattle.laws.proofs.Remainder.{mod_two, mod_once}
use Rattle.queue.specs.Feeding.{put, put_round}

module _ (ring : List ℕ) (at : ℕ) (bytes : List ℕ) (h : at + length bytes ≤ length ring) where
  front : length (take at ring) ≡ at
  front = length-take-le at ring (omega arith)

  head : length (take at ring ++ bytes) ≡ at + length bytes
  head = omega (arith, length-append (take at ring) bytes, front)

  pub length_put : length (put ring at bytes) ≡ length ring
  length_put =
      omega (arith, length-append (take at ring ++ bytes) (drop (at + length bytes) ring), head, length-drop (at + length bytes) ring)

  pub put_before : (j : ℕ) → j < at → get_or (put ring at bytes) j 0 ≡ get_or ring j 0
  put_before j l =
      get_or-append (take at ring ++ bytes) (drop (at + length bytes) ring) 0 j (omega (arith, head)) ∙
      get_or-append (take at ring) bytes 0 j (omega (arith, front)) ∙
      get_or-take at ring j 0 l

  pub put_inside : (i : ℕ) → i < length bytes → get_or (put ring at bytes) (at + i) 0 ≡ get_or bytes i 0
  put_inside i l =
      get_or-append (take at ring ++ bytes) (drop (at + length bytes) ring) 0 (at + i) (omega (arith, head)) ∙
      ap (λ (x : ℕ). get_or (take at ring ++ bytes) (x + i) 0) (sym front) ∙
      get_or-append-add (take at ring) bytes i 0

  pub put_after : (j : ℕ) → at + length bytes ≤ j → get_or (put ring at bytes) j 0 ≡ get_or ring j 0
  put_after j l =
      let i : ℕ = j - (at + length bytes) in
      let e : j ≡ length (take at ring ++ bytes) + i = omega (arith, head) in
      let f : at + length bytes + i ≡ j = omega arith in
      ap (λ (x : ℕ). get_or (put ring at bytes) x 0) e ∙
      get_or-append-add (take at ring ++ bytes) (drop (at + length bytes) ring) i 0 ∙
      get_or-drop (at + length bytes) ring i 0 ∙
      ap (λ (x : ℕ). get_or ring x 0) f

-- the two stretches' lengths
pub record Split (straight : ℕ) (bytes : List ℕ) : Type 0 where
  pub rest : length (drop straight bytes) ≡ length bytes - straight
  pub both : length (take straight bytes) + length (drop straight bytes) ≡ length bytes

pub split : (straight : ℕ) (bytes : List ℕ) → Split straight bytes
split straight bytes =
    record {
      rest = length-drop straight bytes;
      both = sym (length-append (take straight bytes) (drop straight bytes)) ∙ ap length (take-append-drop straight bytes);
    }

module _ (ring : List ℕ) (at straight : ℕ) (bytes : List ℕ) (turn : at + straight ≡ length ring) (h : length bytes ≤ length ring) where
  parts : Split straight bytes
  parts = split straight bytes

  once : List ℕ
  once = put ring at (take straight bytes)

  fits : at + length (take straight bytes) ≤ length ring
  fits = let p = parts in omega arith

  once_length : length once ≡ length ring
  unfolding once
  once_length = length_put ring at (take straight bytes) fits

  again : 0 + length (drop straight bytes) ≤ length once
  again = let p = parts in omega (arith, once_length)

  pub length_put_round : length (put_round ring at straight bytes) ≡ length ring
  unfolding put_round once
  length_put_round = length_put once 0 (drop straight bytes) again ∙ once_length

  -- the place of byte i, going round
  pub round_at : (i : ℕ) → i < length bytes → get_or (put_round ring at straight bytes) ((at + i) % length ring) 0 ≡ get_or bytes i 0
  unfolding put_round once
  round_at i l =
      let p = parts in
      ⊎_elim
      (λ m.
      let e : (at + i) % length ring ≡ at + i = m.1 in
      ap (λ (x : ℕ). get_or (put_round ring at straight bytes) x 0) e ∙
      put_after once 0 (drop straight bytes) again (at + i) (omega arith) ∙
      put_inside ring at (take straight bytes) fits i (omega arith) ∙
      get_or-take straight bytes i 0 (omega (arith, m)))
      (λ m.
      let k : ℕ = i - straight in
      let e : (at + i) % length ring ≡ 0 + k = omega (arith, m) in
      let q : straight + k ≡ i = omega (arith, m) in
      ap (λ (x : ℕ). get_or (put_round ring at straight bytes) x 0) e ∙
      put_inside once 0 (drop straight bytes) again k (omega (arith, m)) ∙
      get_or-drop straight bytes k 0 ∙
      ap (λ (x : ℕ). get_or bytes x 0) q)
      (mod_two (at + i) (length ring) (omega arith))

  -- every other place keeps its byte
  pub round_other : (j : ℕ) → ((i : ℕ) → i < length bytes → j ≡ (at + i) % length ring → ⊥)
      → get_or (put_round ring at straight bytes) j 0 ≡ get_or ring j 0
  unfolding put_round once
  round_other j n =
      let p = parts in
      ⊎_elim
      (λ l.
      let e : straight + j < length bytes = omega arith in
      let q : at + (straight + j) ≡ j + length ring = omega arith in
      absurd (n (straight + j) e (sym (ap (λ (x : ℕ). x % length ring) q ∙ mod_once (omega arith)))))
      (λ l.
      put_after once 0 (drop straight bytes) again j (omega arith) ∙
      ⊎_elim
      (λ m. put_before ring at (take straight bytes) fits j m)
      (λ m.
      ⊎_elim
      (λ k.
      let e : at + (j - at) ≡ j = omega arith in
      absurd (n (j - at) (omega arith) (sym (ap (λ (x : ℕ). x % length ring) e ∙ mod-eq_of_lt (omega arith)))))
      (λ k. put_after ring at (take straight bytes) fits j k)
      (cases_lt j (at + length (take straight bytes))))
      (cases_lt j at))
      (cases_lt j (length (drop straight bytes)))

-- a part of the ring from a place to its end, given back with the bytes over its front
pub put_lent : (ring : List ℕ) (at : ℕ) (bytes v : List ℕ)
    → v ≡ take (length bytes) bytes ++ drop (length bytes) (take (length ring - at) (drop at ring))
    → put_mid at (length ring - at) ring v ≡ put ring at bytes
put_lent ring at bytes v e =
    lent_rest ring bytes v at (e ∙ rw (take-length bytes)) ∙
    ap (λ (x : List ℕ). take at ring ++ (bytes ++ x)) (drop-drop (length bytes) at ring) ∙
    sym (append_assoc (take at ring) bytes (drop (at + length bytes) ring))

-- a stretch of a ring, given back with the bytes in its place
pub put_over : {A : Type 0} (ring : List A) (at : ℕ) (bytes v : List A) → v ≡ bytes
    → put_mid at (at + length bytes - at) ring v ≡ put ring at bytes
put_over ring at bytes v e =
    let n : at + length bytes - at ≡ length bytes = omega arith in
    rw (e, n, drop-drop (length bytes) at ring) (sym (append_assoc (take at ring) bytes (drop (at + length bytes) ring)))

-- ---- the two stretches where the first takes all

pub put_straight : (ring : List ℕ) (at straight : ℕ) (bytes : List ℕ) → length bytes ≤ straight
    → put ring at bytes ≡ put_round ring at straight bytes
unfolding put_round
put_straight ring at straight bytes h = rw (take_all straight bytes h, drop_of_length-le bytes h)

pub put_both : (ring : List ℕ) (at straight : ℕ) (bytes : List ℕ) {once : List ℕ} → once ≡ put ring at (take straight bytes)
    → put once 0 (take (length bytes - straight) (drop straight bytes)) ≡ put_round ring at straight bytes
unfolding put_round
put_both ring at straight bytes e =
    rw (e, take_all (length bytes - straight) (drop straight bytes) (le_of_eq (length-drop straight bytes)))
