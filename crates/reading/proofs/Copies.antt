-- Bytes copied off the ring: in one stretch, in two, and as many as there are in front of zeros.
use Prim.Native.Nat.{ℕ, ◌+◌, ◌-◌, ◌≤◌, ◌<◌, min}
use mathlib.Core.Path.{◌≡◌, sym, ap, ◌∙◌}
use mathlib.Core.Bool.{Bool, true, ◌&&◌}
use mathlib.Core.List.{List, ◌++◌}
use native.Mathlib.Nat.{add-sub_cancel_left}
use native.Mathlib.Omega.{arith}
use lib.Dec.{leb}
use lib.ListN.{length, get_or, take, drop, length-drop, replicate, length-replicate, get_or-replicate}
use lib.Seq.{ext_get_or, get_or-drop}
use borrow.Author.Tests.{leb-true, lt-ltb, le-ltb}
use Rattle.std.proofs.lemmas.Bool.{and_parts}
use Rattle.laws.specs.Values.{up_to}
use Rattle.laws.proofs.Filled.{length_up_to, get_d_up_to, up_to_add, firsts}
use Rattle.laws.proofs.Front.{up_to_ext}
use Rattle.cursor.specs.declared.Cursor.{Cursor}
use Rattle.cursor.specs.Cursor.{onward, byte_of, straight_by}
use Rattle.reading.specs.Inner.{round_by, Round}
use Rattle.cursor.proofs.CursorLaws.{straight_true, straight_bytes}

-- the bytes of a straight stretch, where the test for it is passed
pub straight_part : (c : Cursor) (ring : List ℕ) (n : ℕ) {t : Bool} → t ≡ straight_by c n → (t && leb (c.at + n) (length ring)) ≡ true
    → take (c.at + n - c.at) (drop c.at ring) ≡ up_to (byte_of c ring) n
straight_part c ring n {t} e h =
    let s = straight_true c n (sym e ∙ (and_parts t (leb (c.at + n) (length ring)) h).0) in
    rw (add-sub_cancel_left c.at n)
    (straight_bytes c ring n s (leb-true _ _ (and_parts t (leb (c.at + n) (length ring)) h).1))

-- ---- two stretches

pub round_true : (c : Cursor) (ring n : ℕ) → round_by c ring n ≡ true → Round c ring n
unfolding round_by
round_true c ring n e =
    let a : Bool = leb n c.left in
    let b : Bool = leb c.at c.size in
    let d : Bool = leb (c.size - c.at) n in
    let f : Bool = leb c.size ring in
    let g : Bool = leb (n - (c.size - c.at)) ring in
    let l : (a && b) ≡ true = (and_parts (a && b) (d && (f && g)) e).0 in
    let r : (d && (f && g)) ≡ true = (and_parts (a && b) (d && (f && g)) e).1 in
    let q : (f && g) ≡ true = (and_parts d (f && g) r).1 in
    record {
      there = leb-true _ _ (and_parts a b l).0;
      inside = leb-true _ _ (and_parts a b l).1;
      past = leb-true _ _ (and_parts d (f && g) r).0;
      first = leb-true _ _ (and_parts f g q).0;
      rest = leb-true _ _ (and_parts f g q).1;
    }

-- a byte of the second
round_byte : (c : Cursor) (ring : List ℕ) (n : ℕ) → Round c (length ring) n → (k : ℕ) → k < n - (c.size - c.at)
    → byte_of c ring (c.size - c.at + k) ≡ get_or ring k 0
unfolding byte_of onward
round_byte c ring n s k h =
    let first : ℕ = c.size - c.at in
    let e : first + k - first ≡ k = omega arith in
    rw (lt-ltb (first + k) c.left (omega (arith, s.there)), le-ltb (first + k) first (omega arith), e)

round_bytes : (c : Cursor) (ring : List ℕ) (n : ℕ) → Round c (length ring) n
    → take (n - (c.size - c.at)) ring ≡ up_to (λ k. byte_of c ring (c.size - c.at + k)) (n - (c.size - c.at))
round_bytes c ring n s =
    let m : ℕ = n - (c.size - c.at) in
    firsts m ring s.rest ∙ up_to_ext _ _ m (λ k h. sym (round_byte c ring n s k h))

-- the two are the first n bytes
pub round_both : (c : Cursor) (ring : List ℕ) (n : ℕ) → Round c (length ring) n
    → take (c.size - c.at) (drop c.at ring) ++ take (n - (c.size - c.at)) ring ≡ up_to (byte_of c ring) n
round_both c ring n s =
    let first : ℕ = c.size - c.at in
    let m : ℕ = n - first in
    let f : ℕ → ℕ = byte_of c ring in
    let w : c.at + first ≤ length ring = omega (arith, s.inside, s.first) in
    let a : take first (drop c.at ring) ≡ up_to f first =
    straight_bytes c ring first (record { there = omega (arith, s.past, s.there); within = omega arith }) w in
    let z : first + m ≡ n = omega (arith, s.past) in
    rw (a, round_bytes c ring n s) (sym (up_to_add f first m) ∙ ap (up_to f) z)

-- ---- past the last byte

past_byte : (c : Cursor) (ring : List ℕ) (k : ℕ) → c.left ≤ k → byte_of c ring k ≡ 0
unfolding byte_of
past_byte c ring k h = rw (le-ltb k c.left h)

-- as many bytes as there are, and zeros, are n bytes
pub front_zeros : (c : Cursor) (ring : List ℕ) (n : ℕ)
    → up_to (byte_of c ring) (min c.left n) ++ drop (min c.left n) (replicate n 0) ≡ up_to (byte_of c ring) n
front_zeros c ring n =
    let f : ℕ → ℕ = byte_of c ring in
    let m : ℕ = min c.left n in
    let z : List ℕ = drop m (replicate n 0) in
    let g : ℕ → ℕ = λ k. f (m + k) in
    let e : m + (n - m) ≡ n = omega arith in
    let l : length z ≡ n - m = length-drop m (replicate n 0) ∙ ap (λ (x : ℕ). x - m) (length-replicate n 0) in
    let same : z ≡ up_to g (n - m) =
    ext_get_or 0 z (up_to g (n - m)) (l ∙ sym (length_up_to g (n - m)))
    (λ k h.
    let b : k < n - m = omega arith in
    get_or-drop m (replicate n 0) k 0 ∙ get_or-replicate n (m + k) 0 0 (omega arith)
    ∙ sym (get_d_up_to g (n - m) k b ∙ past_byte c ring (m + k) (omega arith))) in
    ap (λ (x : List ℕ). up_to f m ++ x) same ∙ sym (up_to_add f m (n - m)) ∙ ap (up_to f) e
