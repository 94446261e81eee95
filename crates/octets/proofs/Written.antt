-- A number is read back from the bytes that are written for it, and bytes are written back from the number that was read.
use mathlib.Core.Path.{◌≡◌, refl, ap, ◌∙◌}
use mathlib.Core.List.{List, [], ◌∷◌, ◌++◌, append_assoc}
use Prim.Native.Nat.{ℕ, zero, suc, ◌+◌, ◌*◌, ◌/◌, ◌%◌, ◌^◌, ◌<◌, ◌≤◌}
use native.Mathlib.Nat.{pow-succ', zero-add}
use native.Mathlib.Omega.{arith}
use lib.ListN.{length, get_or, take, drop, length-append, length-drop}
use lib.Seq.{get_or-append-add, take-suc, get_or-drop, get_or_at}
use Rattle.octets.specs.BigEndian.{big_endian, bytes_of}
use Rattle.octets.proofs.Number.{Octets}

pub length_bytes : (n v : ℕ) → length (bytes_of n v) ≡ n
unfolding bytes_of
length_bytes zero v = refl
length_bytes (suc n) v =
    let e : length (bytes_of n (v / 256)) ≡ n = length_bytes n (v / 256) in
    rw length-append (omega arith)

-- a number further on in a list
pub shift : (x l : List ℕ) (at n : ℕ) → big_endian (x ++ l) (length x + at) n ≡ big_endian l at n
unfolding big_endian
shift x l at zero = refl
shift x l at (suc n) =
    let e : length x + at + n ≡ length x + (at + n) = omega arith in
    rw (shift x l at n, e, get_or-append-add x l (at + n) 0)

-- read back from the front
front : (n v : ℕ) (y : List ℕ) → v < 256 ^ n → big_endian (bytes_of n v ++ y) 0 n ≡ v
unfolding big_endian bytes_of
front zero v y h = omega arith
front (suc n) v y h =
    let high : v / 256 < 256 ^ n = below (256 ^ n) v (rw (pow-succ' 256 n) at h) in
    let l : length (bytes_of n (v / 256)) ≡ n = length_bytes n (v / 256) in
    let whole : bytes_of (suc n) v ++ y ≡ bytes_of n (v / 256) ++ ((v % 256 ∷ []) ++ y) = append_assoc (bytes_of n (v / 256)) (v % 256 ∷ []) y in
    ap (λ (x : List ℕ). big_endian x 0 (suc n)) whole
    ∙ rw (
      front n (v / 256) ((v % 256 ∷ []) ++ y) high,
      zero-add n,
      get_or_at (bytes_of n (v / 256)) (v % 256) y 0 n l,
    ) (omega arith)
  where
    below : (p v : ℕ) → v < 256 * p → v / 256 < p
    below p v h = omega arith

-- read back from anywhere
pub read_back : (x : List ℕ) (n v : ℕ) (y : List ℕ) → v < 256 ^ n → big_endian (x ++ (bytes_of n v ++ y)) (length x) n ≡ v
read_back x n v y h =
    let e : length x ≡ length x + 0 = omega arith in
    ap (λ (k : ℕ). big_endian (x ++ (bytes_of n v ++ y)) k n) e ∙ shift x (bytes_of n v ++ y) 0 n ∙ front n v y h

-- written back
pub write_back : (l : List ℕ) (at n : ℕ) → Octets l → at + n ≤ length l → bytes_of n (big_endian l at n) ≡ take n (drop at l)
unfolding big_endian bytes_of
write_back l at zero o h = refl
write_back l at (suc n) o h =
    let b : get_or l (at + n) 0 < 256 = o (at + n) in
    let d : (big_endian l at n * 256 + get_or l (at + n) 0) / 256 ≡ big_endian l at n = omega arith in
    let m : (big_endian l at n * 256 + get_or l (at + n) 0) % 256 ≡ get_or l (at + n) 0 = omega arith in
    let short : n < length (drop at l) = rw length-drop (omega arith) in
    rw (d, m, write_back l at n o (omega arith), take-suc (drop at l) n 0 short, get_or-drop at l n 0)
