-- Laws of big-endian numbers, for every number of bytes.
use mathlib.Core.Path.{◌≡◌, refl, subst}
use mathlib.Core.List.{List, [], ◌∷◌}
use Prim.Native.Nat.{ℕ, zero, suc, ◌+◌, ◌*◌, ◌^◌, ◌<◌}
use native.Mathlib.Nat.{pow-succ', add-zero}
use native.Mathlib.Numerals.{add-one}
use native.Mathlib.Omega.{arith}
use lib.Dec.{lit<}
use lib.ListN.{get_or, take, drop}
use lib.Seq.{get_or-drop}
use Rattle.octets.specs.BigEndian.{big_endian}
pub use Rattle.octets.specs.BigEndian.{Octets}

pub none : (l : List ℕ) (at : ℕ) → 0 ≡ big_endian l at 0
unfolding big_endian
none l at = refl

next_lt : (i : ℕ) {v x : ℕ} → v < 256 ^ i → x < 256 → v * 256 + x < 256 ^ (i + 1)
next_lt i {v} {x} h b = rw (add-one, pow-succ' 256 i) (go (256 ^ i) v x h b)
  where
    go : (p v x : ℕ) → v < p → x < 256 → v * 256 + x < 256 * p
    go p v x h b = omega arith

-- n bytes make a number below 256 to the power of n
pub big_lt : (l : List ℕ) (at : ℕ) → Octets l → (n : ℕ) → big_endian l at n < 256 ^ n
unfolding big_endian
big_lt l at b zero = lit< tt
big_lt l at b (suc n) =
    subst (λ (x : ℕ). big_endian l at n * 256 + get_or l (at + n) 0 < 256 ^ x) (add-one n) (next_lt n (big_lt l at b n) (b (at + n)))

-- ---- up to four bytes written out
pub one_byte : (l : List ℕ) (at : ℕ) → big_endian l at 1 ≡ get_or l at 0
unfolding big_endian
one_byte l at = rw (add-zero at) (omega arith)

pub two_bytes : (l : List ℕ) (at : ℕ) → big_endian l at 2 ≡ get_or l at 0 * 256 + get_or l (at + 1) 0
unfolding big_endian
two_bytes l at = rw (add-zero at) (omega arith)

pub three_bytes : (l : List ℕ) (at : ℕ) → big_endian l at 3 ≡ (get_or l at 0 * 256 + get_or l (at + 1) 0) * 256 + get_or l (at + 2) 0
unfolding big_endian
three_bytes l at = rw (add-zero at) (omega arith)

pub four_bytes : (l : List ℕ) (at : ℕ)
    → big_endian l at 4 ≡ ((get_or l at 0 * 256 + get_or l (at + 1) 0) * 256 + get_or l (at + 2) 0) * 256 + get_or l (at + 3) 0
unfolding big_endian
four_bytes l at = rw (add-zero at) (omega arith)

-- a number reads only its own bytes
pub agree : (a b : List ℕ) (at n : ℕ) → ((k : ℕ) → k < at + n → get_or a k 0 ≡ get_or b k 0) → big_endian a at n ≡ big_endian b at n
unfolding big_endian
agree a b at zero same = refl
agree a b at (suc n) same = rw (agree a b at n (λ k h. same k (omega arith)), same (at + n) (omega arith))

-- a part of a list of bytes is one
pub octets_take : (l : List ℕ) (n : ℕ) → Octets l → Octets (take n l)
octets_take l zero o k = lit< tt
octets_take [] (suc n) o k = lit< tt
octets_take (x ∷ l) (suc n) o zero = o 0
octets_take (x ∷ l) (suc n) o (suc k) = octets_take l n (λ i. o (suc i)) k

pub octets_drop : (l : List ℕ) (n : ℕ) → Octets l → Octets (drop n l)
octets_drop l n o k = rw (get_or-drop n l k 0) (o (n + k))
