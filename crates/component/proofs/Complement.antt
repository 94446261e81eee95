-- A signed number out of its pattern: what a cast of the pattern to the signed type of its width gives.
use mathlib.Core.Path.{◌≡◌, ap, ◌∙◌}
use mathlib.Core.Bool.{Bool, true, false, cond}
use mathlib.Core.Logic.{⊎_elim}
use Prim.Native.Nat.{ℕ, suc, ◌-◌, ◌*◌, ◌^◌, ◌<◌, ◌≤◌}
use native.Mathlib.Omega.{arith}
use lib.Dec.{ltb}
use lib.IntN.{ℤ, pos, negsuc}
use mir.Syntax.{Width, w8, w16, w32}
use mir.Val.{SFits, to_z, of_z, hbits}
use mir.ValLaws.{to_z-of_z}
use borrow.Author.Tests.{lt-ltb, le-ltb}
use Rattle.std.proofs.lemmas.Bool.{cases_lt}
use Rattle.component.specs.Single as S
use Rattle.component.specs.Component.{signed_of, number_of}

pub signed8 : (n : ℕ) → to_z w8 n ≡ signed_of 256 n
signed8 n =
    ⊎_elim (λ l. let t : 2 * n < 256 = omega arith in rw (lt-ltb n 128 l, lt-ltb (2 * n) 256 t))
    (λ g. let t : 256 ≤ 2 * n = omega arith in rw (le-ltb n 128 g, le-ltb (2 * n) 256 t)) (cases_lt n 128)

pub signed16 : (n : ℕ) → to_z w16 n ≡ signed_of 65536 n
signed16 n =
    ⊎_elim (λ l. let t : 2 * n < 65536 = omega arith in rw (lt-ltb n 32768 l, lt-ltb (2 * n) 65536 t))
    (λ g. let t : 65536 ≤ 2 * n = omega arith in rw (le-ltb n 32768 g, le-ltb (2 * n) 65536 t)) (cases_lt n 32768)

-- a number of a signed width, in 32 bits
pub widened : (w : Width) (y z : ℤ) → SFits w y → SFits w32 y → z ≡ to_z w (of_z w y) → to_z w32 (of_z w32 z) ≡ y
widened w y z f g e = ap (λ (x : ℤ). to_z w32 (of_z w32 x)) (e ∙ to_z-of_z w y f) ∙ to_z-of_z w32 y g

-- a number that fits a signed width
pub size_lt : (z : ℤ) (w : Width) → SFits w z → S.size z ≤ 2 ^ hbits w
size_lt (pos n) w f = omega (arith, f.sfits)
size_lt (negsuc n) w f = f.sfits

-- a number of a pattern is no larger than the patterns are many, signed or not
pub number_le : (signed : Bool) (m p : ℕ) → p < m → S.size (number_of signed m p) ≤ m
number_le false m p l = omega arith
number_le true m p l = go (ltb (2 * p) m)
  where
    go : (b : Bool) → S.size (cond b (pos p) (negsuc (m - suc p))) ≤ m
    go true = omega arith
    go false = omega arith
