-- Components of four bytes, which are singles as they stand.
use mathlib.Core.Path.{◌≡◌, refl, sym, ap, ◌∙◌, subst}
use mathlib.Core.Bool.{Bool, not}
use mathlib.Core.List.{List}
use Prim.Native.Nat.{ℕ, ◌+◌, ◌*◌, ◌%◌, ◌<◌, ◌≤◌}
use lib.Dec.{T, lit≤}
use lib.Ieee.{Float, binary32, of_bits, to_bits}
use lib.Ieee.Bits.{nan_bits_above}
use borrow.Author.Tests.{lt-ltb, le-ltb}
use Rattle.octets.specs.BigEndian.{big_endian}
use Rattle.component.specs.Component.{component_of}
use Rattle.component.proofs.Widths.{width_single}
use Rattle.component.proofs.Patterns.{component_single, of_single, kept_bits, nan_bits_lem}
use Rattle.vertex.specs.Attributes.{raw_at, component_at, bits_of}
use Rattle.whole.specs.Inner.{three_list}

-- every NaN is told as one
pub nan_told : (b : ℕ) → 2139095040 < b % 2147483648 → 0x7FC00000 ≡ to_bits binary32 (of_bits binary32 b)
unfolding to_bits
nan_told b h =
    rw (nan_bits_lem b (subst T (sym (nan_bits_above binary32 b ∙ lt-ltb 2139095040 (b % 2147483648) h)) tt))

-- and all else as it stands
pub kept_told : (b : ℕ) → b < 4294967296 → b % 2147483648 ≤ 2139095040 → b ≡ to_bits binary32 (of_bits binary32 b)
kept_told b h n =
    sym (kept_bits b h (subst (λ (t : Bool). T (not t)) (sym (nan_bits_above binary32 b ∙ le-ltb 2139095040 (b % 2147483648) n)) tt))

-- a single by its four bytes
pub single_is : (l : List ℕ) (at f s i raw : ℕ) {r : ℕ} → 4 ≤ f → raw < 4294967296 → raw ≡ big_endian l (at + i * 4) 4
    → r ≡ to_bits binary32 (of_bits binary32 raw) → r ≡ bits_of l at f s i
unfolding component_at raw_at
single_is l at f s i raw h k e q =
    rw (width_single f h)
    (q ∙ ap (λ (x : Float). to_bits binary32 x) (of_single f raw s h k refl).is ∙ ap (λ (x : ℕ). to_bits binary32 (component_of f x s)) e)

-- all formats from 4 on are read alike
single_alike : (l : List ℕ) (at f s i : ℕ) → 4 ≤ f → bits_of l at 4 s i ≡ bits_of l at f s i
unfolding component_at raw_at
single_alike l at f s i h =
    rw (width_single f h)
    (ap (λ (x : Float). to_bits binary32 x) (component_single 4 raw s (lit≤ tt) ∙ rw (component_single f raw s h, width_single f h)))
  where
    raw : ℕ
    raw = big_endian l (at + i * 4) 4

pub three_alike : (l : List ℕ) (at f s n : ℕ) → 4 ≤ f → three_list l at 4 s n ≡ three_list l at f s n
three_alike l at f s n h = rw (single_alike l at f s 0 h, single_alike l at f s 1 h, single_alike l at f s 2 h)
