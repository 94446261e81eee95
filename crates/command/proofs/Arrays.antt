-- The twelve attributes that can be indexed, 9 to 20 of a vertex, have the arrays 0 to 11, and the four indexed loads 12 to 15.
use mathlib.Core.Path.{◌≡◌, refl}
use Prim.Native.Nat.{ℕ, ◌+◌, ◌<◌}
use native.Mathlib.Omega.{arith}
use Rattle.places.specs.Places.{attribute, indexed_load, array_of}

pub attribute_arrays : (k : ℕ) → k < 12 → array_of (attribute (9 + k)) ≡ k
attribute_arrays k h = omega arith

pub load_arrays : (k : ℕ) → k < 4 → array_of (indexed_load k) ≡ 12 + k
load_arrays k h = refl
