-- Sizes of vertices that are kept while the registers that make them stay.
use mathlib.Core.Path.{◌≡◌, refl, sym, ap, ◌∙◌}
use mathlib.Core.Logic.{◌⊎◌, inl, inr, ⊎_elim}
use mathlib.Core.List.{List}
use Rattle.std.specs.Prelude.{Option, Some, None}
use Prim.Native.Nat.{ℕ, ◌%◌, ◌<◌, ◌≤◌}
use native.Mathlib.Omega.{arith}
use lib.ListN.{set, replicate, get_or-replicate}
use lib.Seq.{get_or-set_other}
use Rattle.places.specs.Places.{vat_place}
use Rattle.command.specs.Look.{descriptor_of, vertex_bytes}
use Rattle.bulk.specs.Inner.{Known}

pub known_none : (cp : List ℕ) → Known cp (replicate 8 None)
known_none cp = record { eight = refl; right = λ f h. inl (get_or-replicate 8 f None None h) }

-- ---- a load that is neither of the VCD nor of a VAT leaves every size

-- a place that no size depends on
abbrev pub Apart : ℕ → Type 0
Apart p = (p < 2) ⊎ (28 ≤ p)

other : (p k : ℕ) → Apart p → 2 ≤ k → k < 28 → k ≡ p → ⊥
other p k (inl h) l m e = omega arith
other p k (inr h) l m e = omega arith

size_set : (cp : List ℕ) (p v f : ℕ) → Apart p → vertex_bytes (set cp p v) f ≡ vertex_bytes cp f
unfolding descriptor_of
size_set cp p v f a =
    let m : f % 8 < 8 = omega arith in
    rw (
      get_or-set_other cp p 2 v 0 (other p 2 a (omega arith) (omega arith)),
      get_or-set_other cp p 3 v 0 (other p 3 a (omega arith) (omega arith)),
      get_or-set_other cp p (vat_place (f % 8) 0) v 0 (other p (vat_place (f % 8) 0) a (omega arith) (omega arith)),
      get_or-set_other cp p (vat_place (f % 8) 1) v 0 (other p (vat_place (f % 8) 1) a (omega arith) (omega arith)),
      get_or-set_other cp p (vat_place (f % 8) 2) v 0 (other p (vat_place (f % 8) 2) a (omega arith) (omega arith)),
    )

-- what is known after a store apart
pub known_apart : {cp : List ℕ} {sizes : List (Option ℕ)} {p : ℕ} (v : ℕ) → Known cp sizes → Apart p → Known (set cp p v) sizes
known_apart {cp} {sizes} {p} v k a =
    record {
      eight = k.eight;
      right = λ i h. ⊎_elim (λ z. inl z) (λ r. inr (r ∙ ap (λ (n : ℕ). Some n) (sym (size_set cp p v i a)))) (k.right i h);
    }
