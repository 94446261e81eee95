-- A colour by its format alone, else the components times their bytes, which is at most 9 times 4.
use mathlib.Core.Path.{sym, ap, ◌∙◌}
use Prim.Native.Nat.{ℕ, ◌*◌}
use native.Mathlib.Nat.{lt_of_le_of_lt, mul-le-mul, le_trans, le_of_eq}
use lib.Dec.{lit<}
use Rattle.component.proofs.Widths.{width_le}
use Rattle.fields.specs.Components.{components_of}
use Rattle.layout.specs.Sizes.{direct_of}
use Rattle.fields.proofs.Bounds.{components_nine}
use Rattle.whole.proofs.measured.direct_bytes.Goals as goal

pub returns-then-is_colour : goal.returns-then-is_colour
unfolding direct_of
returns-then-is_colour c =
    rw (sym c.is_colour.ensures ∙ c.if-is_colour.true) c.colour_width.ensures

pub overflow_mul-result : goal.overflow_mul-result
overflow_mul-result c =
    let a = c.args in
    record {
      fits = lt_of_le_of_lt
          (mul-le-mul (le_trans (le_of_eq c.components.ensures) (components_nine a.k a.count))
          (le_trans (le_of_eq c.width.ensures) (width_le a.format)))
          (lit< {m = 9 * 4} tt);
    }

pub returns : goal.returns
unfolding direct_of
returns c =
    let a = c.args in
    rw (sym c.is_colour.ensures ∙ c.if-is_colour.false)
    (ap (λ (x : ℕ). x * c.width.result) c.components.ensures ∙ ap (λ (x : ℕ). components_of a.k a.count * x)
    c.width.ensures)
