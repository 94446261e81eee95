-- Both ways read the same field.
use mathlib.Core.Path.{sym, ap, ◌∙◌}
use Prim.Native.Nat.{ℕ}
use Rattle.fields.specs.Fields.{field_of}
use Rattle.vertex.proofs.field_of.Goals as goal

pub returns-then-k-eq-POSITION : goal.returns-then-k-eq-POSITION
returns-then-k-eq-POSITION c =
    let a = c.args in
    c.read_field.ensures ∙ ap (λ (k : ℕ). field_of a.descriptor k) (sym c.if-k-eq-POSITION.true)

pub returns : goal.returns
returns c = c.read_field-2.ensures
