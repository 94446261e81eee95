-- By the mode of the attribute, as the definition has it.
use mathlib.Core.Path.{◌≡◌, sym, ap, ◌∙◌}
use mathlib.Core.List.{[], ◌∷◌}
use Prim.Native.Nat.{ℕ, ◌-◌}
use borrow.Author.Rules.{rules}
use Rattle.fields.specs.declared.Field.{Field}
use Rattle.fields.specs.declared.Mode.TheVariants.{Direct}
use Rattle.fields.specs.Fields.{mode_of, mode_named}
use Rattle.fields.proofs.Bounds.{mode_le}
use Rattle.fields.proofs.Named.{absent_is, direct_is, width_is}
use Rattle.vertex.specs.Attributes.{direct_list, index_list}
use Rattle.vertex.proofs.Lists.{attribute_absent, attribute_matrix, attribute_direct, attribute_indexed}
use Rattle.vertex.proofs.decode_at.Goals as goal

pub returns-in-Absent : goal.returns-in-Absent
returns-in-Absent c =
    let a = c.args in
    let mode = ap (λ (f : Field). f.mode) c.field_of-field.ensures in
    sym (attribute_absent a.descriptor a.k a.vertex.now a.at (absent_is _ (sym mode ∙ c.in-Absent.is)))

pub returns-in_default : goal.returns-in_default
returns-in_default c =
    let a = c.args in
    let mode = ap (λ (f : Field). f.mode) c.field_of-field.ensures in
    rw c.from.ensures at (ap (λ (n : ℕ). 1 ∷ n ∷ []) c.read.ensures)
    ∙ sym (attribute_matrix a.descriptor a.k a.vertex.now a.at (λ e. c.in_default.not-Absent (mode ∙ ap mode_named e))
    c.if-k-lt-POSITION.true)

pub returns-in-Direct : goal.returns-in-Direct
returns-in-Direct c =
    let a = c.args in
    let field = c.field_of-field.ensures in
    let mode = ap (λ (f : Field). f.mode) field in
    let direct : c.field_of-field.result.mode ≡ Direct = search rules in
    c.read_direct.ensures
    ∙ ap (λ (f : Field). direct_list a.vertex.now a.at a.k f.count f.format f.fraction) field
    ∙ sym (attribute_direct a.descriptor a.k a.vertex.now a.at c.if-k-lt-POSITION.false (direct_is _ (sym mode ∙ direct)))

pub returns-in_default-2 : goal.returns-in_default-2
returns-in_default-2 c =
    let a = c.args in
    let d = a.descriptor in
    let field = c.field_of-field.ensures in
    let mode = ap (λ (f : Field). f.mode) field in
    let indirect : c.field_of-field.result.mode ≡ Direct → ⊥ = search rules in
    c.read_indices.ensures
    ∙ ap (λ (n : ℕ). index_list a.vertex.now a.at c.field_of-field.result.indices n)
    (rw mode at c.index_width.ensures ∙ width_is (mode_of d a.k) (mode_le d a.k))
    ∙ ap (λ (f : Field). index_list a.vertex.now a.at f.indices (mode_of d a.k - 1)) field
    ∙ sym (attribute_indexed d a.k a.vertex.now a.at (λ e. c.in_default-2.not-Absent (mode ∙ ap mode_named e)) c.if-k-lt-POSITION.false
    (λ e. indirect (mode ∙ ap mode_named e)))
