-- The code tests as the definition does.
use mathlib.Core.Path.{◌≡◌, sym, ap, ◌∙◌}
use mathlib.Core.Bool.{true, false}
use borrow.Author.Rules.{rules}
use Rattle.fields.specs.declared.Field.{Field}
use Rattle.fields.specs.declared.Mode.TheVariants.{Direct}
use Rattle.fields.specs.Fields.{mode_of, mode_named, format_of}
use Rattle.fields.specs.Components.{components_of}
use Rattle.fields.proofs.Named.{direct_is}
use Rattle.vertex.proofs.Lists.{singles_indirect, singles_other, singles_by}
use Rattle.vertex.proofs.raw.count.Goals as goal

pub returns-in-Direct : goal.returns-in-Direct
returns-in-Direct c =
    let a = c.args in
    let field = c.read_field-field.ensures in
    let direct : mode_of a.descriptor a.k ≡ 1 = direct_is _ (sym (ap (λ (f : Field). f.mode) field) ∙ c.in-Direct.is) in
    let format : format_of a.descriptor a.k ≡ 4 = sym (ap (λ (f : Field). f.format) field) ∙ c.if-field-eq4.true in
    c.components.ensures
    ∙ ap (λ (f : Field). components_of a.k f.count) field
    ∙ sym (singles_by a.descriptor a.k false direct format (sym c.is_colour.ensures ∙ c.if-not-is_colour.true))

pub returns-in_default : goal.returns-in_default
returns-in_default c =
    let a = c.args in
    let field = c.read_field-field.ensures in
    let direct : mode_of a.descriptor a.k ≡ 1 = direct_is _ (sym (ap (λ (f : Field). f.mode) field) ∙ c.in-Direct.is) in
    let format : format_of a.descriptor a.k ≡ 4 = sym (ap (λ (f : Field). f.format) field) ∙ c.if-field-eq4.true in
    sym (singles_by a.descriptor a.k true direct format (sym c.is_colour.ensures ∙ c.if-not-is_colour.false))

pub returns-in_default-2 : goal.returns-in_default-2
returns-in_default-2 c =
    let a = c.args in
    let field = c.read_field-field.ensures in
    let direct : mode_of a.descriptor a.k ≡ 1 = direct_is _ (sym (ap (λ (f : Field). f.mode) field) ∙ c.in-Direct.is) in
    sym (singles_other a.descriptor a.k direct (λ e. c.if-field-eq4.false (ap (λ (f : Field). f.format) field ∙ e)))

pub returns-in_default-3 : goal.returns-in_default-3
returns-in_default-3 c =
    let a = c.args in
    let mode = ap (λ (f : Field). f.mode) c.read_field-field.ensures in
    let indirect : c.read_field-field.result.mode ≡ Direct → ⊥ = search rules in
    sym (singles_indirect a.descriptor a.k (λ e. indirect (mode ∙ ap mode_named e)))
