-- By the mode of the attribute, as the definition has it.
use mathlib.Core.Path.{◌≡◌, sym, ap, ◌∙◌}
use Prim.Native.Nat.{ℕ, ◌-◌, ◌*◌, ◌≤◌}
use native.Mathlib.Nat.{mul-le-mul}
use native.Mathlib.Omega.{arith}
use borrow.Author.Rules.{rules}
use Rattle.fields.specs.declared.Field.{Field}
use Rattle.fields.specs.declared.Mode.TheVariants.{Direct}
use Rattle.fields.specs.Fields.{mode_of, mode_named, index_bytes}
use Rattle.fields.proofs.Named.{absent_is, direct_is, width_is}
use Rattle.layout.specs.Sizes.{direct_of}
use Rattle.layout.proofs.Tests.{size_absent, size_direct, size_indexed}
use Rattle.fields.proofs.Bounds.{mode_le, indices_le}
use Rattle.whole.proofs.measured.Vertex.bytes_of.Goals as goal

pub returns-in-Absent : goal.returns-in-Absent
returns-in-Absent c =
    let a = c.args in
    let mode = ap (λ (f : Field). f.mode) c.requires.0 in
    sym (size_absent a.self.now.descriptor a.k c.requires.1 (absent_is (mode_of a.self.now.descriptor a.k) (sym mode ∙ c.in-Absent.is)))

pub returns-in-Direct : goal.returns-in-Direct
returns-in-Direct c =
    let a = c.args in
    let mode = ap (λ (f : Field). f.mode) c.requires.0 in
    c.direct_bytes.ensures
    ∙ ap (λ (f : Field). direct_of a.k f.count f.format) c.requires.0
    ∙ sym (size_direct a.self.now.descriptor a.k c.requires.1 (direct_is (mode_of a.self.now.descriptor a.k) (sym mode ∙ c.in-Direct.is)))

pub overflow_mul-result : goal.overflow_mul-result
overflow_mul-result c =
    let a = c.args in
    let width = c.index_width.ensures ∙ ap (λ (f : Field). index_bytes f.mode) c.requires.0
    ∙ width_is (mode_of a.self.now.descriptor a.k) (mode_le a.self.now.descriptor a.k) in
    let few : a.field.indices ≤ 3 = omega (arith, ap (λ (f : Field). f.indices) c.requires.0, indices_le a.self.now.descriptor a.k) in
    let thin : c.index_width.result ≤ 2 = omega (arith, width, mode_le a.self.now.descriptor a.k) in
    omega (arith, mul-le-mul few thin)

pub returns-in_default : goal.returns-in_default
returns-in_default c =
    let a = c.args in
    let mode = ap (λ (f : Field). f.mode) c.requires.0 in
    let width = c.index_width.ensures ∙ ap (λ (f : Field). index_bytes f.mode) c.requires.0
    ∙ width_is (mode_of a.self.now.descriptor a.k) (mode_le a.self.now.descriptor a.k) in
    let indirect : a.field.mode ≡ Direct → ⊥ = search rules in
    ap (λ (n : ℕ). a.field.indices * n) width
    ∙ ap (λ (f : Field). f.indices * (mode_of a.self.now.descriptor a.k - 1)) c.requires.0
    ∙ sym (size_indexed a.self.now.descriptor a.k c.requires.1 (λ e. c.in_default.not-Absent (mode ∙ ap mode_named e))
    (λ e. indirect (mode ∙ ap mode_named e)))
