-- What is none of the arms has no field of the VAT.
use mathlib.Core.Path.{sym, ◌∙◌}
use Prim.Native.Nat.{◌≤◌}
use native.Mathlib.Omega.{arith}
use Rattle.fields.proofs.Modes.{none_vat, outside, beyond}
use Rattle.fields.proofs.Descriptor.vat.Goals as goal

pub returns-in_default : goal.returns-in_default
returns-in_default c =
    let a = c.args in
    let r = c.in_default.in_default-own.rest in
    let past : 9 ≤ a.k → 21 ≤ a.k = λ h.
    beyond a.k h r.0.0.0.0.0.0.0.0.0.0.0.1 r.0.0.0.0.0.0.0.0.0.0.1 r.0.0.0.0.0.0.0.0.0.1 r.0.0.0.0.0.0.0.0.1 r.0.0.0.0.0.0.0.1
    r.0.0.0.0.0.0.1 r.0.0.0.0.0.1 r.0.0.0.0.1 r.0.0.0.1 r.0.0.1 r.0.1 r.1 in
    c.vat_at-in_default.ensures ∙ sym (none_vat a.self a.k (outside a.k (λ g l. omega (arith, past g))))
