-- Each arm is the integer or the pattern that the format says, and which single it is gives all that is promised: `decoded`.
use mathlib.Core.Path.{◌≡◌, ap, ◌∙◌}
use Prim.Native.Nat.{◌%◌}
use native.Mathlib.Omega.{arith}
use lib.Dec.{lit<}
use lib.Ieee.{binary32, of_bits}
use mir.Syntax.{w16, w32}
use mir.Val.{to_z, of_z}
use mir.ValLaws.{to_z_pos}
use borrow.Author.Rules.{rules}
use Rattle.component.proofs.Complement.{signed8, signed16, widened, size_lt}
use Rattle.component.proofs.Patterns.{of_integer, of_single}
use Rattle.component.proofs.decode_component.Goals as goal

pub returns-in-0 : goal.returns-in-0
returns-in-0 c =
    let a = c.args in
    of_integer a.format a.raw a.shift 0 c.in-0.is (lit< tt) (rw (to_z_pos w32 (a.raw % 256) (omega arith)) at c.quotient.ensures)

pub quotient-requires-in-1 : goal.quotient-requires-in-1
quotient-requires-in-1 c =
    let z = c.cast_signed.result in
    let e : to_z w32 (of_z w32 c.from.result) ≡ z = search rules in
    rw e (omega (arith, size_lt z w16 (search rules)))

pub returns-in-1 : goal.returns-in-1
returns-in-1 c =
    let a = c.args in
    let z = c.cast_signed in
    let e : to_z w32 (of_z w32 c.from.result) ≡ z.result = search rules in
    of_integer a.format a.raw a.shift 1 c.in-1.is (lit< tt) (rw (e ∙ z.ensures ∙ signed8 (a.raw % 256)) at c.quotient-in-1.ensures)

pub returns-in-2 : goal.returns-in-2
returns-in-2 c =
    let a = c.args in
    of_integer a.format a.raw a.shift 2 c.in-2.is (lit< tt) (rw (to_z_pos w32 (a.raw % 65536) (omega arith)) at c.quotient-in-2.ensures)

pub quotient-requires-in-3 : goal.quotient-requires-in-3
quotient-requires-in-3 c =
    let z = c.cast_signed-in-3.result in
    rw (widened w16 z c.from-in-3.result (search rules) (search rules) c.from-in-3.ensures) (omega (arith, size_lt z w16 (search rules)))

pub returns-in-3 : goal.returns-in-3
returns-in-3 c =
    let a = c.args in
    let z = c.cast_signed-in-3 in
    of_integer a.format a.raw a.shift 3 c.in-3.is (lit< tt)
    (rw (widened w16 z.result c.from-in-3.result (search rules) (search rules) c.from-in-3.ensures ∙ z.ensures ∙ signed16 (a.raw % 65536))
    at c.quotient-in-3.ensures)

pub returns-in_default : goal.returns-in_default
returns-in_default c =
    let a = c.args in
    of_single a.format a.raw a.shift (omega arith) (omega arith)
    (c.f32_from_bits_with_nan.ensures ∙ ap (of_bits binary32) (omega arith))
