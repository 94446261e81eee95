-- `bulk::take_open` meets its contract: the vertices of the draw from the first byte on.
use mathlib.Core.Path.{sym, ◌∙◌}
use Prim.Native.Nat.{◌%◌}
use native.Mathlib.Omega.{arith}
use Rattle.command.proofs.Decided.{bytes_most}
use Rattle.bulk.proofs.Told.{told_closed, told_spent, told_refused, told_left}
use Rattle.bulk.proofs.Drawn.{size_modulo, open_none, open_some}
use Rattle.bulk.proofs.draws.take_open.Goals as goal

pub returns-then-left-eq0 : goal.returns-then-left-eq0
returns-then-left-eq0 c = rw c.in-Open.is
    (open_none c.requires, told_spent c.if-left-eq0.true)

pub size_of-size-requires : goal.size_of-size-requires
size_of-size-requires c =
    (omega arith, c.requires)

pub returns-then-size-eq0 : goal.returns-then-size-eq0
returns-then-size-eq0 c =
    let z = c.size_of-size.ensures in
    rw c.in-Open.is
    (open_none z.known, told_refused (sym (size_modulo _ _) ∙ sym z.size_is ∙ c.if-size-eq0.true))

pub take_vertices-requires : goal.take_vertices-requires
take_vertices-requires c =
    let z = c.size_of-size in
    let f = c.in-Open.format in (
      omega arith,
      (
        omega (arith, c.if-size-eq0.false),
        omega
            (arith, z.ensures.size_is, bytes_most c.args.cp.now (f % 8)),
      ),
    )

pub returns-in_default : goal.returns-in_default
returns-in_default c = (open_none c.requires, told_closed c.in_default.is)

pub returns : goal.returns
returns c =
    let z = c.size_of-size.ensures in
    let v = c.take_vertices.ensures in
    rw c.in-Open.is
    (open_some c.if-left-eq0.false z v.0, told_left v.1 (z.size_is ∙ size_modulo _ _))
