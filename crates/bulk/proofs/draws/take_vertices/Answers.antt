-- `bulk::take_vertices` meets its contract: as many as are whole, left and allowed; the last of them is copied.
use mathlib.Core.Path.{refl}
use Prim.Native.Nat.{◌-◌}
use native.Mathlib.Omega.{arith}
use Rattle.bulk.proofs.Drawn.{one_fits, vertices_none, vertices_some}
use Rattle.bulk.proofs.draws.take_vertices.Goals as goal

pub returns-then-n-eq0 : goal.returns-then-n-eq0
returns-then-n-eq0 c =
    let d = c.draw_of-draw.ensures in
    let left = c.args.left - c.whole-n.result in
    (vertices_none c.if-n-eq0.true d, record { left = left; draw_is = d; size_is = refl })

pub copy_last-requires : goal.copy_last-requires
copy_last-requires c =
    let w = c.whole-n in
    let z = c.if-n-eq0.false in
    let one = one_fits w.result c.args.size (omega arith) in
    (omega arith, omega (arith, w.ensures.inside, one))

pub returns : goal.returns
returns c =
    let w = c.whole-n in
    let p = c.requires in
    let left = c.args.left - w.result in
    let d = c.draw_of-draw.ensures in (
      vertices_some w.result p.0 p.1.0 c.if-n-eq0.false w.ensures d c.copy_last.ensures,
      record { left = left; draw_is = d; size_is = refl },
    )
