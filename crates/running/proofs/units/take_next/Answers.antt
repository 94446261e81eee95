-- `running::units::take_next` meets its contract: it is `take_at`, but that nothing is looked at where the size of a vertex is known.
use native.Mathlib.Omega.{arith}
use Rattle.unit.proofs.Found.{takes_none}
use Rattle.running.proofs.Unlooked.{known_most, waits_unlooked, vertex_unlooked}
use Rattle.running.proofs.units.take_next.Goals as goal

pub take_vertex-requires : goal.take_vertex-requires
take_vertex-requires c = let a = c.args in known_most a.cp.now a.draw a.size c.requires (omega arith)

pub returns-then-size-there : goal.returns-then-size-there
returns-then-size-there c =
    let a = c.args in
    rw (← vertex_unlooked a.cursor a.ring.now a.cp.now a.draw a.size c.requires (omega arith) c.if-size-there.true)
    (c.take_vertex.ensures.any a.cp.now a.bp.now a.xf.now)

pub returns : goal.returns
returns c =
    let a = c.args in
    takes_none (waits_unlooked a.cursor a.ring.now a.cp.now a.draw a.size c.requires (omega arith) c.if-size-there.false) (λ d m l e. cc)
