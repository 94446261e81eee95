-- `bulk::copy_last` meets its contract: the part that ends with the last vertex is that vertex.
use Prim.Native.Nat.{◌+◌, ◌*◌, ◌≤◌}
use native.Mathlib.Omega.{arith}
use Rattle.bulk.proofs.Drawn.{one_fits, copied_last}
use Rattle.bulk.proofs.draws.copy_last.Goals as goal

pub overflow_sub-start : goal.overflow_sub-start
overflow_sub-start c =
    omega (arith, one_fits c.args.n c.args.size c.requires.0)

pub returns : goal.returns
returns c =
    let h : c.args.size ≤ c.args.from + c.args.n * c.args.size = omega (arith, one_fits c.args.n c.args.size c.requires.0) in
    copied_last _ _ _ _ h c.copy_vertex.ensures
