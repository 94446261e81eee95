-- `bulk::size_of` meets its contract: a size fits a byte.
use native.Mathlib.Omega.{arith}
use Rattle.command.proofs.Decided.{bytes_most}
use Rattle.bulk.proofs.draws.size_of.Goals as goal

pub overflow_cast-sizes : goal.overflow_cast-sizes
overflow_cast-sizes c =
    omega (arith, c.vertex_bytes-size.ensures, bytes_most c.args.cp.now c.args.format)
