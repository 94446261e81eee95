-- `execution::apply` meets its contract: in each arm the command is known, and one thing changes.
use Rattle.std.proofs.Common.{arith}
use Rattle.std.proofs.lemmas.Grind.{common_steps}
use Rattle.effect.specs.Effect.{cp_after, bp_after, xf_after, vertex_after}
use Rattle.execution.proofs.Arms.{by_cp, by_bp, by_xf, by_vertex}
use Rattle.execution.proofs.apply.Goals as goal

pub returns-in-LoadBp : goal.returns-in-LoadBp
returns-in-LoadBp c = rw c.in-LoadBp.is (by_bp c.load_bp.ensures)

pub returns-in-LoadXf : goal.returns-in-LoadXf
returns-in-LoadXf c = rw c.in-LoadXf.is (by_xf c.load_xf.ensures)

pub returns-in-LoadCp : goal.returns-in-LoadCp
returns-in-LoadCp c = rw c.in-LoadCp.is (by_cp c.load_cp.ensures)

pub returns-in-Vertex : goal.returns-in-Vertex
returns-in-Vertex c = rw c.in-Vertex.is (by_vertex c.copy_vertex.ensures)

pub returns-in_default : goal.returns-in_default
unfolding cp_after bp_after xf_after vertex_after
returns-in_default c = grind (arith, common_steps)
