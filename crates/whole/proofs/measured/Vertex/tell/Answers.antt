-- The matrices, and then the others.
use mathlib.Core.Path.{◌≡◌}
use lib.ListN.{length}
use borrow.Author.Rules.{rules}
use Rattle.whole.proofs.Tens.{moves_then, moves_all}
use Rattle.whole.proofs.measured.Vertex.tell.Goals as goal

pub returns : goal.returns
returns c =
    let s = c.args.self.now in
    let d = s.descriptor in
    let l = s.vertex.now in
    let many : length c.args.values.now ≡ 210 = search rules in
    moves_all d l c.args.values.now _ c.tell_others.result many (moves_then d l c.tell_matrices-at.ensures c.tell_others.ensures)
