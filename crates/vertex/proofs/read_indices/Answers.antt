-- One index, or three in a row.
use Rattle.vertex.proofs.Lists.{index_told, indices_told}
use Rattle.vertex.proofs.read_indices.Goals as goal

pub returns-then-times-ne3 : goal.returns-then-times-ne3
returns-then-times-ne3 c =
    let a = c.args in
    index_told a.vertex.now a.at a.times a.n c.requires c.read-x.result c.if-times-ne3.true
    (rw c.from-at.ensures at c.read-x.ensures)

pub returns : goal.returns
returns c =
    let a = c.args in
    indices_told a.vertex.now a.at a.times a.n c.requires c.read-x.result c.read-y.result c.read-z.result c.if-times-ne3.false
    (rw c.from-at.ensures at c.read-x.ensures) (rw c.from-at.ensures at c.read-y.ensures) (rw c.from-at.ensures at c.read-z.ensures)
