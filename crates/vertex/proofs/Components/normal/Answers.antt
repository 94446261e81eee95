-- One triple, or three in a row, by the count bit.
use Rattle.vertex.proofs.Lists.{normal_told, frame_told}
use Rattle.vertex.proofs.Components.normal.Goals as goal

pub returns-then-count-eq0 : goal.returns-then-count-eq0
returns-then-count-eq0 c =
    let s = c.args.self.now in
    normal_told s.vertex.now s.at s.format s.fraction c.args.count c.triple-u.result c.if-count-eq0.true c.triple-u.ensures

pub returns : goal.returns
returns c =
    let s = c.args.self.now in
    frame_told s.vertex.now s.at s.format s.fraction c.args.count c.triple-u.result c.triple-v.result c.triple-w.result
    c.if-count-eq0.false c.triple-u.ensures c.triple-v.ensures c.triple-w.ensures
