-- One component and +0, or two, by the count bit.
use Rattle.vertex.proofs.Lists.{one_told, two_told}
use Rattle.vertex.proofs.Components.texture.Goals as goal

pub returns-then-count-eq0 : goal.returns-then-count-eq0
returns-then-count-eq0 c =
    let s = c.args.self.now in
    one_told s.vertex.now s.at s.format s.fraction c.args.count c.component-x.result c.if-count-eq0.true c.component-x.ensures

pub returns : goal.returns
returns c =
    let s = c.args.self.now in
    two_told s.vertex.now s.at s.format s.fraction c.args.count c.component-x.result c.component-y.result c.if-count-eq0.false
    c.component-x.ensures c.component-y.ensures
