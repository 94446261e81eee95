-- The bytes of component i, read big-endian, decoded in the format.
use Rattle.vertex.proofs.Lists.{component_is}
use Rattle.vertex.proofs.Components.component.Goals as goal

pub returns : goal.returns
returns c =
    let s = c.args.self.now in
    component_is s.vertex.now s.at s.format s.fraction c.args.i c.width-w.result c.read-raw.result c.width-w.ensures
    (rw c.from.ensures at c.read-raw.ensures) c.decode_component.ensures.is
