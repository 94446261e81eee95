-- Each attribute is weighed by its fields at their places; absent ones add nothing.
use Rattle.layout.proofs.Weighed.{fore_of, fore_alone}
use Rattle.layout.proofs.parts.weigh_fore.Goals as goal

pub returns-then-vcd-eq0 : goal.returns-then-vcd-eq0
returns-then-vcd-eq0 c = fore_alone c.args.d _ _ c.position-p.ensures c.texture-t.ensures c.if-vcd-eq0.true

pub returns : goal.returns
returns c =
    fore_of c.args.d _ _ _ _ _ c.position-p.ensures (rw c.normal_indices-indices.ensures.0 at c.normal-n.ensures)
    c.colour-c.ensures c.colour-e.ensures c.texture-t.ensures
