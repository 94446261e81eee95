-- Each texture is weighed by its fields at their places; absent ones add nothing.
use Rattle.layout.proofs.Present.{textures_absent}
use Rattle.layout.proofs.Weighed.{textures_of, textures_none}
use Rattle.layout.proofs.parts.weigh_textures.Goals as goal

pub returns-then-vcd-eq0 : goal.returns-then-vcd-eq0
returns-then-vcd-eq0 c = textures_none c.args.d c.args.found c.requires (textures_absent c.args.d c.if-vcd-eq0.true)

pub returns : goal.returns
returns c =
    textures_of c.args.d c.args.found _ _ _ _ _ _ _ c.requires c.texture-b.ensures c.texture-c.ensures c.texture-e.ensures
    c.texture-f.ensures c.texture-g.ensures c.texture-h.ensures c.texture-i.ensures
