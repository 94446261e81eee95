-- Each attribute was weighed.
use Rattle.layout.proofs.Sums.{sizes_are}
use Rattle.layout.proofs.weights.Weights.sizes.Goals as goal

pub returns : goal.returns
returns c = let w = c.args.self.now in sizes_are w.d w.fore w.textures w.fore_is w.textures_are
