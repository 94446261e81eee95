-- Three bytes, the highest first.
use native.Mathlib.Omega.{arith}
use Rattle.octets.proofs.Number.{three_bytes}
use Rattle.whole.proofs.components.three_in.Goals as goal

pub returns : goal.returns
returns c =
    let a = c.args in
    omega (arith, c.word.ensures, three_bytes a.vertex.now a.at)
