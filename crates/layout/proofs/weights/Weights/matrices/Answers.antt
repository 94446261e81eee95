-- A matrix is a bit, so the set bits below k are the bytes of the first k.
use Rattle.layout.proofs.Present.{one_bit, matrices_are}
use Rattle.layout.proofs.weights.Weights.matrices.Goals as goal

pub returns : goal.returns
returns c =
    let a = c.args in
    rw (one_bit a.k c.requires) (matrices_are a.self.now.d a.k c.requires)
