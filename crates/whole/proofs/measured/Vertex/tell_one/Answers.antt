-- Its words are put, and its bytes lead on to the next.
use mathlib.Core.Path.{refl, sym, ap}
use Prim.Native.Nat.{ℕ}
use native.Mathlib.Omega.{arith}
use Rattle.layout.specs.Sizes.{offset_of}
use Rattle.layout.proofs.Bounds.{size_small}
use Rattle.vertex.specs.Attributes.{attribute_list}
use Rattle.encoding.specs.Told.{padded}
use Rattle.whole.proofs.Tens.{tells_ten}
use Rattle.whole.proofs.Untold.{at_le}
use Rattle.whole.proofs.measured.Vertex.tell_one.Goals as goal

pub overflow_add-result : goal.overflow_add-result
overflow_add-result c =
    omega (arith, at_le c.requires, c.bytes_of.ensures, size_small c.args.self.now.descriptor c.args.k)

pub returns : goal.returns
returns c =
    let a = c.args in
    let d = a.self.now.descriptor in
    let l = a.self.now.vertex.now in
    let placed = c.requires in
    tells_ten d l a.k _ a.values.now (padded 10 (attribute_list d a.k l (offset_of d a.k))) a.at c.bytes_of.result _
    placed.at_is (ap (λ (x : ℕ). padded 10 (attribute_list d a.k l x)) (sym placed.at_is)) c.bytes_of.ensures refl c.put_at.ensures
