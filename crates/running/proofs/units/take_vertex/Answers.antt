-- `running::units::take_vertex` meets its contract: the bytes that are gathered are the cursor's first ones.
use mathlib.Core.Path.{◌≡◌, refl, sym, ap, ◌∙◌}
use lib.ListN.{take, replicate}
use lib.Seq.{length-take-le}
use Rattle.execution.proofs.Arms.{by_vertex}
use Rattle.unit.specs.Cursor.{bytes_at}
use Rattle.unit.proofs.Bytes.{copied_is}
use Rattle.unit.proofs.Found.{takes_unit}
use borrow.Author.Rules.{rules}
use Rattle.running.proofs.units.take_vertex.Goals as goal

pub slice_bounds-copy_vertex-end : goal.slice_bounds-copy_vertex-end
slice_bounds-copy_vertex-end c = sym (length-take-le _ _ (search rules))

pub returns : goal.returns
returns c =
    let a = c.args in
    let e : take a.size c.copy.new.out ≡ bytes_at a.cursor a.ring.now a.size =
    ap (take a.size) c.copy.ensures ∙ copied_is a.cursor a.ring.now (replicate 129 0) a.size (search rules) in
    let v = c.copy_vertex.ensures in
    record { any = λ cp bp xf. takes_unit refl (by_vertex (rw (← e) v)) c.skip.ensures c.next_draw.ensures }
