-- `reading::peek` meets its contract: nine bytes that lie straight, or as many as there are copied into nine zeros.
use mathlib.Core.Path.{◌≡◌, ◌∙◌}
use Prim.Native.Nat.{min}
use native.Mathlib.Omega.{arith}
use Rattle.cursor.specs.Cursor.{copied, peeked}
use Rattle.reading.proofs.Copies.{straight_part, front_zeros}
use Rattle.reading.proofs.peek.Goals as goal

pub returns-then-straight-at : goal.returns-then-straight-at
unfolding peeked
returns-then-straight-at c = c.nine.ensures ∙ straight_part _ _ 9 c.straight.ensures c.if-straight-at.true

pub returns : goal.returns
unfolding copied peeked
returns c =
    let m : min c.min-there.result 9 ≡ min c.args.cursor.left 9 = omega (arith, c.min-there.ensures) in
    c.copy.ensures ∙ rw m (front_zeros c.args.cursor c.args.ring.now 9)
