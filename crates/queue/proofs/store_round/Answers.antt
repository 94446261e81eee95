-- `queue::store_round` meets its contract: one stretch where all bytes fit before the end, and else the definition's two.
use mathlib.Core.Path.{◌≡◌, ◌∙◌}
use native.Mathlib.Omega.{arith}
use lib.ListN.{length, take, drop, length-drop}
use lib.Seq.{length-take-le}
use Prim.Native.Nat.{◌-◌}
use Rattle.queue.proofs.Stretches.{put_straight, put_both}
use Rattle.queue.proofs.store_round.Goals as goal

pub returns-then-bytes-straight : goal.returns-then-bytes-straight
returns-then-bytes-straight c = c.store.ensures.fits (omega (arith, c.requires.0)) ∙ put_straight _ _ _ _ (omega arith)

pub returns : goal.returns
returns c =
    let straight = c.args.straight in
    let bytes = c.args.bytes.now in
    let front : length (take straight bytes) ≡ straight = length-take-le straight bytes (omega (arith, c.if-bytes-straight.false)) in
    let all = length-drop straight bytes in
    let back = length-take-le (length bytes - straight) (drop straight bytes) (omega (arith, all)) in
    let room = c.requires in
    c.store-3.ensures.fits (omega (arith, back, c.store-2.ensures.len, room.1))
    ∙ put_both _ _ _ _ (c.store-2.ensures.fits (omega (arith, front, room.0)))
