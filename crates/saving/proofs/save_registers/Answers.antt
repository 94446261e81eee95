-- `saving::save_registers` meets its contract: the draw and the registers are stored behind the fifo's words.
use mathlib.Core.Path.{◌≡◌}
use native.Mathlib.Omega.{arith}
use lib.ListN.{length}
use Rattle.words.specs.State.{fifo_of}
use Rattle.words.proofs.Places.{fifo_kept}
use Rattle.words.proofs.Saving.{front_saved, cp_saved, all_saved}
use borrow.Author.Rules.{rules}
use Rattle.saving.proofs.save_registers.Goals as goal

pub returns : goal.returns
returns c =
    let a = c.args in
    let l = a.state.now in
    let long : length l ≡ 327 = search rules in
    let n : length a.cp.now ≡ 60 = search rules in
    let m : length a.bp.now ≡ 256 = search rules in
    let four : length c.draw_words.result ≡ 4 = search rules in
    let stored = c.store.ensures.fits (omega (arith, long, four)) in
    let one = c.store.ensures.len in
    let drawn = front_saved (fifo_of l) a.draw l long c.draw_words.ensures (fifo_kept l long) stored in
    all_saved (fifo_of l) a.draw l long a.cp.now a.bp.now n m
    (cp_saved (fifo_of l) a.draw l long a.cp.now n drawn (c.store-2.ensures.fits (omega (arith, long, one, n))))
    (c.store-3.ensures.fits (omega (arith, long, one, c.store-2.ensures.len, m)))
