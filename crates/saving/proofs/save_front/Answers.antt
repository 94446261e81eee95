-- `saving::save_front` meets its contract: the words of the fifo and of the draw are stored, each in its place.
use mathlib.Core.Path.{◌≡◌}
use native.Mathlib.Omega.{arith}
use lib.ListN.{length}
use Rattle.words.proofs.Saving.{front_saved}
use borrow.Author.Rules.{rules}
use Rattle.saving.proofs.save_front.Goals as goal

pub returns : goal.returns
returns c =
    let a = c.args in
    let k : length a.state.now ≡ 327 = search rules in
    let long : length c.save_fifo.new.state ≡ 327 = search rules in
    let four : length c.draw_words.result ≡ 4 = search rules in
    (front_saved a.fifo a.draw a.state.now k c.draw_words.ensures c.save_fifo.ensures (c.store.ensures.fits (omega (arith, long, four))), k)
