-- `saving::save_before_bp` meets its contract: the CP registers are stored behind the front.
use mathlib.Core.Path.{◌≡◌}
use native.Mathlib.Omega.{arith}
use lib.ListN.{length}
use Rattle.words.proofs.Saving.{cp_saved}
use borrow.Author.Rules.{rules}
use Rattle.saving.proofs.save_before_bp.Goals as goal

pub returns : goal.returns
returns c =
    let a = c.args in
    let n : length a.cp.now ≡ 60 = search rules in
    let f = c.save_front.ensures in
    let long : length c.save_front.new.state ≡ 327 = search rules in
    cp_saved a.fifo a.draw a.state.now f.1 a.cp.now n f.0 (c.store.ensures.fits (omega (arith, n, long)))
