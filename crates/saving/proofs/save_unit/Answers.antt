-- `saving::save_unit` meets its contract: the CP registers are stored behind the front where the command loads one.
use mathlib.Core.Path.{◌≡◌, ◌∙◌}
use native.Mathlib.Omega.{arith}
use lib.ListN.{length}
use Rattle.words.specs.Front.{words_after_unit}
use Rattle.words.proofs.Saving.{cp_saved, no_load}
use borrow.Author.Rules.{rules}
use borrow.Enum.Refused.{opened}
use Rattle.saving.proofs.save_unit.Goals as goal

pub returns-in-LoadCp : goal.returns-in-LoadCp
unfolding words_after_unit
returns-in-LoadCp c =
    let a = c.args in
    let n : length a.cp.now ≡ 60 = search rules in
    let f = c.save_front.ensures in
    let long : length c.save_front.new.state ≡ 327 = search rules in
    rw c.in-LoadCp.is
    (cp_saved a.fifo a.draw a.state.now f.1 a.cp.now n f.0 (c.store.ensures.fits (omega (arith, n, long))))

pub returns-in_default : goal.returns-in_default
returns-in_default c =
    let a = c.args in
    c.save_front.ensures.0 ∙ no_load a.command (opened c.in_default.in_default-own.keys2) a.state.now a.fifo a.cp.now a.draw
