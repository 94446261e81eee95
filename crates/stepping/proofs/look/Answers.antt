-- `stepping::look` meets its contract: it is a look at the state that the words say.
use mathlib.Core.Path.{refl}
use Rattle.words.specs.State.{bp_of, state_at}
use Rattle.words.proofs.Fits.{wide_refused}
use Rattle.stepping.proofs.Units.{handed, look_wide, looks}
use Rattle.stepping.proofs.look.Goals as goal

pub returns-in_default : goal.returns-in_default
returns-in_default c =
    let a = c.args in
    let g = wide_refused a.state.now a.xf.now a.vertex.now _ c.in_default.ensures in
    look_wide a.ring.now (state_at a.state.now a.xf.now a.vertex.now) a.unit.now a.lacking.now g c.from.ensures

pub returns : goal.returns
unfolding bp_of
returns c =
    let a = c.args in
    let s = handed a.state.now a.xf.now a.vertex.now c.in-Some.ensures c.cp-cp.ensures refl in
    rw (← s) (looks a.ring.now _ a.unit.now a.lacking.now c.look-answer.ensures c.tell_answer.ensures)
