-- `stepping::take` meets its contract: it is a taking at the state that the words say, and
-- they are stored where a unit was done.
use mathlib.Core.Path.{refl}
use Rattle.words.specs.State.{state_at}
use Rattle.words.proofs.Fits.{wide_refused}
use Rattle.stepping.proofs.Units.{handed, take_wide, take_none, take_done}
use Rattle.stepping.proofs.take.Goals as goal

pub returns-in_default : goal.returns-in_default
returns-in_default c =
    let a = c.args in
    let g = wide_refused a.state.now a.xf.now a.vertex.now _ c.in_default.ensures in
    take_wide a.ring.now (state_at a.state.now a.xf.now a.vertex.now) a.unit.now a.lacking.now a.state.now g c.from.ensures

pub returns-in_default-answer : goal.returns-in_default-answer
returns-in_default-answer c =
    let a = c.args in
    let s = handed a.state.now a.xf.now a.vertex.now c.in-Some.ensures c.cp-cp.ensures refl in
    let t = c.take_words-taken.ensures in
    rw (← s)
    (take_none a.ring.now _ a.unit.now a.lacking.now a.state.now t.0 t.1 refl c.in_default-answer.not-Done c.tell_answer.ensures)

pub returns : goal.returns
returns c =
    let a = c.args in
    let s = handed a.state.now a.xf.now a.vertex.now c.in-Some.ensures c.cp-cp.ensures refl in
    let t = c.take_words-taken.ensures in
    rw (← s)
    (take_done a.ring.now _ a.unit.now a.lacking.now a.state.now t.0 t.1
    _ _ _ c.cp-cp.ensures c.in-Done.is c.save_unit.ensures c.tell_answer-2.ensures)
