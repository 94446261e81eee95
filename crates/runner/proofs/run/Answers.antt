-- `runner::run` meets its contract: it is a run of the state that the words say; they are stored where units were done.
use mathlib.Core.Path.{refl}
use Rattle.words.specs.State.{state_at}
use Rattle.words.proofs.Fits.{wide_refused}
use Rattle.stepping.proofs.Units.{handed, run_wide, run_zero, run_none, run_some}
use Rattle.runner.proofs.run.Goals as goal

pub returns-in_default : goal.returns-in_default
returns-in_default c =
    let a = c.args in
    let g = wide_refused a.state.now a.xf.now a.vertex.now _ c.in_default.ensures in
    run_wide a.ring.now a.limit (state_at a.state.now a.xf.now a.vertex.now) a.state.now g c.from.ensures refl

pub returns-then-limit-eq0 : goal.returns-then-limit-eq0
returns-then-limit-eq0 c =
    let a = c.args in
    let s = handed a.state.now a.xf.now a.vertex.now c.in-Some.ensures refl refl in
    rw (← s) (run_zero a.ring.now a.limit _ a.state.now c.if-limit-eq0.true c.gate_number.ensures)

pub returns-then-is_idle : goal.returns-then-is_idle
returns-then-is_idle c =
    let a = c.args in
    let s = handed a.state.now a.xf.now a.vertex.now c.in-Some.ensures c.cp-cp.ensures refl in
    rw (← s)
    (run_none a.ring.now a.limit _ a.state.now _ c.run_words-ran.ensures.0 c.stop_number.ensures
    c.stop_lacking.ensures refl refl c.run_words-ran.ensures.1 c.if-is_idle.true)

pub returns : goal.returns
returns c =
    let a = c.args in
    let s = handed a.state.now a.xf.now a.vertex.now c.in-Some.ensures c.cp-cp.ensures refl in
    rw (← s)
    (run_some a.ring.now a.limit _ a.state.now _ c.run_words-ran.ensures.0 c.stop_number-2.ensures
    c.stop_lacking.ensures refl
    c.if-is_idle.false c.save_before_bp.ensures)
