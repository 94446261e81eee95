-- What a look, a taking and a run on words tell where they wait.
use mathlib.Core.Path.{◌≡◌, refl, sym, ap, ◌∙◌}
use mathlib.Core.List.{List}
use Prim.Native.Nat.{ℕ, ◌≤◌}
use native.Mathlib.Omega.{arith}
use lib.ListN.{length}
use Rattle.octets.specs.BigEndian.{Octets}
use Rattle.command.specs.Command.{Found, unit, waiting, refused}
use Rattle.queue.specs.Feeding.{room_of}
use Rattle.machine.specs.State.{State}
use Rattle.processor.specs.Step.{step_found}
use Rattle.running.specs.Run.{run_of}
use Rattle.running.proofs.Waiting.{lacking_fits, step_refuses, run_stopped}
use Rattle.words.specs.State.{window_of, fifo_of, state_at}
use Rattle.encoding.specs.Told.{second_of, answer_number, lacking_of}
use Rattle.stepping.specs.Calls.{Lent, lent_of, Looks, Ends}
use Rattle.duckhammock.specs.Promises.{said_by, LackingPromises}
use Rattle.duckhammock.proofs.Chained.{calls_promises}

-- an answer of 255 waits: refusals of a look end at 10
waits_told : (ring : List ℕ) (s : State) (found : Found) (lacking : ℕ) → step_found ring s ≡ found → answer_number found ≡ 255
    → found ≡ waiting (lacking_of found lacking)
waits_told ring s (unit c m n) lacking f e = absurd (omega (arith, e))
waits_told ring s (waiting k) lacking f e = refl
waits_told ring s (refused r) lacking f e = absurd (omega (arith, step_refuses ring s r f, e))

look_lacks : (ring words xf vertex unit : List ℕ) (lacking r : ℕ) (unit' : List ℕ) (lacking' : ℕ)
    → Looks ring (state_at words xf vertex) unit lacking r unit' lacking' → r ≡ 255
    → (1 ≤ lacking') × (lacking' ≤ room_of (window_of words))
unfolding fifo_of
look_lacks ring words xf vertex told lacking r told' lacking' h e =
    let s : State = state_at words xf vertex in
    let waits = waits_told ring s (step_found ring s) lacking refl (sym h.answer_is ∙ e) in
    lacking_fits ring s lacking' (waits ∙ ap waiting (sym h.lacking_is))

module _ (ring words xf vertex : List ℕ) (limit r : ℕ) (lent' : Lent) (report' : List ℕ) (o : Octets ring) (n : length words ≡ 327)
    (h : Ends (run_of ring limit (state_at words xf vertex)) (lent_of words xf vertex) r lent' report') (e : r ≡ 255) where
  run_stopped_at : step_found ring (said_by lent') ≡ waiting (second_of report')
  run_stopped_at =
      ap (step_found ring) (calls_promises.after_run ring words xf vertex limit r lent' report' o n h) ∙
      run_stopped ring limit (state_at words xf vertex) (sym h.answer_is ∙ e) ∙
      ap (λ (l : List ℕ). waiting (second_of l)) (sym h.report_is)

  run_lacks : (1 ≤ second_of report') × (second_of report' ≤ room_of (window_of lent'.words))
  unfolding fifo_of
  run_lacks = lacking_fits ring (said_by lent') (second_of report') run_stopped_at

pub lacking_promises : LackingPromises
lacking_promises =
    record {
      of_look = look_lacks;
      of_take = λ ring words xf vertex unit lacking r lent' unit' lacking' h.
          look_lacks ring words xf vertex unit lacking r unit' lacking' h.told;
      of_run = run_lacks;
      stopped_at = run_stopped_at;
    }
