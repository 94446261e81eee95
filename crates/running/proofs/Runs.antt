-- What `run` promises, for a refusal by 1 to 5 and for the takings.
use mathlib.Core.Path.{◌≡◌, refl, sym, ap, ◌∙◌}
use mathlib.Core.List.{List, [], ◌∷◌}
use Prim.Native.Nat.{ℕ, zero, suc, min, ◌≤◌}
use native.Mathlib.Nat.{not-suc-le-zero}
use lib.ListN.{length}
use Rattle.refusal.specs.Number.{number}
use Rattle.refusal.specs.declared.Reason.{Reason}
use Rattle.refusal.proofs.Positive.{number_some}
use Rattle.command.specs.declared.Draw.{Draw}
use Rattle.fifo.specs.declared.Fifo.{Fifo}
use Rattle.running.specs.declared.Stop.{Stop}
use Rattle.running.specs.declared.Stop.TheVariants.{Refused}
use Rattle.machine.specs.State.{State, state_of}
use Rattle.machine.specs.Gate.{gate_of}
use Rattle.running.specs.Run.{Ended, meaning_of_stop, ended, steps, gated, run_limit, run_of, Arrives, Reports}

-- a run that is refused by its gate
gated_some : (n : ℕ) (s : State) (e : Ended) → 1 ≤ n → gated n s e ≡ ended [] (n ∷ []) s
gated_some zero s e h = absurd (not-suc-le-zero h)
gated_some (suc n) s e h = refl

module _ (ring : List ℕ) (limit : ℕ) (fifo : Fifo) (cp bp : List ℕ) (draw : Draw) (xf buffer : List ℕ) where
  abbrev s : State
  s = state_of fifo cp bp draw xf buffer

  pub run_refused : (r : Reason) → number r ∷ [] ≡ gate_of s (length ring) ∷ []
      → Reports (run_of ring limit s) (record { fifo = fifo; draw = draw; units = 0; stop = Refused r }) cp bp xf buffer
  unfolding run_of
  run_refused r e =
      let k : number r ≡ gate_of s (length ring) = cc in
      let g : gated (gate_of s (length ring)) s (steps ring (min limit run_limit) s) ≡ ended [] (number r ∷ []) s =
      ap (λ (n : ℕ). gated n s (steps ring (min limit run_limit) s)) (sym k) ∙ gated_some (number r) s _ (number_some r) in
      rw g (record { units_are = refl; stop_is = refl; state_is = refl })

  pub run_taken : {most units : ℕ} {stop : Stop} {left : Fifo} {cp' bp' : List ℕ} {draw' : Draw} {xf' buffer' : List ℕ}
      → gate_of s (length ring) ≡ 0 → most ≡ min limit run_limit
      → Arrives ring most s (meaning_of_stop stop) left cp' bp' draw' xf' buffer' units
      → Reports (run_of ring limit s) (record { fifo = left; draw = draw'; units = units; stop = stop }) cp' bp' xf' buffer'
  unfolding run_of
  run_taken g m a = rw (g, ← m) (record { units_are = a.units_are; stop_is = a.stop_is; state_is = a.state_is })
