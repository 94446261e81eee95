-- A look changes nothing, so a taking after it answers what it told.
use mathlib.Core.Path.{◌≡◌, refl, sym, ap, ◌∙◌}
use mathlib.Core.List.{List, [], ◌∷◌, ◌++◌, append-nil}
use Prim.Native.Nat.{ℕ}
use Rattle.running.specs.Run.{Taken}
use Rattle.history.specs.Calls.{World, Call, feed, take, look, run, write, read, after, fed, units_of, after_all, fed_all, units_all}
use Rattle.history.specs.Looks.{told_at, Asking, AllAsking, LookingAndTaking}

-- ---- a look in a list
world_same : (w : World) (cs ds : List Call) → after_all w (cs ++ (look ∷ ds)) ≡ after_all w (cs ++ ds)
unfolding after_all
world_same w [] ds = refl
world_same w (c ∷ cs) ds = world_same (after w c) cs ds

bytes_same : (w : World) (cs ds : List Call) → fed_all w (cs ++ (look ∷ ds)) ≡ fed_all w (cs ++ ds)
unfolding fed_all
bytes_same w [] ds = refl
bytes_same w (c ∷ cs) ds = ap (λ (l : List ℕ). fed w c ++ l) (bytes_same (after w c) cs ds)

units_same : (w : World) (cs ds : List Call) → units_all w (cs ++ (look ∷ ds)) ≡ units_all w (cs ++ ds)
unfolding units_all
units_same w [] ds = refl
units_same w (c ∷ cs) ds = ap (λ (us : List Taken). units_of w c ++ us) (units_same (after w c) cs ds)

-- ---- calls that ask, and calls after them
asks : (w : World) (c : Call) → Asking c → (after w c ≡ w) × (units_of w c ≡ [])
asks w (feed bytes) h = absurd h
asks w take h = absurd h
asks w look h = (refl, refl)
asks w (run limit) h = absurd h
asks w (write offset value) h = absurd h
asks w (read offset) h = (refl, refl)

asked_world : (w : World) (cs ds : List Call) → AllAsking cs → after_all w (cs ++ ds) ≡ after_all w ds
unfolding after_all
asked_world w [] ds h = refl
asked_world w (c ∷ cs) ds h = ap (λ (v : World). after_all v (cs ++ ds)) (asks w c h.0).0 ∙ asked_world w cs ds h.1

asked_units : (w : World) (cs ds : List Call) → AllAsking cs → units_all w (cs ++ ds) ≡ units_all w ds
unfolding units_all
asked_units w [] ds h = refl
asked_units w (c ∷ cs) ds h = rw ((asks w c h.0).0, (asks w c h.0).1) (asked_units w cs ds h.1)

pub looking_and_taking : LookingAndTaking
unfolding after_all units_all
looking_and_taking =
    record {
      changes_nothing = λ w. refl;
      world_same = world_same;
      bytes_same = bytes_same;
      units_same = units_same;
      answer_same = λ w cs h. ap (λ (l : List Call). told_at (after_all w l)) (sym (append-nil cs)) ∙ ap told_at (asked_world w cs [] h);
      unit_same = λ w cs h. asked_units w cs (take ∷ []) h ∙ append-nil (units_of w take);
      taking_same = λ w cs h. asked_world w cs (take ∷ []) h;
    }
