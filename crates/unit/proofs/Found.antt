-- What `take_at` leaves, by what was found.
use mathlib.Core.Path.{◌≡◌, refl, sym, ap, subst, ◌∙◌}
use mathlib.Core.List.{List}
use Prim.Native.Nat.{ℕ, ◌≤◌}
use Rattle.command.specs.declared.Command.{Command}
use Rattle.command.specs.declared.Draw.{Draw}
use Rattle.command.specs.Command.{Found, unit, numbers_of, meaning}
use Rattle.command.specs.Look.{look_of}
use Rattle.command.proofs.Bounds.{Fair, look_fair}
use Rattle.effect.specs.Effect.{draw_after, Applied}
use Rattle.cursor.specs.declared.Cursor.{Cursor}
use Rattle.cursor.specs.Cursor.{peeked, skipped}
use Rattle.command.specs.declared.StepAnswer.{StepAnswer}
use Rattle.command.specs.declared.StepAnswer.TheVariants.{Done, Waiting, Refused}
use Rattle.unit.specs.Cursor.{seen, bytes_at, Takes}

-- what is found by a cursor's first bytes is what it begins with
pub seen_by : (cursor : Cursor) (ring cp : List ℕ) (draw : Draw) {b : List ℕ} {found : Found} → b ≡ peeked cursor ring
    → found ≡ look_of b cursor.left cp draw → found ≡ seen cursor ring cp draw
unfolding seen
seen_by cursor ring cp draw p f = f ∙ ap (λ (b : List ℕ). look_of b cursor.left cp draw) p

-- a unit that a cursor begins with has at most 129 bytes
pub seen_most : (cursor : Cursor) (ring cp : List ℕ) (draw : Draw) (c : List ℕ) (m l : ℕ) → unit c m l ≡ seen cursor ring cp draw → l ≤ 129
unfolding seen
seen_most cursor ring cp draw c m l e =
    (subst (Fair cursor.left) (sym e) (look_fair (peeked cursor ring) cursor.left cp draw)).1.1

module _ {found : Found} {cursor : Cursor} {ring cp bp : List ℕ} {draw : Draw} {xf buffer : List ℕ} where
  pub takes_unit : {command : Command} {memory length : ℕ} {cursor' : Cursor} {draw' : Draw} {cp' bp' xf' buffer' : List ℕ}
      → unit (numbers_of command) memory length ≡ found
      → Applied (numbers_of command) (bytes_at cursor ring length) cp bp xf buffer cp' bp' xf' buffer'
      → cursor' ≡ skipped cursor length → draw' ≡ draw_after (numbers_of command) draw
      → Takes found cursor ring cp bp draw xf buffer (Done command memory length) cursor' draw' cp' bp' xf' buffer'
  takes_unit e a s d =
      rw (← e)
      (record {
        answer_is = refl;
        cursor_is = s;
        draw_is = d;
        cp_is = a.cp_is;
        bp_is = a.bp_is;
        xf_is = a.xf_is;
        buffer_is = a.buffer_is;
      })

  -- what is no unit changes nothing
  pub takes_none : {answer : StepAnswer} → meaning answer ≡ found → ((c : Command) (m l : ℕ) → answer ≡ Done c m l → ⊥)
      → Takes found cursor ring cp bp draw xf buffer answer cursor draw cp bp xf buffer
  takes_none {answer = Done c m l} e other = absurd (other c m l refl)
  takes_none {answer = Waiting k} e other =
      rw (← e)
      (record { answer_is = refl; cursor_is = refl; draw_is = refl; cp_is = refl; bp_is = refl; xf_is = refl; buffer_is = refl })
  takes_none {answer = Refused r} e other =
      rw (← e)
      (record { answer_is = refl; cursor_is = refl; draw_is = refl; cp_is = refl; bp_is = refl; xf_is = refl; buffer_is = refl })
