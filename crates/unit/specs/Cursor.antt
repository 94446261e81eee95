-- One unit over a cursor: what `look_at` and `take_at` promise for every cursor and ring. For a ready fifo it is one unit of its queue.
use Rattle.std.specs.Prelude.{◌≡◌, List, ℕ}
use Rattle.laws.specs.Values.{up_to}
use Rattle.command.specs.declared.Draw.{Draw}
use Rattle.command.specs.Command.{Found, unit, waiting, refused}
use Rattle.command.specs.Look.{look_of}
use Rattle.effect.specs.Effect.{cp_after, bp_after, xf_after, vertex_after, draw_after}
use Rattle.cursor.specs.declared.Cursor.{Cursor}
use Rattle.cursor.specs.Cursor.{byte_of, peeked, skipped}
use Rattle.command.specs.declared.StepAnswer.{StepAnswer}
use Rattle.unit.specs.Answers.{meaning}

-- what the cursor's bytes begin with
unfoldable pub seen : Cursor → List ℕ → List ℕ → Draw → Found
seen cursor ring cp draw = look_of (peeked cursor ring) cursor.left cp draw

-- the first n bytes of a cursor
abbrev pub bytes_at : Cursor → List ℕ → ℕ → List ℕ
bytes_at cursor ring n = up_to (byte_of cursor ring) n

-- ---- each thing after what was found; waiting and refusals change nothing

abbrev pub cursor_by : Found → Cursor → Cursor
cursor_by (unit c m n) cursor = skipped cursor n
cursor_by (waiting k) cursor = cursor
cursor_by (refused r) cursor = cursor

abbrev pub draw_by : Found → Draw → Draw
draw_by (unit c m n) draw = draw_after c draw
draw_by (waiting k) draw = draw
draw_by (refused r) draw = draw

abbrev pub cp_by : Found → List ℕ → List ℕ
cp_by (unit c m n) cp = cp_after c cp
cp_by (waiting k) cp = cp
cp_by (refused r) cp = cp

abbrev pub bp_by : Found → List ℕ → List ℕ
bp_by (unit c m n) bp = bp_after c bp
bp_by (waiting k) bp = bp
bp_by (refused r) bp = bp

abbrev pub xf_by : Found → Cursor → List ℕ → List ℕ → List ℕ
xf_by (unit c m n) cursor ring xf = xf_after c (bytes_at cursor ring n) xf
xf_by (waiting k) cursor ring xf = xf
xf_by (refused r) cursor ring xf = xf

abbrev pub buffer_by : Found → Cursor → List ℕ → List ℕ → List ℕ
buffer_by (unit c m n) cursor ring buffer = vertex_after c (bytes_at cursor ring n) buffer
buffer_by (waiting k) cursor ring buffer = buffer
buffer_by (refused r) cursor ring buffer = buffer

-- what was found at a cursor, and all that it leaves
pub record Takes (found : Found) (cursor : Cursor) (ring cp bp : List ℕ) (draw : Draw) (xf buffer : List ℕ)
    (answer : StepAnswer) (cursor' : Cursor) (draw' : Draw) (cp' bp' xf' buffer' : List ℕ) : Type 0 where
  pub answer_is : meaning answer ≡ found
  pub cursor_is : cursor' ≡ cursor_by found cursor
  pub draw_is : draw' ≡ draw_by found draw
  pub cp_is : cp' ≡ cp_by found cp
  pub bp_is : bp' ≡ bp_by found bp
  pub xf_is : xf' ≡ xf_by found cursor ring xf
  pub buffer_is : buffer' ≡ buffer_by found cursor ring buffer
