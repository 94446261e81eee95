-- Units of the first bytes from a cursor on: what the inner function promises for every cursor and ring. Nobody needs to read this to
-- believe the crate.
use Rattle.std.specs.Prelude.{◌≡◌, ◌⊎◌, List, ℕ, ◌≤◌}
use Rattle.command.specs.declared.Draw.{Draw}
use Rattle.command.specs.Command.{unit, vertex}
use Rattle.walk.specs.Flat.{core_of}
use Rattle.walk.specs.Walk.{TakesMany}
use Rattle.bulk.specs.Size.{size_told}
use Rattle.cursor.specs.declared.Cursor.{Cursor}
use Rattle.cursor.specs.Cursor.{skipped}
use Rattle.unit.specs.Cursor.{bytes_at, Takes}
use Rattle.command.specs.declared.StepAnswer.{StepAnswer}

-- units off the first bytes of a cursor, and all that they leave
pub record TakesStretch (cursor : Cursor) (ring cp bp : List ℕ) (draw : Draw) (xf buffer : List ℕ) (most : ℕ)
    (cursor' : Cursor) (draw' : Draw) (units : ℕ) (cp' bp' xf' buffer' : List ℕ) : Type 0 where
  pub lent : ℕ
  pub used : ℕ
  pub there : lent ≤ cursor.left
  pub taken : TakesMany (bytes_at cursor ring lent) (core_of cp bp draw xf buffer) most units used (core_of cp' bp' draw' xf' buffer')
  pub moved : cursor' ≡ skipped cursor used

-- the bytes of a vertex of the draw, or 0 where they are not known
abbrev pub SizeKnown : List ℕ → Draw → ℕ → Type 0
SizeKnown cp draw size = (size ≡ 0) ⊎ (size ≡ size_told cp draw)

-- a vertex of so many bytes taken off a cursor: registers and XF words stay
pub record TakesVertex (cursor : Cursor) (ring : List ℕ) (draw : Draw) (buffer : List ℕ) (size : ℕ)
    (answer : StepAnswer) (cursor' : Cursor) (draw' : Draw) (buffer' : List ℕ) : Type 0 where
  pub any : (cp bp xf : List ℕ) → Takes (unit vertex 0 size) cursor ring cp bp draw xf buffer answer cursor' draw' cp bp xf buffer'
