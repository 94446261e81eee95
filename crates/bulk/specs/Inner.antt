-- What inner functions promise to their callers: nobody needs to read this to believe the crate.
use Rattle.std.specs.Prelude.{◌≡◌, Bool, true, false, ◌⊎◌, Option, Some, None, List, ℕ, ◌*◌, ◌<◌, ◌≤◌, length, get_or, take, drop}
use Rattle.command.specs.declared.Draw.{Draw}
use Rattle.command.specs.declared.Draw.TheVariants.{Open}
use Rattle.command.specs.Look.{vertex_bytes}
use Rattle.places.specs.Places.{cp_accepted}
use Rattle.effect.specs.Effect.{loaded_cp, copied, opened_by}
use Rattle.walk.specs.Flat.{Core, core_of}
use Rattle.walk.specs.Moves.{Moves, shut}
use Rattle.bulk.specs.Size.{size_told}

-- sizes of vertices, of the eight formats: those that are known are right
pub record Known (cp : List ℕ) (sizes : List (Option ℕ)) : Type 0 where
  pub eight : length sizes ≡ 8
  pub right : (f : ℕ) → f < 8 → (get_or sizes f None ≡ None) ⊎ (get_or sizes f None ≡ Some (vertex_bytes cp f))

-- the size of a vertex of a format, and sizes that are still right
pub record Sized (cp : List ℕ) (format size : ℕ) (sizes' : List (Option ℕ)) : Type 0 where
  pub size_is : size ≡ vertex_bytes cp format
  pub known : Known cp sizes'

-- a CP load, where it is accepted
pub record Executes (address number : ℕ) (cp : List ℕ) (sizes : List (Option ℕ)) (accepted : Bool) (cp' : List ℕ)
    (sizes' : List (Option ℕ)) : Type 0 where
  pub accepted_is : accepted ≡ cp_accepted address
  pub loaded : accepted ≡ true → (cp' ≡ loaded_cp cp address number) × Known cp' sizes'
  pub none : accepted ≡ false → (cp' ≡ cp) × (sizes' ≡ sizes)

-- CP loads: they change the CP registers alone
pub record MovesCp (bytes : List ℕ) (from : ℕ) (cp : List ℕ) (most units to : ℕ) (cp' : List ℕ) (sizes' : List (Option ℕ)) : Type 0 where
  pub any : (bp xf buffer : List ℕ) → Moves bytes from (shut cp bp xf buffer) most units to (shut cp' bp xf buffer)
  pub known : Known cp' sizes'

-- so many vertices of so many bytes are whole in the room, left and allowed
pub record Fits (room size left most n : ℕ) : Type 0 where
  pub inside : n * size ≤ room
  pub unspent : n ≤ left
  pub allowed : n ≤ most

-- the buffer after a vertex of so many bytes at a place
abbrev pub copied_at : List ℕ → ℕ → ℕ → List ℕ → List ℕ
copied_at bytes at size buffer = copied (take size (drop at bytes)) buffer

-- vertices of a draw with so many left, each of so many bytes: they change the draw and the vertex buffer alone
pub record MovesVertices (bytes : List ℕ) (from primitive format left size : ℕ) (buffer : List ℕ) (most units to : ℕ) (draw' : Draw)
    (buffer' : List ℕ) : Type 0 where
  pub any : (cp bp xf : List ℕ) → size ≡ vertex_bytes cp format
      → Moves bytes from (core_of cp bp (opened_by primitive format left) xf buffer) most units to (core_of cp bp draw' xf buffer')

-- the draw that vertices of so many bytes leave, and a vertex's bytes told
pub record Leaves (primitive format size : ℕ) (draw' : Draw) (size' : ℕ) : Type 0 where
  pub left : ℕ
  pub draw_is : draw' ≡ opened_by primitive format left
  pub size_is : size' ≡ size

-- the bytes of a vertex told of a draw that is open; of a closed one nothing is said
pub record VertexSize (cp : List ℕ) (draw : Draw) (size : ℕ) : Type 0 where
  pub told : (primitive format left : ℕ) → draw ≡ Open primitive format left → size ≡ size_told cp (Open primitive format left)

-- vertices of the draw that is open
pub record MovesOpen (bytes cp : List ℕ) (draw : Draw) (buffer : List ℕ) (most units to : ℕ) (draw' : Draw)
    (sizes' : List (Option ℕ)) (buffer' : List ℕ) : Type 0 where
  pub any : (bp xf : List ℕ) → Moves bytes 0 (core_of cp bp draw xf buffer) most units to (core_of cp bp draw' xf buffer')
  pub known : Known cp sizes'

-- a head with vertices of its draw
pub record MovesDraw (bytes : List ℕ) (from : ℕ) (cp buffer : List ℕ) (most units to : ℕ) (draw' : Draw)
    (sizes' : List (Option ℕ)) (buffer' : List ℕ) : Type 0 where
  pub any : (bp xf : List ℕ) → Moves bytes from (shut cp bp xf buffer) most units to (core_of cp bp draw' xf buffer')
  pub known : Known cp sizes'

-- units of any class
pub record MovesAny (bytes : List ℕ) (from : ℕ) (s : Core) (most units to : ℕ) (s' : Core) (sizes' : List (Option ℕ)) : Type 0 where
  pub moves : Moves bytes from s most units to s'
  pub known : Known s'.cp sizes'
