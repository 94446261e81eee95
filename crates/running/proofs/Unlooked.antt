-- In an open draw whose vertices are known to have so many bytes, neither a vertex nor waiting needs a look.
use mathlib.Core.Path.{◌≡◌, refl, sym, ap, ◌∙◌}
use mathlib.Core.Bool.{Bool, true, false, cond}
use mathlib.Core.Logic.{inl, inr}
use mathlib.Core.List.{List}
use Prim.Native.Nat.{ℕ, ◌-◌, ◌<◌, ◌≤◌}
use native.Mathlib.Omega.{arith}
use lib.Dec.{eqb}
use Rattle.command.specs.declared.Draw.{Draw}
use Rattle.command.specs.declared.Draw.TheVariants.{Closed, Open}
use Rattle.command.specs.Command.{unit, waiting, vertex}
use Rattle.command.specs.Look.{vertex_bytes}
use Rattle.command.proofs.Decided.{bytes_most, looks_vertex, waits_vertex}
use Rattle.bulk.specs.Size.{size_told}
use Rattle.cursor.specs.declared.Cursor.{Cursor}
use Rattle.cursor.specs.Cursor.{peeked}
use Rattle.unit.specs.Cursor.{seen}
use Rattle.running.specs.Stretch.{SizeKnown}

-- the open draw whose vertices have so many bytes
record Drawing (cp : List ℕ) (draw : Draw) (size : ℕ) : Type 0 where
  primitive : ℕ
  format : ℕ
  left : ℕ
  draw_is : draw ≡ Open primitive format left
  size_is : size ≡ vertex_bytes cp format

-- what is told and not 0
some_told : (t : Bool) (n size : ℕ) → size ≡ cond t 0 n → 0 < size → size ≡ n
some_told true n size e h = absurd (omega (arith, e, h))
some_told false n size e h = e

told : (cp : List ℕ) (draw : Draw) (size : ℕ) → size ≡ size_told cp draw → 0 < size → Drawing cp draw size
told cp Closed size e h = absurd (omega (arith, e, h))
told cp (Open p f left) size e h =
    record { primitive = p; format = f; left = left; draw_is = refl; size_is = some_told (eqb left 0) (vertex_bytes cp f) size e h }

-- a size that is known and not 0 is that of the vertices of an open draw
known : (cp : List ℕ) (draw : Draw) (size : ℕ) → SizeKnown cp draw size → 0 < size → Drawing cp draw size
known cp draw size (inl z) h = absurd (omega (arith, z, h))
known cp draw size (inr e) h = told cp draw size e h

-- it is that of a vertex
pub known_most : (cp : List ℕ) (draw : Draw) (size : ℕ) → SizeKnown cp draw size → 0 < size → size ≤ 129
known_most cp draw size v h = let d = known cp draw size v h in omega (arith, d.size_is, bytes_most cp d.format)

pub waits_unlooked : (cursor : Cursor) (ring cp : List ℕ) (draw : Draw) (size : ℕ) → SizeKnown cp draw size
    → 0 < size → cursor.left < size → waiting (size - cursor.left) ≡ seen cursor ring cp draw
unfolding seen
waits_unlooked cursor ring cp draw size v some h =
    let d = known cp draw size v some in
    rw d.draw_is
    (ap (λ (k : ℕ). waiting (k - cursor.left)) d.size_is
    ∙ sym (waits_vertex (peeked cursor ring) cursor.left cp d.primitive d.format d.left (omega (arith, d.size_is, h))))

pub vertex_unlooked : (cursor : Cursor) (ring cp : List ℕ) (draw : Draw) (size : ℕ) → SizeKnown cp draw size
    → 0 < size → size ≤ cursor.left → unit vertex 0 size ≡ seen cursor ring cp draw
unfolding seen
vertex_unlooked cursor ring cp draw size v some h =
    let d = known cp draw size v some in
    rw d.draw_is
    (ap (λ (k : ℕ). unit vertex 0 k) d.size_is
    ∙ sym (looks_vertex (peeked cursor ring) cursor.left cp d.primitive d.format d.left
    (omega (arith, d.size_is, some)) (omega (arith, d.size_is, h))))
