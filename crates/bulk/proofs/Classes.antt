-- Units of a class that leaves no draw open are units of any class.
use mathlib.Core.Path.{◌≡◌}
use mathlib.Core.List.{List}
use Rattle.std.specs.Prelude.{Option}
use Prim.Native.Nat.{ℕ}
use Rattle.command.specs.declared.Draw.{Draw}
use Rattle.command.specs.declared.Draw.TheVariants.{Closed}
use Rattle.walk.specs.Flat.{Core, core_of}
use Rattle.walk.specs.Moves.{Moves, shut}
use Rattle.walk.proofs.Walks.{moves_none}
use Rattle.bulk.specs.Size.{size_told}
use Rattle.bulk.specs.Inner.{Known, VertexSize, MovesDraw, MovesAny}
use Rattle.bulk.proofs.Told.{told_closed}

-- what is told of units that leave no draw open
abbrev pub ToldClosed : (units to u t : ℕ) → Draw → ℕ → Type 0
ToldClosed units to u t draw size = ((u ≡ units) × ((t ≡ to) × (draw ≡ Closed))) × (size ≡ 0)

module _ {bytes : List ℕ} {from : ℕ} {most units to u t : ℕ} {draw : Draw} {cp bp xf buffer : List ℕ} {size : ℕ} where
  pub closed_moves : {s : Core} → ToldClosed units to u t draw size → Moves bytes from s most units to (shut cp bp xf buffer)
      → Moves bytes from s most u t (core_of cp bp draw xf buffer) × (size ≡ size_told cp draw)
  closed_moves e m = (rw (e.0.0, e.0.1.0, e.0.1.1) m, rw e.0.1.1 e.1)

  pub closed_any : {s : Core} {sizes : List (Option ℕ)} → ToldClosed units to u t draw size
      → Moves bytes from s most units to (shut cp bp xf buffer) → Known cp sizes
      → MovesAny bytes from s most u t (core_of cp bp draw xf buffer) sizes × VertexSize cp draw size
  closed_any e m k = (record { moves = rw (e.0.0, e.0.1.0, e.0.1.1) m; known = k }, told_closed e.0.1.1)

-- no draw is there
pub closed_draw : {bytes : List ℕ} {at most u t : ℕ} {draw : Draw} {cp buffer : List ℕ} {sizes : List (Option ℕ)} {size : ℕ}
    → ToldClosed 0 at u t draw size → Known cp sizes
    → MovesDraw bytes at cp buffer most u t draw sizes buffer × VertexSize cp draw size
closed_draw e k = (record { any = λ _ _. rw (e.0.0, e.0.1.0, e.0.1.1) moves_none; known = k }, told_closed e.0.1.1)
