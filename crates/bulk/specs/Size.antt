-- What is told beside the units that were taken: how many bytes a vertex of the draw has that they leave open.
use Rattle.std.specs.Prelude.{cond, List, ℕ, eqb}
use Rattle.command.specs.declared.Draw.{Draw}
use Rattle.command.specs.declared.Draw.TheVariants.{Closed, Open}
use Rattle.command.specs.Look.{vertex_bytes}

-- the bytes of a vertex of the draw; 0 where none is open, where no vertex is left, which 1 refuses, or where 9 or 10 refuse its layout
abbrev pub size_told : List ℕ → Draw → ℕ
size_told cp Closed = 0
size_told cp (Open primitive format left) = cond (eqb left 0) 0 (vertex_bytes cp format)
