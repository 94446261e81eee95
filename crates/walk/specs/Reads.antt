-- A stream read to its end (document 02, L5: "run to waiting or a refusal"): units until one is not found.
use Rattle.std.specs.Prelude.{List, [], ◌∷◌, ◌++◌, ℕ, zero, suc, length, take, drop}
use Rattle.command.specs.Command.{Found, unit, waiting, refused}
use Rattle.walk.specs.Flat.{Core, flat_found, core_after, Taken}

-- what is left of the stream after what was found
abbrev pub rest_by : Found → List ℕ → List ℕ
rest_by (unit c m n) bytes = drop n bytes
rest_by (waiting k) bytes = bytes
rest_by (refused r) bytes = bytes

-- and of the registers, the draw and the lent memory
abbrev pub core_by : Found → List ℕ → Core → Core
core_by (unit c m n) bytes s = core_after c (take n bytes) s
core_by (waiting k) bytes s = s
core_by (refused r) bytes s = s

-- how a reading ended: its units, what they left, and what stood at the end
pub record StreamRead : Type 0 where
  pub units : List Taken
  pub core : Core
  pub end : Found

-- units, and then a reading
abbrev pub before : List Taken → StreamRead → StreamRead
before us r = record { units = us ++ r.units; core = r.core; end = r.end }

-- a reading of no unit
abbrev pub stopped : Core → Found → StreamRead
stopped s end = record { units = []; core = s; end = end }

-- a reading that found this first at s, and went on so where it was a unit
abbrev pub on_found : Found → Core → StreamRead → StreamRead
on_found (unit c m n) s r = before (record { command = c; memory = m; length = n } ∷ []) r
on_found (waiting k) s r = stopped s (waiting k)
on_found (refused k) s r = stopped s (refused k)

-- at most so many looks, one at each unit and one at the end; where none is left it tells 0 bytes lacking, which no look does: a reading of
-- all never comes to that
unfoldable pub reads : ℕ → List ℕ → Core → StreamRead
reads zero bytes s = stopped s (waiting 0)
reads (suc n) bytes s = on_found (flat_found bytes s) s (reads n (rest_by (flat_found bytes s) bytes) (core_by (flat_found bytes s) bytes s))

-- units until waiting or a refusal; a unit has a byte at least, so that one look more than there are bytes is enough
unfoldable pub read_all : List ℕ → Core → StreamRead
read_all bytes s = reads (suc (length bytes)) bytes s
