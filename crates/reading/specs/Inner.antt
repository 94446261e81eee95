-- What an inner function promises to its caller: nobody needs to read this to believe the crate.
use Rattle.std.specs.Prelude.{Bool, ◌&&◌, ℕ, ◌-◌, ◌≤◌, leb}
use Rattle.cursor.specs.declared.Cursor.{Cursor}

-- whether the first n bytes are there and lie in two stretches of a ring of such a length: up to the cursor's size, and from the ring's
-- first byte on
unfoldable pub round_by : Cursor → ℕ → ℕ → Bool
round_by c ring n =
    (leb n c.left && leb c.at c.size) && (leb (c.size - c.at) n && (leb c.size ring && leb (n - (c.size - c.at)) ring))

-- the same as facts
pub record Round (c : Cursor) (ring n : ℕ) : Type 0 where
  pub there : n ≤ c.left
  pub inside : c.at ≤ c.size
  pub past : c.size - c.at ≤ n
  pub first : c.size ≤ ring
  pub rest : n - (c.size - c.at) ≤ ring
