-- The stream of an input: how much of what is read belongs to it.
use Rattle.std.specs.Prelude.{ℕ, ◌-◌, min, Option, None, Some}

-- of so many bytes read, those that a stream still has behind so many: all of a raw stream, and of a recording as many as its head tells
abbrev pub left_of : Option ℕ → ℕ → ℕ → ℕ
left_of None seen read = read
left_of (Some told) seen read = min read (told - seen)
