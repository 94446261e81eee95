-- What an inner function promises to its caller: nobody needs to read this to believe the crate.
use Rattle.std.specs.Prelude.{List, ℕ, ◌+◌, set}
use Rattle.octets.specs.BigEndian.{big_endian}

-- four words of the bytes stored at once
unfoldable pub four_stored : List ℕ → List ℕ → ℕ → ℕ → List ℕ
four_stored xf bytes to at =
    set (set (set (set xf to (big_endian bytes at 4)) (to + 1) (big_endian bytes (at + 4) 4)) (to + 2) (big_endian bytes (at + 8) 4)) (to + 3)
    (big_endian bytes (at + 12) 4)
