-- The queue that the ring holds. All that is said of feeding, looking and taking is said over this list.
use Rattle.std.specs.Prelude.{ℕ, List, get_or}
use Rattle.laws.specs.Values.{up_to}
use Rattle.fifo.specs.declared.Window.{Window}
use Rattle.fifo.specs.Window.{count_of, place_after}

-- the bytes from the read pointer to the write pointer, in the order in which they were fed
unfoldable pub pending : Window → List ℕ → List ℕ
pending w ring = up_to (λ k. get_or ring (place_after w w.read k) 0) (count_of w)
