-- Document 01, "Feeding starts at the write pointer and wraps; only the fed places change."
use Rattle.std.specs.Prelude.{ℕ, ◌+◌, ◌-◌, ◌≡◌, Bool, cond, List, [], ◌∷◌, ◌++◌, leb, eqb, length, take, drop, Result}
use Rattle.refusal.specs.declared.Reason.{Reason}
use Rattle.fifo.specs.declared.Window.{Window}
use Rattle.fifo.specs.declared.Fifo.{Fifo}
use Rattle.fifo.specs.Window.{size_of, ready_by, count_of, accept}
use Rattle.fifo.specs.Answers.{meaning_of}

-- refusal 11, "feed longer than size minus 1 minus count": how many bytes may be fed
abbrev pub room_of : Window → ℕ
room_of w = size_of w - 1 - count_of w

-- "feed [tests] the window and ring parts of 1, then 11": the number of a feed of n bytes into a ring of a length, 0 where it is accepted
unfoldable pub feed_refusal : Fifo → ℕ → ℕ → ℕ
feed_refusal f ring n = cond (ready_by f ring) (cond (leb n (room_of f.window)) 0 11) 1

-- a list with some of its elements, from a place on, replaced
abbrev pub put : {A : Type 0} → List A → ℕ → List A → List A
put list at values = take at list ++ values ++ drop (at + length values) list

-- two straight stretches: the first bytes from a place on, as many as there is room for to the ring's end, and the rest from place 0
unfoldable pub put_round : List ℕ → ℕ → ℕ → List ℕ → List ℕ
put_round ring at straight bytes = put (put ring at (take straight bytes)) 0 (drop straight bytes)

-- the ring with bytes fed at the write pointer
unfoldable pub fed : Window → List ℕ → List ℕ → List ℕ
fed w ring bytes = put_round ring (w.write - w.start) (w.end - w.write) bytes

-- whether a feed is accepted
unfoldable pub accepted : Fifo → List ℕ → List ℕ → Bool
accepted f ring bytes = eqb (feed_refusal f (length ring) (length bytes)) 0

-- "bytes accepted": those of a feed, none where it is refused
unfoldable pub bytes_accepted : Fifo → List ℕ → List ℕ → List ℕ
bytes_accepted f ring bytes = cond (accepted f ring bytes) bytes []

-- the fifo and the ring after a feed: "The refused call .. changes nothing"
unfoldable pub fifo_after : Fifo → List ℕ → List ℕ → Fifo
fifo_after f ring bytes = cond (accepted f ring bytes) (accept f (length bytes)) f

unfoldable pub ring_after : Fifo → List ℕ → List ℕ → List ℕ
ring_after f ring bytes = cond (accepted f ring bytes) (fed f.window ring bytes) ring

-- what a feed gives: its answer, and the fifo and the ring that it leaves
pub record FedBy (f : Fifo) (ring bytes : List ℕ) (r : Result (Unit {0}) Reason) (left : Fifo) (after : List ℕ) : Type 0 where
  pub answer_is : meaning_of r ≡ feed_refusal f (length ring) (length bytes) ∷ []
  pub fifo_is : left ≡ fifo_after f ring bytes
  pub ring_is : after ≡ ring_after f ring bytes
