-- What feeds promise together. Document 02, L7: "copy at most two straight stretches, the second only past the ring's end, from its first
-- byte. State the fed ring by them .. Nothing that a caller can observe may differ, refusal 11 included." The stretches are Feeding
-- `put_round`; here stands which places they change (document 01), that they leave what storing byte after byte leaves, and that a feed may
-- be cut into pieces. Proved in proofs/Feeds `feed_promises`.
use Rattle.std.specs.Prelude.{ℕ, ◌+◌, ◌-◌, ◌<◌, ◌≡◌, cond, List, [], ◌∷◌, ◌++◌, eqb, length, get_or, set}
use Rattle.refusal.specs.Number.{or_else}
use Rattle.fifo.specs.declared.Window.{Window}
use Rattle.fifo.specs.declared.Fifo.{Fifo}
use Rattle.fifo.specs.Window.{with_window, with_write, place_after}
use Rattle.queue.specs.Feeding.{feed_refusal, fifo_after, ring_after}

-- a fifo and its ring's bytes: what a feed is handed and leaves
pub record FifoRing : Type 0 where
  pub fifo : Fifo
  pub ring : List ℕ

-- a feed's answer: 0 where it is accepted, and else its refusal
abbrev pub feed_answer : FifoRing → List ℕ → ℕ
feed_answer s bytes = feed_refusal s.fifo (length s.ring) (length bytes)

-- what a feed leaves
abbrev pub after_feed : FifoRing → List ℕ → FifoRing
after_feed s bytes = record { fifo = fifo_after s.fifo s.ring bytes; ring = ring_after s.fifo s.ring bytes }

-- ---- byte after byte

-- the write pointer one place on, from the ring's last place to its first
abbrev pub next_write : Window → ℕ
next_write w = cond (eqb (w.write + 1) w.end) w.start (w.write + 1)

-- one byte stored at the write pointer, which then goes one place on
abbrev pub store_one : FifoRing → ℕ → FifoRing
store_one s byte =
    record {
      fifo = with_window s.fifo (with_write s.fifo.window (next_write s.fifo.window));
      ring = set s.ring (s.fifo.window.write - s.fifo.window.start) byte;
    }

-- bytes stored one after the other
unfoldable pub store_each : FifoRing → List ℕ → FifoRing
store_each s [] = s
store_each s (b ∷ bs) = store_each (store_one s b) bs

-- ---- pieces

-- the bytes of pieces, in their order
unfoldable pub joined : List (List ℕ) → List ℕ
joined [] = []
joined (p ∷ ps) = p ++ joined ps

-- bytes as pieces of one byte each
unfoldable pub singles : List ℕ → List (List ℕ)
singles [] = []
singles (b ∷ bs) = (b ∷ []) ∷ singles bs

-- the first refusal of feeds in a row, each handed what the one before it left; 0 where all are accepted
unfoldable pub feeds_answer : FifoRing → List (List ℕ) → ℕ
feeds_answer s [] = 0
feeds_answer s (p ∷ ps) = or_else (feed_answer s p) (feeds_answer (after_feed s p) ps)

-- what they leave
unfoldable pub after_feeds : FifoRing → List (List ℕ) → FifoRing
after_feeds s [] = s
after_feeds s (p ∷ ps) = after_feeds (after_feed s p) ps

-- ---- the places of the ring

-- the place of byte i of a feed: "Feeding starts at the write pointer and wraps"
abbrev pub place_of : FifoRing → ℕ → ℕ
place_of s i = place_after s.fifo.window s.fifo.window.write i

-- j is the place of none of n fed bytes
abbrev pub Elsewhere : FifoRing → ℕ → ℕ → Type 0
Elsewhere s n j = (i : ℕ) → i < n → j ≡ place_of s i → ⊥

pub record FeedPromises : Type 0 where
  -- "Feeding starts at the write pointer and wraps": where a feed is accepted, each byte stands at its place
  pub fed_place : (s : FifoRing) (bytes : List ℕ) → feed_answer s bytes ≡ 0 → (i : ℕ) → i < length bytes
      → get_or (after_feed s bytes).ring (place_of s i) 0 ≡ get_or bytes i 0
  -- "only the fed places change": every other place, of every feed
  pub other_place : (s : FifoRing) (bytes : List ℕ) (j : ℕ) → Elsewhere s (length bytes) j
      → get_or (after_feed s bytes).ring j 0 ≡ get_or s.ring j 0
  -- and there are as many places as before
  pub places_same : (s : FifoRing) (bytes : List ℕ) → length (after_feed s bytes).ring ≡ length s.ring
  -- an accepted feed leaves the fifo and the ring as storing its bytes one after the other leaves them
  pub byte_after_byte : (s : FifoRing) (bytes : List ℕ) → feed_answer s bytes ≡ 0 → after_feed s bytes ≡ store_each s bytes
  -- a refused feed leaves them as they were
  pub refused_after : (s : FifoRing) (bytes : List ℕ) → (feed_answer s bytes ≡ 0 → ⊥) → after_feed s bytes ≡ s
  -- a feed cut in two: its answer is the first refusal of the two, and where it is accepted they leave what it leaves
  pub cut_answer : (s : FifoRing) (a b : List ℕ) → feed_answer s (a ++ b) ≡ or_else (feed_answer s a) (feed_answer (after_feed s a) b)
  pub cut_after : (s : FifoRing) (a b : List ℕ) → feed_answer s (a ++ b) ≡ 0 → after_feed s (a ++ b) ≡ after_feed (after_feed s a) b
  -- the same of one or more pieces, of any lengths
  pub pieces_answer : (s : FifoRing) (p : List ℕ) (ps : List (List ℕ)) → feed_answer s (joined (p ∷ ps)) ≡ feeds_answer s (p ∷ ps)
  pub pieces_after : (s : FifoRing) (p : List ℕ) (ps : List (List ℕ)) → feed_answer s (joined (p ∷ ps)) ≡ 0
      → after_feed s (joined (p ∷ ps)) ≡ after_feeds s (p ∷ ps)
  -- the answer, 1 and 11 too, is the first refusal of a feed for each byte
  pub byte_answer : (s : FifoRing) (b : ℕ) (bs : List ℕ) → feed_answer s (b ∷ bs) ≡ feeds_answer s (singles (b ∷ bs))
  -- and where it is accepted those feeds leave what it leaves
  pub byte_after : (s : FifoRing) (b : ℕ) (bs : List ℕ) → feed_answer s (b ∷ bs) ≡ 0
      → after_feed s (b ∷ bs) ≡ after_feeds s (singles (b ∷ bs))
