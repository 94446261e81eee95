-- Feeds in a row, as calls: they leave what one feed of all their bytes leaves, where that one is accepted.
use mathlib.Core.Path.{◌≡◌, refl, sym, ap, ◌∙◌}
use mathlib.Core.List.{List, [], ◌∷◌, ◌++◌, map}
use Prim.Native.Nat.{ℕ}
use borrow.Author.Tests.{eqb-true}
use Rattle.queue.specs.Feeding.{accepted, bytes_accepted}
use Rattle.queue.specs.Promises.{FifoRing, feed_answer, joined, after_feeds}
use Rattle.queue.proofs.Feeds.{both_accepted, feed_promises}
use Rattle.history.specs.Calls.{World, feed, with_fifo, with_ring, after, after_all, fed_all}
use Rattle.history.specs.Promises.{FeedsJoined}

-- what a feed uses of a world, and a world with that replaced
abbrev ring_of : World → FifoRing
ring_of w = record { fifo = w.state.fifo; ring = w.ring }

abbrev with_ring_of : World → FifoRing → World
with_ring_of w s = with_ring (with_fifo w s.fifo) s.ring

after_feeds_lem : (w : World) (ps : List (List ℕ)) → after_all w (map feed ps) ≡ with_ring_of w (after_feeds (ring_of w) ps)
unfolding after_all after_feeds
after_feeds_lem w [] = refl
after_feeds_lem w (p ∷ ps) = after_feeds_lem (after w (feed p)) ps

-- an accepted feed's bytes are all accepted
all_bytes : (w : World) (bytes : List ℕ) → feed_answer (ring_of w) bytes ≡ 0 → bytes_accepted w.state.fifo w.ring bytes ≡ bytes
unfolding bytes_accepted accepted
all_bytes w bytes e = rw e

bytes_fed : (w : World) (p : List ℕ) (ps : List (List ℕ)) → feed_answer (ring_of w) (joined (p ∷ ps)) ≡ 0
    → fed_all w (map feed (p ∷ ps)) ≡ joined (p ∷ ps)
unfolding fed_all joined
bytes_fed w p [] e = ap (λ (l : List ℕ). l ++ []) (all_bytes w p (both_accepted (ring_of w) p [] e).0)
bytes_fed w p (q ∷ qs) e =
    let parts = both_accepted (ring_of w) p (joined (q ∷ qs)) e in
    ap (λ (l : List ℕ). l ++ fed_all (after w (feed p)) (map feed (q ∷ qs))) (all_bytes w p parts.0) ∙
    ap (λ (l : List ℕ). p ++ l) (bytes_fed (after w (feed p)) q qs parts.1)

pub feeds_joined : FeedsJoined
unfolding accepted
feeds_joined w p ps t =
    let e : feed_answer (ring_of w) (joined (p ∷ ps)) ≡ 0 = eqb-true _ _ t in
    record {
      bytes_are = bytes_fed w p ps e;
      world_is = after_feeds_lem w (p ∷ ps) ∙ sym (ap (λ (s : FifoRing). with_ring_of w s) (feed_promises.pieces_after (ring_of w) p ps e));
    }
