-- Feeds in a row: two straight stretches leave what storing byte after byte leaves, and a feed may be cut into pieces.
use Prim.Native.Nat.{ℕ, zero, suc, ◌+◌, ◌-◌, ◌<◌}
use mathlib.Core.Path.{◌≡◌, refl, sym, ap, ap₂, subst, ◌∙◌}
use mathlib.Core.Logic.{⊎_elim}
use mathlib.Core.Bool.{false}
use mathlib.Core.List.{List, [], ◌∷◌, ◌++◌, append-nil}
use native.Mathlib.Nat.{add-zero}
use native.Mathlib.Numerals.{add-one}
use native.Mathlib.Omega.{arith}
use lib.Dec.{eqb}
use lib.ListN.{length, get_or, set, take, drop, length-append, take-append-drop}
use lib.Seq.{set_split, append_snoc}
use borrow.Author.Tests.{eqb-true, eqb-false, ne_eqb}
use Rattle.std.proofs.lemmas.Bool.{cases_Bool, cases_lt, cond_both}
use Rattle.fifo.specs.declared.Window.{Window}
use Rattle.fifo.specs.declared.Fifo.{Fifo}
use Rattle.fifo.specs.Window.{size_of, Valid, Ready, ready_by, count_of, accept, with_window, with_write}
use Rattle.queue.specs.Feeding.{room_of, put, fed, accepted, fifo_after, ring_after}
use Rattle.queue.specs.Promises.{FifoRing, feed_answer, after_feed, place_of, Elsewhere, next_write, store_one, store_each}
use Rattle.refusal.specs.Number.{or_else}
use Rattle.refusal.proofs.First.{or_zero}
use Rattle.queue.specs.Promises.{joined, singles, feeds_answer, after_feeds, FeedPromises}
use Rattle.fifo.proofs.WindowLaws.{ready_true, count_below}
use Rattle.queue.proofs.Moves.{count_accept, accept_none, accept_accept, accept_straight, accept_round}
use Rattle.queue.proofs.Stretches.{put_straight}
use Rattle.queue.proofs.FeedLaws.{Fits, accepted_fits, fits_accepted, refused_unready, refused_long, refused_none}
use Rattle.queue.proofs.FeedLaws.{length_fed, fed_at, fed_other, refused_left}
use Rattle.queue.proofs.Cut.{fit_a, fit_b, fit_both, fed_cut}

-- ---- answers

-- an answer of 0 says that the bytes fit, and the other way round
answered_fits : (s : FifoRing) (bytes : List ℕ) → feed_answer s bytes ≡ 0 → Fits s.fifo (length s.ring) (length bytes)
unfolding accepted
answered_fits s bytes e = accepted_fits s.fifo s.ring bytes (ap (λ (n : ℕ). eqb n 0) e)

fits_answered : (s : FifoRing) (bytes : List ℕ) → Fits s.fifo (length s.ring) (length bytes) → feed_answer s bytes ≡ 0
fits_answered s bytes a = refused_none s.fifo s.ring bytes a

-- what a feed leaves that finds room
abbrev filled : FifoRing → List ℕ → FifoRing
filled s bytes = record { fifo = accept s.fifo (length bytes); ring = fed s.fifo.window s.ring bytes }

after_fits : (s : FifoRing) (bytes : List ℕ) → Fits s.fifo (length s.ring) (length bytes) → after_feed s bytes ≡ filled s bytes
unfolding fifo_after ring_after
after_fits s bytes a = rw (fits_accepted s.fifo s.ring bytes a)

-- ---- the places of the ring

fed_place : (s : FifoRing) (bytes : List ℕ) → feed_answer s bytes ≡ 0 → (i : ℕ) → i < length bytes
    → get_or (after_feed s bytes).ring (place_of s i) 0 ≡ get_or bytes i 0
fed_place s bytes e i l =
    let fit = answered_fits s bytes e in
    ap (λ (t : FifoRing). get_or t.ring (place_of s i) 0) (after_fits s bytes fit) ∙ fed_at s.fifo s.ring bytes fit i l

-- what holds of the ring that an accepted feed leaves, and of the ring as it was, holds of the ring that a feed leaves
of_ring : (P : List ℕ → Type 0) (s : FifoRing) (bytes : List ℕ)
    → (Fits s.fifo (length s.ring) (length bytes) → P (fed s.fifo.window s.ring bytes)) → P s.ring
    → P (after_feed s bytes).ring
unfolding ring_after
of_ring P s bytes f p =
    cond_both (accepted s.fifo s.ring bytes) _ _ P (λ t. f (accepted_fits s.fifo s.ring bytes t)) (λ _. p)

other_place : (s : FifoRing) (bytes : List ℕ) (j : ℕ) → Elsewhere s (length bytes) j
    → get_or (after_feed s bytes).ring j 0 ≡ get_or s.ring j 0
other_place s bytes j n =
    of_ring (λ (r : List ℕ). get_or r j 0 ≡ get_or s.ring j 0) s bytes (λ fit. fed_other s.fifo s.ring bytes fit j n) refl

places_same : (s : FifoRing) (bytes : List ℕ) → length (after_feed s bytes).ring ≡ length s.ring
places_same s bytes =
    of_ring (λ (r : List ℕ). length r ≡ length s.ring) s bytes (λ fit. length_fed s.fifo s.ring bytes fit) refl

-- ---- a feed cut in two, by how far there is room
module _ (s : FifoRing) (a b : List ℕ) where
  abbrev Cut : Type 0
  Cut = feed_answer s (a ++ b) ≡ or_else (feed_answer s a) (feed_answer (after_feed s a) b)

  cut_unready : ready_by s.fifo (length s.ring) ≡ false → Cut
  cut_unready e =
      rw (refused_unready s.fifo (length s.ring) (length (a ++ b)) e, refused_unready s.fifo (length s.ring) (length a) e)

  cut_long : Ready s.fifo (length s.ring) → room_of s.fifo.window < length a → Cut
  cut_long r h =
      let n : length (a ++ b) ≡ length a + length b = length-append a b in
      rw (
        refused_long s.fifo (length s.ring) (length (a ++ b)) r (omega arith),
        refused_long s.fifo (length s.ring) (length a) r h,
      )

  cut_fits : Fits s.fifo (length s.ring) (length a) → Cut
  unfolding fifo_after ring_after accept
  cut_fits fit =
      let f : Fifo = s.fifo in
      let n : length (a ++ b) ≡ length a + length b = length-append a b in
      let c : count_of (accept f (length a)).window ≡ count_of f.window + length a =
      count_accept f fit.ready.valid (length a) fit.room in
      rw (fits_answered s a fit, fits_accepted f s.ring a fit)
      (⊎_elim
      (λ h.
      let both : Fits f (length s.ring) (length a + length b) = record { ready = fit.ready; room = h } in
      fits_answered s (a ++ b) (fit_both f s.ring a b both) ∙ sym (fits_answered (filled s a) b (fit_b f s.ring a b both)))
      (λ h.
      let none : Fits (accept f (length a)) (length (fed f.window s.ring a)) 0 =
      fit_b f s.ring a [] (record { ready = fit.ready; room = omega (arith, fit.room) }) in
      refused_long f (length s.ring) (length (a ++ b)) fit.ready (omega (arith, h)) ∙
      sym
      (refused_long (accept f (length a)) (length (fed f.window s.ring a)) (length b)
      none.ready (omega (arith, h, c))))
      (cases_lt (count_of f.window + (length a + length b)) (size_of f.window)))

  cut_answer : Cut
  cut_answer =
      ⊎_elim
      (λ e.
      let r : Ready s.fifo (length s.ring) = ready_true s.fifo (length s.ring) e in
      let below = count_below s.fifo.window r.valid in
      ⊎_elim
      (λ h. cut_long r h)
      (λ h. cut_fits (record { ready = r; room = omega (arith, h) }))
      (cases_lt (room_of s.fifo.window) (length a)))
      cut_unready
      (cases_Bool (ready_by s.fifo (length s.ring)))

  cut_after : feed_answer s (a ++ b) ≡ 0 → after_feed s (a ++ b) ≡ after_feed (after_feed s a) b
  cut_after e =
      let f : Fifo = s.fifo in
      let n : length (a ++ b) ≡ length a + length b = length-append a b in
      let whole : Fits f (length s.ring) (length (a ++ b)) = answered_fits s (a ++ b) e in
      let both : Fits f (length s.ring) (length a + length b) = subst (λ (m : ℕ). Fits f (length s.ring) m) n whole in
      after_fits s (a ++ b) whole ∙
      ap (λ (x : Fifo). record { fifo = x; ring = fed f.window s.ring (a ++ b) })
      (ap (λ (m : ℕ). accept f m) n ∙ sym (accept_accept f (length a) (length b))) ∙
      ap (λ (x : List ℕ). record { fifo = accept (accept f (length a)) (length b); ring = x }) (sym (fed_cut f s.ring a b both)) ∙
      sym
      (ap (λ (t : FifoRing). after_feed t b) (after_fits s a (fit_a f s.ring a b both)) ∙
      after_fits (filled s a) b (fit_b f s.ring a b both))

pub both_accepted : (s : FifoRing) (a b : List ℕ) → feed_answer s (a ++ b) ≡ 0
    → (feed_answer s a ≡ 0) × (feed_answer (after_feed s a) b ≡ 0)
both_accepted s a b e = or_zero (feed_answer s a) (feed_answer (after_feed s a) b) (sym (cut_answer s a b) ∙ e)

-- an answer is the first refusal of itself and 0
alone : (m : ℕ) → m ≡ or_else m 0
alone zero = refl
alone (suc m) = refl

-- ---- byte after byte

put_nothing : (ring : List ℕ) (at : ℕ) → put ring at [] ≡ ring
put_nothing ring at =
    ap (λ (x : ℕ). take at ring ++ [] ++ drop x ring) (add-zero at) ∙
    ap (λ (x : List ℕ). x ++ drop at ring) (append-nil (take at ring)) ∙
    take-append-drop at ring

put_one : (ring : List ℕ) (at byte : ℕ) → at < length ring → put ring at (byte ∷ []) ≡ set ring at byte
put_one ring at byte h =
    ap (λ (x : ℕ). take at ring ++ (byte ∷ []) ++ drop x ring) (add-one at) ∙
    append_snoc (take at ring) byte (drop (suc at) ring) ∙
    sym (set_split ring at byte h)

-- the write pointer one byte on
accept_one : (f : Fifo) → Valid f.window → accept f 1 ≡ with_window f (with_write f.window (next_write f.window))
accept_one f v =
    let w : Window = f.window in
    sym
    (cond_both (eqb (w.write + 1) w.end) _ _ (λ (p : ℕ). with_window f (with_write w p) ≡ accept f 1)
    (λ t.
    let e : w.write + 1 ≡ w.end = eqb-true (w.write + 1) w.end t in
    let p : w.start ≡ w.start + (1 - (w.end - w.write)) = omega arith in
    ap (λ (x : ℕ). with_window f (with_write w x)) p ∙ accept_round f v 1 (omega arith) (omega arith))
    (λ t.
    let n : w.write + 1 ≡ w.end → ⊥ = eqb-false (w.write + 1) w.end t in
    accept_straight f v 1 (omega arith)))

-- a feed of no bytes
after_nothing : (s : FifoRing) → feed_answer s [] ≡ 0 → after_feed s [] ≡ s
unfolding fed
after_nothing s e =
    let fit : Fits s.fifo (length s.ring) 0 = answered_fits s [] e in
    let w : Window = s.fifo.window in
    after_fits s [] fit ∙
    ap (λ (x : Fifo). record { fifo = x; ring = fed w s.ring [] }) (accept_none s.fifo fit.ready.valid) ∙
    ap (λ (x : List ℕ). record { fifo = s.fifo; ring = x })
    (sym (put_straight s.ring (w.write - w.start) (w.end - w.write) [] (omega arith)) ∙
    put_nothing s.ring (w.write - w.start))

-- a feed of one byte
after_one : (s : FifoRing) (byte : ℕ) → feed_answer s (byte ∷ []) ≡ 0 → after_feed s (byte ∷ []) ≡ store_one s byte
unfolding fed
after_one s byte e =
    let f : Fifo = s.fifo in
    let w : Window = f.window in
    let fit : Fits f (length s.ring) 1 = answered_fits s (byte ∷ []) e in
    let v = fit.ready.valid in
    after_fits s (byte ∷ []) fit ∙
    ap (λ (x : Fifo). record { fifo = x; ring = fed w s.ring (byte ∷ []) }) (accept_one f v) ∙
    ap (λ (x : List ℕ). record { fifo = with_window f (with_write w (next_write w)); ring = x })
    (sym (put_straight s.ring (w.write - w.start) (w.end - w.write) (byte ∷ []) (omega arith)) ∙
    put_one s.ring (w.write - w.start) byte (omega (arith, fit.ready.whole)))

by_bytes : (s : FifoRing) (bytes : List ℕ) → feed_answer s bytes ≡ 0 → after_feed s bytes ≡ store_each s bytes
unfolding store_each
by_bytes s [] e = after_nothing s e
by_bytes s (b ∷ bs) e =
    let parts = both_accepted s (b ∷ []) bs e in
    cut_after s (b ∷ []) bs e ∙
    by_bytes (after_feed s (b ∷ [])) bs parts.1 ∙
    ap (λ (t : FifoRing). store_each t bs) (after_one s b parts.0)

refused_after : (s : FifoRing) (bytes : List ℕ) → (feed_answer s bytes ≡ 0 → ⊥) → after_feed s bytes ≡ s
unfolding accepted
refused_after s bytes n =
    let l = refused_left s.fifo s.ring bytes (ne_eqb (feed_answer s bytes) 0 n) in
    ap₂ (λ (f : Fifo) (r : List ℕ). record { fifo = f; ring = r }) l.0 l.1

-- ---- pieces

pieces_answer : (s : FifoRing) (p : List ℕ) (ps : List (List ℕ)) → feed_answer s (joined (p ∷ ps)) ≡ feeds_answer s (p ∷ ps)
unfolding joined feeds_answer
pieces_answer s p [] = ap (λ (l : List ℕ). feed_answer s l) (append-nil p) ∙ alone (feed_answer s p)
pieces_answer s p (q ∷ qs) =
    cut_answer s p (joined (q ∷ qs)) ∙
    ap (λ (n : ℕ). or_else (feed_answer s p) n) (pieces_answer (after_feed s p) q qs)

pieces_after : (s : FifoRing) (p : List ℕ) (ps : List (List ℕ)) → feed_answer s (joined (p ∷ ps)) ≡ 0
    → after_feed s (joined (p ∷ ps)) ≡ after_feeds s (p ∷ ps)
unfolding joined after_feeds
pieces_after s p [] e = ap (λ (l : List ℕ). after_feed s l) (append-nil p)
pieces_after s p (q ∷ qs) e =
    cut_after s p (joined (q ∷ qs)) e ∙ pieces_after (after_feed s p) q qs (both_accepted s p (joined (q ∷ qs)) e).1

joined_singles : (bs : List ℕ) → joined (singles bs) ≡ bs
unfolding joined singles
joined_singles [] = refl
joined_singles (b ∷ bs) = ap (λ (l : List ℕ). b ∷ l) (joined_singles bs)

byte_answer : (s : FifoRing) (b : ℕ) (bs : List ℕ) → feed_answer s (b ∷ bs) ≡ feeds_answer s (singles (b ∷ bs))
unfolding singles
byte_answer s b bs = ap (λ (l : List ℕ). feed_answer s l) (sym (joined_singles (b ∷ bs))) ∙ pieces_answer s (b ∷ []) (singles bs)

byte_after : (s : FifoRing) (b : ℕ) (bs : List ℕ) → feed_answer s (b ∷ bs) ≡ 0 → after_feed s (b ∷ bs) ≡ after_feeds s (singles (b ∷ bs))
unfolding singles
byte_after s b bs e =
    let j : joined (singles (b ∷ bs)) ≡ b ∷ bs = joined_singles (b ∷ bs) in
    ap (λ (l : List ℕ). after_feed s l) (sym j) ∙ pieces_after s (b ∷ []) (singles bs) (ap (λ (l : List ℕ). feed_answer s l) j ∙ e)

pub feed_promises : FeedPromises
feed_promises =
    record {
      fed_place = fed_place;
      other_place = other_place;
      places_same = places_same;
      byte_after_byte = by_bytes;
      refused_after = refused_after;
      cut_answer = cut_answer;
      cut_after = cut_after;
      pieces_answer = pieces_answer;
      pieces_after = pieces_after;
      byte_answer = byte_answer;
      byte_after = byte_after;
    }
