-- Feeding: what is accepted comes to the end of the queue, and only the fed places change.
use Prim.Native.Nat.{ℕ, ◌+◌, ◌-◌, ◌%◌, ◌≤◌, ◌<◌}
use mathlib.Core.Path.{◌≡◌, refl, sym, ap, subst, ◌∙◌}
use mathlib.Core.Logic.{⊎_elim}
use mathlib.Core.Bool.{Bool, true, false, cond}
use mathlib.Core.List.{List, [], ◌∷◌, ◌++◌, append-nil}
use native.Mathlib.Omega.{arith}
use lib.Dec.{leb}
use lib.ListN.{length, get_or, length-append, get_or-append}
use lib.Seq.{ext_get_or, get_or-append-add}
use borrow.Author.Tests.{leb-true, le-leb, lt-leb, eqb-true}
use Rattle.std.proofs.lemmas.Bool.{cases_Bool, cases_lt}
use Rattle.std.specs.Prelude.{Ok, Err}
use Rattle.refusal.specs.declared.Reason.{Reason}
use Rattle.refusal.specs.declared.Reason.TheVariants.{InvalidState, FeedTooLong}
use Rattle.refusal.specs.Number.{number}
use Rattle.fifo.specs.declared.Window.{Window}
use Rattle.fifo.specs.declared.Fifo.{Fifo}
use Rattle.fifo.specs.Window.{size_of, Ready, ready_by, count_of, accept, place_after}
use Rattle.queue.specs.Pending.{pending}
use Rattle.queue.specs.Feeding.{room_of, feed_refusal, fed, accepted, bytes_accepted, fifo_after, ring_after, FedBy}
use Rattle.fifo.proofs.WindowLaws.{ready_true, true_ready, count_below}
use Rattle.queue.proofs.Moves.{write_after, ready_accept, count_accept, places_differ}
use Rattle.queue.proofs.Pending.{length_pending, pending_at}
use Rattle.queue.proofs.Stretches.{length_put_round, round_at, round_other}

-- bytes that find room in a ring that obeys the rules
pub record Fits (f : Fifo) (ring n : ℕ) : Type 0 where
  pub ready : Ready f ring
  pub room : count_of f.window + n < size_of f.window

-- an accepted feed's bytes find room
fits_by : (f : Fifo) (ring n : ℕ) (t u : Bool) → ready_by f ring ≡ t → leb n (room_of f.window) ≡ u
    → ◌≡◌ {A = ℕ} (cond t (cond u 0 11) 1) 0 → Fits f ring n
fits_by f ring n true true e l z =
    let r : Ready f ring = ready_true f ring e in
    let b = count_below f.window r.valid in
    record { ready = r; room = omega (arith, leb-true n (room_of f.window) l) }
fits_by f ring n true false e l z = absurd (omega arith)
fits_by f ring n false u e l z = absurd (omega arith)

pub accepted_fits : (f : Fifo) (ring bytes : List ℕ) → accepted f ring bytes ≡ true → Fits f (length ring) (length bytes)
unfolding accepted feed_refusal
accepted_fits f ring bytes e =
    fits_by f (length ring) (length bytes) (ready_by f (length ring)) (leb (length bytes) (room_of f.window)) refl refl
    (eqb-true _ _ e)

module _ (f : Fifo) (ring bytes : List ℕ) (a : Fits f (length ring) (length bytes)) where
  turn : f.window.write - f.window.start + (f.window.end - f.window.write) ≡ length ring
  turn = let v = a.ready.valid in omega (arith, a.ready.whole)

  short : length bytes ≤ length ring
  short = omega (arith, a.ready.whole, a.room)

  -- the code's place of a byte
  place : (i : ℕ) → place_after f.window f.window.write i ≡ (f.window.write - f.window.start + i) % length ring
  place i = ap (λ (s : ℕ). (f.window.write - f.window.start + i) % s) (sym a.ready.whole)

  pub length_fed : length (fed f.window ring bytes) ≡ length ring
  unfolding fed
  length_fed = length_put_round ring (f.window.write - f.window.start) (f.window.end - f.window.write) bytes turn short

  -- "Feeding starts at the write pointer and wraps"
  pub fed_at : (i : ℕ) → i < length bytes
      → get_or (fed f.window ring bytes) (place_after f.window f.window.write i) 0 ≡ get_or bytes i 0
  unfolding fed
  fed_at i l =
      ap (λ (x : ℕ). get_or (fed f.window ring bytes) x 0) (place i) ∙
      round_at ring (f.window.write - f.window.start) (f.window.end - f.window.write) bytes turn short i l

  -- "only the fed places change"
  pub fed_other : (j : ℕ) → ((i : ℕ) → i < length bytes → j ≡ place_after f.window f.window.write i → ⊥)
      → get_or (fed f.window ring bytes) j 0 ≡ get_or ring j 0
  unfolding fed
  fed_other j n =
      round_other ring (f.window.write - f.window.start) (f.window.end - f.window.write) bytes turn short j
      (λ i l e. n i l (e ∙ sym (place i)))

  -- a place past the fed bytes keeps its byte
  pub fed_past : (i : ℕ) → i < size_of f.window → length bytes ≤ i
      → get_or (fed f.window ring bytes) (place_after f.window f.window.write i) 0
      ≡ get_or ring (place_after f.window f.window.write i) 0
  fed_past i h l =
      fed_other (place_after f.window f.window.write i)
      (λ k b e. places_differ f.window f.window.write k i (omega arith) (omega arith) (sym e))

  -- what is fed comes to the end of the queue
  pub pending_fed : pending (accept f (length bytes)).window (fed f.window ring bytes) ≡ pending f.window ring ++ bytes
  unfolding accept
  pending_fed =
      let w : Window = f.window in
      let w' : Window = (accept f (length bytes)).window in
      let after : List ℕ = fed w ring bytes in
      let v = a.ready.valid in
      let c : count_of w' ≡ count_of w + length bytes = count_accept f v (length bytes) a.room in
      let l' : length (pending w' after) ≡ count_of w' = length_pending w' after in
      let l : length (pending w ring) ≡ count_of w = length_pending w ring in
      let m : length (pending w ring ++ bytes) ≡ length (pending w ring) + length bytes = length-append (pending w ring) bytes in
      ext_get_or 0 (pending w' after) (pending w ring ++ bytes) (omega arith)
      (λ k b.
      pending_at w' after k (omega arith) ∙
      ⊎_elim
      (λ h.
      fed_other (place_after w w.read k)
      (λ i s e. places_differ w w.read k (count_of w + i) (omega arith) (omega (arith, a.room)) (e ∙ write_after w v i)) ∙
      sym (get_or-append (pending w ring) bytes 0 k (omega arith) ∙ pending_at w ring k h))
      (λ h.
      let i : ℕ = k - count_of w in
      let q : count_of w + i ≡ k = omega arith in
      let r : length (pending w ring) + i ≡ k = omega arith in
      ap (λ (x : ℕ). get_or after (place_after w w.read x) 0) (sym q) ∙
      ap (λ (x : ℕ). get_or after x 0) (sym (write_after w v i)) ∙
      fed_at i (omega arith) ∙
      sym (ap (λ (x : ℕ). get_or (pending w ring ++ bytes) x 0) (sym r) ∙ get_or-append-add (pending w ring) bytes i 0))
      (cases_lt k (count_of w)))

-- bytes that find room are accepted
pub fits_accepted : (f : Fifo) (ring bytes : List ℕ) → Fits f (length ring) (length bytes) → accepted f ring bytes ≡ true
unfolding accepted feed_refusal
fits_accepted f ring bytes a =
    rw (true_ready f (length ring) a.ready, le-leb (length bytes) (room_of f.window) (omega (arith, a.room)))

-- a feed, accepted or refused, appends what it accepts, and leaves a ring that obeys the rules
module _ (f : Fifo) (ring bytes : List ℕ) where
  pub pending_after : pending (fifo_after f ring bytes).window (ring_after f ring bytes)
      ≡ pending f.window ring ++ bytes_accepted f ring bytes
  unfolding fifo_after ring_after bytes_accepted
  pending_after =
      ⊎_elim
      (λ t. rw t (pending_fed f ring bytes (accepted_fits f ring bytes t)))
      (λ t. rw t (sym (append-nil (pending f.window ring))))
      (cases_Bool (accepted f ring bytes))

  -- "bytes accepted .. equals the change in count"
  pub count_after : count_of (fifo_after f ring bytes).window ≡ count_of f.window + length (bytes_accepted f ring bytes)
  count_after =
      sym (length_pending (fifo_after f ring bytes).window (ring_after f ring bytes)) ∙
      ap length pending_after ∙
      length-append (pending f.window ring) (bytes_accepted f ring bytes) ∙
      ap (λ (n : ℕ). n + length (bytes_accepted f ring bytes)) (length_pending f.window ring)

  pub ready_after : Ready f (length ring) → Ready (fifo_after f ring bytes) (length (ring_after f ring bytes))
  unfolding fifo_after ring_after
  ready_after r =
      ⊎_elim
      (λ t.
      let e : length (fed f.window ring bytes) ≡ length ring = length_fed f ring bytes (accepted_fits f ring bytes t) in
      rw t (subst (λ (m : ℕ). Ready (accept f (length bytes)) m) (sym e) (ready_accept f (length ring) r (length bytes))))
      (λ t. rw t r)
      (cases_Bool (accepted f ring bytes))

-- ---- the three answers

pub refused_unready : (f : Fifo) (ring n : ℕ) → ready_by f ring ≡ false → feed_refusal f ring n ≡ 1
unfolding feed_refusal
refused_unready f ring n e = rw e

pub refused_long : (f : Fifo) (ring n : ℕ) → Ready f ring → room_of f.window < n → feed_refusal f ring n ≡ 11
unfolding feed_refusal
refused_long f ring n r h = rw (true_ready f ring r, lt-leb n (room_of f.window) h)

pub refused_none : (f : Fifo) (ring bytes : List ℕ) → Fits f (length ring) (length bytes) → feed_refusal f (length ring) (length bytes) ≡ 0
unfolding accepted
refused_none f ring bytes a = eqb-true (feed_refusal f (length ring) (length bytes)) 0 (fits_accepted f ring bytes a)

-- ---- the three outcomes of the code

-- "The refused call .. changes nothing"
pub refused_left : (f : Fifo) (ring bytes : List ℕ) → accepted f ring bytes ≡ false
    → (fifo_after f ring bytes ≡ f) × (ring_after f ring bytes ≡ ring)
unfolding fifo_after ring_after
refused_left f ring bytes t = (rw t, rw t)

-- a refused feed gives back what it was handed
refused_keeps : (f : Fifo) (ring bytes : List ℕ) (r : Reason)
    → feed_refusal f (length ring) (length bytes) ≡ number r → accepted f ring bytes ≡ false
    → FedBy f ring bytes (Err r) f ring
refused_keeps f ring bytes r e t =
    let l = refused_left f ring bytes t in
    record { answer_is = ap (λ (n : ℕ). n ∷ []) (sym e); fifo_is = sym l.0; ring_is = sym l.1 }

pub feed_unready : (f : Fifo) (ring bytes : List ℕ) → ready_by f (length ring) ≡ false
    → FedBy f ring bytes (Err InvalidState) f ring
unfolding accepted
feed_unready f ring bytes e =
    let z : feed_refusal f (length ring) (length bytes) ≡ 1 = refused_unready f (length ring) (length bytes) e in
    refused_keeps f ring bytes InvalidState z (rw z)

pub feed_long : (f : Fifo) (ring bytes : List ℕ) → Ready f (length ring) → room_of f.window < length bytes
    → FedBy f ring bytes (Err FeedTooLong) f ring
unfolding accepted
feed_long f ring bytes r h =
    let z : feed_refusal f (length ring) (length bytes) ≡ 11 = refused_long f (length ring) (length bytes) r h in
    refused_keeps f ring bytes FeedTooLong z (rw z)

pub feed_fits : (f : Fifo) (ring bytes : List ℕ) → Fits f (length ring) (length bytes) → (g : Fifo) (after : List ℕ)
    → g ≡ accept f (length bytes) → after ≡ fed f.window ring bytes → FedBy f ring bytes (Ok tt) g after
unfolding fifo_after ring_after
feed_fits f ring bytes a g after p q =
    let t : accepted f ring bytes ≡ true = fits_accepted f ring bytes a in
    record { answer_is = ap (λ (n : ℕ). n ∷ []) (sym (refused_none f ring bytes a)); fifo_is = rw t p; ring_is = rw t q }
