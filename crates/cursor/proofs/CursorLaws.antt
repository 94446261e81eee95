-- The cursor's bytes: those of a straight stretch lie side by side, and those of a ready fifo are its queue.
use Prim.Native.Nat.{ℕ, ◌+◌, ◌-◌, ◌%◌, ◌≤◌, ◌<◌}
use mathlib.Core.Path.{◌≡◌, refl, sym, ap, ◌∙◌}
use mathlib.Core.Logic.{⊎_elim}
use mathlib.Core.Bool.{Bool, true, false, cond}
use mathlib.Core.List.{List, ◌++◌}
use native.Mathlib.Nat.{add-sub_cancel_left, min-eq_left}
use native.Mathlib.Omega.{arith}
use lib.Dec.{leb, ltb}
use lib.ListN.{length, get_or, take, drop, length-drop}
use lib.Seq.{ext_get_or, length-take-le, get_or-take, get_or-drop}
use borrow.Author.Tests.{leb-true, ltb-true, ltb-false, lt-ltb, le-ltb}
use Rattle.std.proofs.lemmas.Bool.{and_parts}
use Rattle.laws.specs.Values.{up_to}
use Rattle.laws.proofs.Remainder.{mod_two}
use Rattle.laws.proofs.Filled.{length_up_to, get_d_up_to}
use Rattle.laws.proofs.Front.{up_to_ext}
use Rattle.fifo.specs.declared.Window.{Window}
use Rattle.fifo.specs.declared.Fifo.{Fifo}
use Rattle.cursor.specs.declared.Cursor.{Cursor}
use Rattle.fifo.specs.Window.{size_of, Ready, count_of, gap_of, consume, place_after}
use Rattle.queue.specs.Pending.{pending}
use Rattle.cursor.specs.Cursor.{opened, onward, byte_of, peeked, copied, skipped, straight_by, closed, ReadsPending}
use Rattle.fifo.proofs.WindowLaws.{gap_count, count_below}
use Rattle.queue.proofs.Moves.{place_below, consume_valid, count_consume}
use Rattle.queue.proofs.Pending.{length_pending, pending_at, pending_past, pending_consume}

-- ---- any cursor

pub record Straight (c : Cursor) (n : ℕ) : Type 0 where
  pub there : n ≤ c.left
  pub within : n ≤ c.size - c.at

pub straight_true : (c : Cursor) (n : ℕ) → straight_by c n ≡ true → Straight c n
unfolding straight_by
straight_true c n e =
    record {
      there = leb-true _ _ (and_parts (leb n c.left) (leb n (c.size - c.at)) e).0;
      within = leb-true _ _ (and_parts (leb n c.left) (leb n (c.size - c.at)) e).1;
    }

pub straight_byte : (c : Cursor) (ring : List ℕ) {n : ℕ} → Straight c n → (k : ℕ) → k < n → byte_of c ring k ≡ get_or ring (c.at + k) 0
unfolding byte_of onward
straight_byte c ring s k h = rw (lt-ltb k c.left (omega arith), lt-ltb k (c.size - c.at) (omega arith))

-- the bytes of a straight stretch lie side by side
pub straight_bytes : (c : Cursor) (ring : List ℕ) (n : ℕ) → Straight c n → c.at + n ≤ length ring
    → take n (drop c.at ring) ≡ up_to (byte_of c ring) n
straight_bytes c ring n s h =
    let l : length (take n (drop c.at ring)) ≡ n = length-take-le n (drop c.at ring) (omega (arith, length-drop c.at ring)) in
    ext_get_or 0 (take n (drop c.at ring)) (up_to (byte_of c ring) n) (l ∙ sym (length_up_to (byte_of c ring) n))
    (λ k b.
    let b' : k < n = omega arith in
    get_or-take n (drop c.at ring) k 0 b' ∙
    get_or-drop c.at ring k 0 ∙
    sym (get_d_up_to (byte_of c ring) n k b' ∙ straight_byte c ring s k b'))

-- ---- the cursor of a ready fifo

-- the place that the code finds by comparing is the one that wraps
pub onward_wraps : (at n size : ℕ) → at < size → n ≤ size → onward at n size ≡ (at + n) % size
unfolding onward
onward_wraps at n size h l =
    ⊎_elim
    (λ m. rw (lt-ltb n (size - at) (omega (arith, m))) (sym m.1))
    (λ m. rw (le-ltb n (size - at) (omega (arith, m))) (omega (arith, m)))
    (mod_two (at + n) size (omega arith))

module _ (f : Fifo) (ring : List ℕ) (r : Ready f (length ring)) where
  left_is : (opened f).left ≡ count_of f.window
  unfolding opened
  left_is = gap_count f.window r.valid

  byte_by : (k : ℕ) (t : Bool) → ltb k (count_of f.window) ≡ t
      → cond t (get_or ring (onward (f.window.read - f.window.start) k (size_of f.window)) 0) 0 ≡ get_or (pending f.window ring) k 0
  byte_by k true e =
      let v = r.valid in
      let h : k < count_of f.window = ltb-true _ _ e in
      let b = count_below f.window v in
      ap (λ (x : ℕ). get_or ring x 0)
      (onward_wraps (f.window.read - f.window.start) k (size_of f.window) (omega arith) (omega arith)) ∙
      sym (pending_at f.window ring k h)
  byte_by k false e = sym (pending_past f.window ring k (ltb-false _ _ e))

  byte_is : (k : ℕ) → byte_of (opened f) ring k ≡ get_or (pending f.window ring) k 0
  unfolding byte_of opened
  byte_is k =
      ap
      (λ (l : ℕ). cond (ltb k l) (get_or ring (onward (f.window.read - f.window.start) k (size_of f.window)) 0) 0)
      (gap_count f.window r.valid) ∙
      byte_by k (ltb k (count_of f.window)) refl

  bytes_are : (n : ℕ) → n ≤ count_of f.window → up_to (byte_of (opened f) ring) n ≡ take n (pending f.window ring)
  bytes_are n h =
      let p : List ℕ = pending f.window ring in
      let l : length (take n p) ≡ n = length-take-le n p (omega (arith, length_pending f.window ring)) in
      let t = length_up_to (byte_of (opened f) ring) n in
      ext_get_or 0 (up_to (byte_of (opened f) ring) n) (take n p) (t ∙ sym l)
      (λ k b.
      let b' : k < n = omega arith in
      get_d_up_to (byte_of (opened f) ring) n k b' ∙ byte_is k ∙ sym (get_or-take n p k 0 b'))

  skip_is : (n : ℕ) → n ≤ count_of f.window → skipped (opened f) n ≡ opened (consume f n)
  unfolding skipped opened consume
  skip_is n h =
      let w : Window = f.window in
      let v = r.valid in
      let b = count_below w v in
      let p : onward (w.read - w.start) n (size_of w) ≡ w.start + place_after w w.read n - w.start =
      onward_wraps (w.read - w.start) n (size_of w) (omega arith) (omega arith) ∙
      sym (add-sub_cancel_left w.start (place_after w w.read n)) in
      let q : gap_of w - n ≡ gap_of (consume f n).window =
      ap (λ (x : ℕ). x - n) (gap_count w v) ∙
      sym (gap_count (consume f n).window (consume_valid f v n) ∙ count_consume f v n h) in
      λ i. record { at = p i; left = q i; size = size_of w }

  close_is : (n : ℕ) → closed f (opened (consume f n)) ≡ consume f n
  unfolding closed opened consume
  close_is n =
      let w : Window = f.window in
      let e : w.start + place_after w w.read n - w.start ≡ place_after w w.read n =
      add-sub_cancel_left w.start (place_after w w.read n) in
      rw (e, lt-ltb (place_after w w.read n) (size_of w) (place_below w r.valid w.read n))

  straight_within : (n : ℕ) → straight_by (opened f) n ≡ true → (opened f).at + n ≤ length ring
  unfolding opened
  straight_within n e =
      let s = straight_true (opened f) n e in
      let v = r.valid in
      omega (arith, r.whole, s.within)

  straight_is : (n : ℕ) → straight_by (opened f) n ≡ true → take n (pending f.window ring) ≡ take n (drop (opened f).at ring)
  straight_is n e =
      let s = straight_true (opened f) n e in
      sym (straight_bytes (opened f) ring n s (straight_within n e) ∙ bytes_are n (omega (arith, s.there, left_is)))

  peek_is : peeked (opened f) ring ≡ up_to (λ k. get_or (pending f.window ring) k 0) 9
  unfolding peeked
  peek_is = up_to_ext (byte_of (opened f) ring) (λ k. get_or (pending f.window ring) k 0) 9 (λ k h. byte_is k)

  copy_is : (out : List ℕ) (n : ℕ) → n ≤ count_of f.window → n ≤ length out
      → copied (opened f) ring out n ≡ take n (pending f.window ring) ++ drop n out
  unfolding copied
  copy_is out n h l = rw (min-eq_left l) (ap (λ (x : List ℕ). x ++ drop n out) (bytes_are n h))

  -- the bridge between the cursor and the queue
  pub reads_pending : ReadsPending f ring
  reads_pending =
      record {
        left_is = left_is;
        byte_is = byte_is;
        bytes_are = bytes_are;
        peek_is = peek_is;
        copy_is = copy_is;
        straight_is = straight_is;
        straight_within = straight_within;
        skip_is = skip_is;
        close_is = close_is;
        drop_is = λ n h. pending_consume f r.valid n h ring;
      }
