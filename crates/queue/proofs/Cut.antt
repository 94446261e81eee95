-- Two feeds that both find room leave what one feed of both leaves.
use Prim.Native.Nat.{ℕ, ◌+◌, ◌-◌, ◌%◌, ◌≤◌, ◌<◌}
use mathlib.Core.Path.{◌≡◌, sym, ap, subst, ◌∙◌}
use mathlib.Core.Logic.{◌⊎◌, inl, inr, ⊎_elim}
use mathlib.Core.List.{List, ◌++◌}
use native.Mathlib.Nat.{mod-eq_of_lt}
use native.Mathlib.Omega.{arith}
use lib.ListN.{length, get_or, length-append, get_or-append}
use lib.Seq.{ext_get_or, get_or-append-add}
use Rattle.std.proofs.lemmas.Bool.{cases_lt}
use Rattle.laws.proofs.Remainder.{mod_once}
use Rattle.fifo.specs.declared.Window.{Window}
use Rattle.fifo.specs.declared.Fifo.{Fifo}
use Rattle.fifo.specs.Window.{size_of, Ready, count_of, accept, place_after}
use Rattle.queue.specs.Feeding.{fed}
use Rattle.queue.proofs.Moves.{ready_accept, count_accept, places_differ, accept_place}
use Rattle.queue.proofs.FeedLaws.{Fits, length_fed, fed_at, fed_other, fed_past}

-- ---- how many places past the write pointer a place of the ring is, going round

record Reached (at size j : ℕ) : Type 0 where
  steps : ℕ
  below : steps < size
  place : j ≡ (at + steps) % size

reach : (at size j : ℕ) → at < size → j < size → Reached at size j
reach at size j a h =
    ⊎_elim
    (λ l.
    let e : at + (j + size - at) ≡ j + size = omega arith in
    record { steps = j + size - at; below = omega arith; place = sym (ap (λ (x : ℕ). x % size) e ∙ mod_once h) })
    (λ l.
    let e : at + (j - at) ≡ j = omega arith in
    record { steps = j - at; below = omega arith; place = sym (ap (λ (x : ℕ). x % size) e ∙ mod-eq_of_lt h) })
    (cases_lt j at)

-- ---- two feeds that both find room

module _ (f : Fifo) (ring a b : List ℕ) (fit : Fits f (length ring) (length a + length b)) where
  abbrev w : Window
  w = f.window

  abbrev g : Fifo
  g = accept f (length a)

  pub fit_a : Fits f (length ring) (length a)
  fit_a = record { ready = fit.ready; room = omega (arith, fit.room) }

  pub fit_b : Fits g (length (fed w ring a)) (length b)
  unfolding accept
  fit_b =
      let c : count_of (accept f (length a)).window ≡ count_of f.window + length a =
      count_accept f fit.ready.valid (length a) fit_a.room in
      record {
        ready =
            subst (λ (m : ℕ). Ready (accept f (length a)) m) (sym (length_fed f ring a fit_a))
            (ready_accept f (length ring) fit.ready (length a));
        room = omega (arith, c, fit.room);
      }

  pub fit_both : Fits f (length ring) (length (a ++ b))
  fit_both = subst (λ (n : ℕ). Fits f (length ring) n) (sym (length-append a b)) fit

  length_cut : length (fed g.window (fed w ring a) b) ≡ length ring
  length_cut = length_fed g (fed w ring a) b fit_b ∙ length_fed f ring a fit_a

  -- byte k of b goes where byte length a + k would go from the write pointer before both feeds
  place_b : (k : ℕ) → place_after g.window g.window.write k ≡ place_after w w.write (length a + k)
  place_b k = accept_place f (length a) k

  -- a place that is none of b's keeps what the first feed left
  kept : (i : ℕ) → i < size_of w → (i < length a) ⊎ (length a + length b ≤ i)
      → get_or (fed g.window (fed w ring a) b) (place_after w w.write i) 0 ≡ get_or (fed w ring a) (place_after w w.write i) 0
  kept i h o =
      fed_other g (fed w ring a) b fit_b (place_after w w.write i)
      (λ k l e.
      ⊎_elim
      (λ m. places_differ w w.write i (length a + k) (omega arith) (omega (arith, fit.room)) (e ∙ place_b k))
      (λ m. places_differ w w.write (length a + k) i (omega arith) (omega arith) (sym (e ∙ place_b k)))
      o)

  cut_at : (i : ℕ) → i < size_of w
      → get_or (fed g.window (fed w ring a) b) (place_after w w.write i) 0 ≡ get_or (fed w ring (a ++ b)) (place_after w w.write i) 0
  cut_at i h =
      let n : length (a ++ b) ≡ length a + length b = length-append a b in
      ⊎_elim
      (λ l.
      kept i h (inl l) ∙
      fed_at f ring a fit_a i l ∙
      sym (fed_at f ring (a ++ b) fit_both i (omega arith) ∙ get_or-append a b 0 i l))
      (λ l.
      ⊎_elim
      (λ m.
      let k : ℕ = i - length a in
      let q : length a + k ≡ i = omega arith in
      ap (λ (x : ℕ). get_or (fed g.window (fed w ring a) b) x 0)
      (ap (λ (x : ℕ). place_after w w.write x) (sym q) ∙ sym (place_b k)) ∙
      fed_at g (fed w ring a) b fit_b k (omega arith) ∙
      sym (get_or-append-add a b k 0) ∙
      ap (λ (x : ℕ). get_or (a ++ b) x 0) q ∙
      sym (fed_at f ring (a ++ b) fit_both i (omega arith)))
      (λ m.
      kept i h (inr m) ∙
      fed_past f ring a fit_a i h (omega arith) ∙
      sym (fed_past f ring (a ++ b) fit_both i h (omega arith)))
      (cases_lt i (length a + length b)))
      (cases_lt i (length a))

  pub fed_cut : fed (accept f (length a)).window (fed f.window ring a) b ≡ fed f.window ring (a ++ b)
  fed_cut =
      let v = fit.ready.valid in
      ext_get_or 0 _ _ (length_cut ∙ sym (length_fed f ring (a ++ b) fit_both))
      (λ j l.
      let r : Reached (f.window.write - f.window.start) (size_of f.window) j =
      reach (f.window.write - f.window.start) (size_of f.window) j (omega arith) (omega (arith, l, length_cut, fit.ready.whole)) in
      ap (λ (x : ℕ). get_or (fed (accept f (length a)).window (fed f.window ring a) b) x 0) r.place ∙
      cut_at r.steps r.below ∙
      ap (λ (x : ℕ). get_or (fed f.window ring (a ++ b)) x 0) (sym r.place))
