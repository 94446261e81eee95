-- The pointers that move: a window stays valid, and the count changes by the bytes accepted or consumed.
use Prim.Native.Nat.{ℕ, ◌+◌, ◌-◌, ◌%◌, ◌≤◌, ◌<◌}
use mathlib.Core.Path.{◌≡◌, sym, ap, ◌∙◌}
use mathlib.Core.Logic.{◌⊎◌, inl, inr, ⊎_elim}
use native.Mathlib.Nat.{mod-lt, mod-eq_of_lt, mod-add-mod, add-mod_right, add-sub_cancel_left, add-zero}
use native.Mathlib.Omega.{arith}
use Rattle.laws.proofs.Remainder.{mod_two, mod_distinct}
use Rattle.fifo.specs.declared.Window.{Window}
use Rattle.fifo.specs.declared.Fifo.{Fifo}
use Rattle.fifo.specs.Window.{Ready, with_read, size_of, Valid, count_of, with_window, with_write, accept, consume, place_after}
use Rattle.fifo.proofs.WindowLaws.{count_cases, count_below}

pub place_below : (w : Window) → Valid w → (p n : ℕ) → place_after w p n < size_of w
place_below w v p n = mod-lt (p - w.start + n) (omega arith)

-- where a pointer comes to stand after at most a whole turn
pub place_cases : (w : Window) → Valid w → (p n : ℕ) → w.start ≤ p → p < w.end → n ≤ size_of w
    → (w.start + place_after w p n ≡ p + n) ⊎ (w.start + place_after w p n + size_of w ≡ p + n)
place_cases w v p n l h m =
    ⊎_elim (λ k. inl (omega (arith, k))) (λ k. inr (omega (arith, k))) (mod_two (p - w.start + n) (size_of w) (omega arith))

-- the write pointer is the count past the read pointer
pub write_after : (w : Window) → Valid w → (n : ℕ) → place_after w w.write n ≡ place_after w w.read (count_of w + n)
write_after w v n =
    ⊎_elim
    (λ k.
    let e : w.write - w.start + n ≡ w.read - w.start + (count_of w + n) = omega (arith, k) in
    ap (λ (x : ℕ). x % size_of w) e)
    (λ k.
    let e : w.read - w.start + (count_of w + n) ≡ w.write - w.start + n + size_of w = omega (arith, k) in
    sym (ap (λ (x : ℕ). x % size_of w) e ∙ add-mod_right (w.write - w.start + n) (size_of w)))
    (count_cases w v)

-- the count is the one number below the size that leads from the read pointer to the write pointer
count_is : (w : Window) → Valid w → (c : ℕ) → c < size_of w → (c + w.read ≡ w.write) ⊎ (c + w.read ≡ w.write + size_of w) → count_of w ≡ c
count_is w v c h =
    let b = count_below w v in
    ⊎_elim
    (λ k. ⊎_elim (λ m. omega (arith, k, m)) (λ m. omega (arith, k, m)) (count_cases w v))
    (λ k. ⊎_elim (λ m. omega (arith, k, m)) (λ m. omega (arith, k, m)) (count_cases w v))

module _ (f : Fifo) (v : Valid f.window) (n : ℕ) where
  pub accept_valid : Valid (accept f n).window
  unfolding accept
  accept_valid = let b = place_below f.window v f.window.write n in omega arith

  pub consume_valid : Valid (consume f n).window
  unfolding consume
  consume_valid = let b = place_below f.window v f.window.read n in omega arith

  pub count_accept : count_of f.window + n < size_of f.window → count_of (accept f n).window ≡ count_of f.window + n
  unfolding accept
  count_accept h =
      let w : Window = f.window in
      let moved = place_cases w v w.write n (omega arith) (omega arith) (omega arith) in
      count_is (accept f n).window accept_valid (count_of w + n) h
      (⊎_elim
      (λ k. ⊎_elim (λ m. inl (omega (arith, k, m))) (λ m. inr (omega (arith, k, m))) moved)
      (λ k. ⊎_elim (λ m. inr (omega (arith, k, m))) (λ m. absurd (omega (arith, k, m))) moved)
      (count_cases w v))

  pub count_consume : n ≤ count_of f.window → count_of (consume f n).window ≡ count_of f.window - n
  unfolding consume
  count_consume h =
      let w : Window = f.window in
      let b = count_below w v in
      let moved = place_cases w v w.read n (omega arith) (omega arith) (omega arith) in
      count_is (consume f n).window consume_valid (count_of w - n) (omega arith)
      (⊎_elim
      (λ k. ⊎_elim (λ m. inl (omega (arith, k, m))) (λ m. absurd (omega (arith, k, m))) moved)
      (λ k. ⊎_elim (λ m. inr (omega (arith, k, m))) (λ m. inl (omega (arith, k, m))) moved)
      (count_cases w v))

-- the write pointer in the two cases that the code tells apart
accept_to : (f : Fifo) (n p : ℕ) → f.window.start + place_after f.window f.window.write n ≡ p
    → with_window f (with_write f.window p) ≡ accept f n
unfolding accept
accept_to f n p e = ap (λ (x : ℕ). with_window f (with_write f.window x)) (sym e)

pub accept_straight : (f : Fifo) → Valid f.window → (n : ℕ) → n < f.window.end - f.window.write
    → with_window f (with_write f.window (f.window.write + n)) ≡ accept f n
accept_straight f v n h =
    let w : Window = f.window in
    let b = place_below w v w.write n in
    accept_to f n (w.write + n)
    (⊎_elim (λ m. m) (λ m. omega (arith, m)) (place_cases w v w.write n (omega arith) (omega arith) (omega arith)))

pub accept_round : (f : Fifo) → Valid f.window → (n : ℕ) → f.window.end - f.window.write ≤ n → n < size_of f.window
    → with_window f (with_write f.window (f.window.start + (n - (f.window.end - f.window.write)))) ≡ accept f n
accept_round f v n h l =
    let w : Window = f.window in
    let b = place_below w v w.write n in
    accept_to f n (w.start + (n - (w.end - w.write)))
    (⊎_elim (λ m. omega (arith, m)) (λ m. omega (arith, m)) (place_cases w v w.write n (omega arith) (omega arith) (omega arith)))

-- a ready fifo stays ready
pub ready_consume : (f : Fifo) (m : ℕ) → Ready f m → (n : ℕ) → Ready (consume f n) m
unfolding consume
ready_consume f m r n = record { valid = consume_valid f r.valid n; whole = r.whole }

pub ready_accept : (f : Fifo) (m : ℕ) → Ready f m → (n : ℕ) → Ready (accept f n) m
unfolding accept
ready_accept f m r n = record { valid = accept_valid f r.valid n; whole = r.whole }

-- ---- moves in a row

-- a pointer that moves by nothing stays
after_none : (w : Window) (p : ℕ) → w.start ≤ p → p < w.end → w.start + place_after w p 0 ≡ p
after_none w p l h =
    ap (λ (x : ℕ). w.start + x % size_of w) (add-zero (p - w.start)) ∙
    ap (λ (x : ℕ). w.start + x) (mod-eq_of_lt (omega arith)) ∙
    omega arith

-- two moves of a pointer are one
after_after : (w : Window) (p a b : ℕ) → place_after w (w.start + place_after w p a) b ≡ place_after w p (a + b)
after_after w p a b =
    let q : p - w.start + a + b ≡ p - w.start + (a + b) = omega arith in
    ap (λ (x : ℕ). (x + b) % size_of w) (add-sub_cancel_left w.start (place_after w p a)) ∙
    mod-add-mod (p - w.start + a) (size_of w) b ∙
    ap (λ (x : ℕ). x % size_of w) q

-- moves less than a turn apart lead to different places
pub places_differ : (w : Window) (p m n : ℕ) → m < n → n < m + size_of w → place_after w p m ≡ place_after w p n → ⊥
places_differ w p m n l h e =
    let q : p - w.start + n ≡ p - w.start + m + (n - m) = omega arith in
    mod_distinct (p - w.start + m) (n - m) (size_of w) (omega arith) (omega arith) (e ∙ ap (λ (x : ℕ). x % size_of w) q)

-- consuming or accepting nothing changes nothing
pub consume_none : (f : Fifo) → Valid f.window → consume f 0 ≡ f
unfolding consume
consume_none f v =
    ap (λ (x : ℕ). with_window f (with_read f.window x)) (after_none f.window f.window.read (omega arith) (omega arith))

pub accept_none : (f : Fifo) → Valid f.window → accept f 0 ≡ f
unfolding accept
accept_none f v =
    ap (λ (x : ℕ). with_window f (with_write f.window x)) (after_none f.window f.window.write (omega arith) (omega arith))

-- two moves of one pointer are one
pub consume_consume : (f : Fifo) (a b : ℕ) → consume (consume f a) b ≡ consume f (a + b)
unfolding consume
consume_consume f a b =
    ap (λ (x : ℕ). with_window f (with_read f.window (f.window.start + x))) (after_after f.window f.window.read a b)

pub accept_accept : (f : Fifo) (a b : ℕ) → accept (accept f a) b ≡ accept f (a + b)
unfolding accept
accept_accept f a b =
    ap (λ (x : ℕ). with_window f (with_write f.window (f.window.start + x))) (after_after f.window f.window.write a b)

-- the place of a later byte, from the write pointer as it was
pub accept_place : (f : Fifo) (a b : ℕ)
    → place_after (accept f a).window (accept f a).window.write b ≡ place_after f.window f.window.write (a + b)
unfolding accept
accept_place f a b = after_after f.window f.window.write a b
