-- The queue: its length is the count, and consuming drops from its front.
use Prim.Native.Nat.{ℕ, ◌+◌, ◌-◌, ◌%◌, ◌≤◌, ◌<◌}
use mathlib.Core.Path.{◌≡◌, sym, ap, subst, ◌∙◌}
use mathlib.Core.Logic.{⊎_elim}
use mathlib.Core.List.{List}
use native.Mathlib.Nat.{mod-add-mod, add-sub_cancel_left}
use native.Mathlib.Omega.{arith}
use lib.ListN.{length, get_or, drop, length-drop, get_or-eq_default}
use lib.Seq.{ext_get_or, get_or-drop}
use Rattle.std.proofs.lemmas.Bool.{cases_lt}
use Rattle.laws.proofs.Filled.{length_up_to, get_d_up_to}
use Rattle.fifo.specs.declared.Window.{Window}
use Rattle.fifo.specs.declared.Fifo.{Fifo}
use Rattle.fifo.specs.Window.{size_of, Valid, count_of, consume, place_after}
use Rattle.queue.specs.Pending.{pending}
use Rattle.queue.proofs.Moves.{count_consume}

pub length_pending : (w : Window) (ring : List ℕ) → length (pending w ring) ≡ count_of w
unfolding pending
length_pending w ring = length_up_to (λ k. get_or ring (place_after w w.read k) 0) (count_of w)

-- the pending byte at k, and past the last
pub pending_at : (w : Window) (ring : List ℕ) (k : ℕ) → k < count_of w
    → get_or (pending w ring) k 0 ≡ get_or ring (place_after w w.read k) 0
unfolding pending
pending_at w ring k h = get_d_up_to (λ i. get_or ring (place_after w w.read i) 0) (count_of w) k h

pub pending_past : (w : Window) (ring : List ℕ) (k : ℕ) → count_of w ≤ k → get_or (pending w ring) k 0 ≡ 0
pending_past w ring k h = get_or-eq_default (pending w ring) 0 (omega (arith, length_pending w ring))

-- a place after the read pointer has moved
read_after : (f : Fifo) (n k : ℕ)
    → place_after (consume f n).window (consume f n).window.read k ≡ place_after f.window f.window.read (n + k)
unfolding consume
read_after f n k =
    let w : Window = f.window in
    let a : w.read - w.start + n + k ≡ w.read - w.start + (n + k) = omega arith in
    ap (λ (x : ℕ). (x + k) % size_of w) (add-sub_cancel_left w.start (place_after w w.read n)) ∙
    mod-add-mod (w.read - w.start + n) (size_of w) k ∙
    ap (λ (x : ℕ). x % size_of w) a

-- consuming n bytes drops them from the front
pub pending_consume : (f : Fifo) → Valid f.window → (n : ℕ) → n ≤ count_of f.window → (ring : List ℕ)
    → pending (consume f n).window ring ≡ drop n (pending f.window ring)
pending_consume f v n h ring =
    let w : Window = f.window in
    let w' : Window = (consume f n).window in
    let c : count_of w' ≡ count_of w - n = count_consume f v n h in
    let l : length (pending w' ring) ≡ count_of w' = length_pending w' ring in
    let d : length (drop n (pending w ring)) ≡ count_of w - n =
    length-drop n (pending w ring) ∙ ap (λ (x : ℕ). x - n) (length_pending w ring) in
    ext_get_or 0 (pending w' ring) (drop n (pending w ring)) (l ∙ c ∙ sym d)
    (λ k b.
    pending_at w' ring k (omega arith) ∙
    ap (λ (x : ℕ). get_or ring x 0) (read_after f n k) ∙
    sym (get_or-drop n (pending w ring) k 0 ∙ pending_at w ring (n + k) (omega arith)))

-- what holds of 0 and of every place of the ring, as that it is a byte, holds of every pending one
pub pending_each : (P : ℕ → Type 0) (w : Window) (ring : List ℕ) → P 0 → ((j : ℕ) → P (get_or ring j 0)) → (k : ℕ)
    → P (get_or (pending w ring) k 0)
pending_each P w ring z each k =
    ⊎_elim
    (λ h. subst P (sym (pending_at w ring k h)) (each (place_after w w.read k)))
    (λ h. subst P (sym (pending_past w ring k h)) z)
    (cases_lt k (count_of w))
