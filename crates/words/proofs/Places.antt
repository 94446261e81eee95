-- The fifo's words one by one, and with some of them stored.
use mathlib.Core.Path.{◌≡◌, sym, ap, ◌∙◌}
use mathlib.Core.List.{List, ◌++◌}
use Prim.Native.Nat.{ℕ}
use native.Mathlib.Omega.{arith}
use lib.ListN.{length, set, drop, take-append-drop}
use Rattle.laws.specs.Values.{up_to}
use Rattle.laws.proofs.Filled.{firsts}
use Rattle.fifo.specs.declared.Window.{Window}
use Rattle.queue.specs.Feeding.{put}
use Rattle.fifo.specs.Window.{with_window, with_write, with_control}
use Rattle.words.specs.State.{fifo_of, window_of, fifo_words, window_words, fifo_stored}

module _ (l : List ℕ) (long : length l ≡ 327) where
  -- the fifo's words, and the rest
  pub front : fifo_words (fifo_of l) ++ drop 7 l ≡ l
  unfolding up_to fifo_of
  front = ap (λ (x : List ℕ). x ++ drop 7 l) (sym (firsts 7 l (omega arith))) ∙ take-append-drop 7 l

  -- the fifo that the words say, stored, leaves them as they are
  pub fifo_kept : l ≡ fifo_stored l (fifo_of l)
  unfolding fifo_stored
  fifo_kept = sym front

  -- the write pointer stored, the control word stored, a whole window stored
  pub set_write : (x : ℕ) → set l 4 x ≡ fifo_stored l (with_window (fifo_of l) (with_write (window_of l) x))
  unfolding fifo_stored fifo_of
  set_write x = ap (λ (y : List ℕ). set y 4 x) (sym front)

  pub set_control : (x : ℕ) → set l 6 x ≡ fifo_stored l (with_control (fifo_of l) x)
  unfolding fifo_stored fifo_of
  set_control x = ap (λ (y : List ℕ). set y 6 x) (sym front)

  pub put_window : (w : Window) → put l 0 (window_words w) ≡ fifo_stored l (with_window (fifo_of l) w)
  unfolding fifo_stored fifo_of
  put_window w = ap (λ (y : List ℕ). put y 0 (window_words w)) (sym front)
