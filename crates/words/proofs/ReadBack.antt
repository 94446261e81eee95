-- Reading the words of a state gives the state back.
use mathlib.Core.Path.{◌≡◌, refl, ap, ◌∙◌}
use mathlib.Core.List.{List}
use Prim.Native.Nat.{ℕ, ◌^◌}
use native.Mathlib.Nat.{le_of_eq}
use lib.ListN.{length, take}
use lib.Seq.{take_at, drop_at, take_all}
use borrow.Author.Tests.{lt-ltb}
use Rattle.command.specs.declared.Draw.{Draw}
use Rattle.command.specs.declared.Draw.TheVariants.{Closed, Open}
use Rattle.fifo.specs.declared.Fifo.{Fifo}
use Rattle.machine.specs.State.{State}
use Rattle.words.specs.State.{fifo_of, draw_of, cp_of, bp_of, state_at, words_by, state_words, HoldsDraw, Holds}

module _ (f : Fifo) (cp bp : List ℕ) where
  words : Draw → List ℕ
  words draw = words_by f cp bp draw

  fifo_back : (draw : Draw) → fifo_of (words draw) ≡ f
  unfolding words words_by fifo_of
  fifo_back draw = refl

  draw_back : (draw : Draw) → HoldsDraw draw → draw_of (words draw) ≡ draw
  unfolding words words_by draw_of
  draw_back Closed h = refl
  draw_back (Open primitive format left) h = rw (lt-ltb left (2 ^ 16) h)

  cp_back : (draw : Draw) → length cp ≡ 60 → cp_of (words draw) ≡ cp
  unfolding words words_by cp_of
  cp_back Closed h = take_at cp bp 60 h
  cp_back (Open primitive format left) h = take_at cp bp 60 h

  bp_back : (draw : Draw) → length cp ≡ 60 → length bp ≡ 256 → bp_of (words draw) ≡ bp
  unfolding words words_by bp_of
  bp_back Closed h k = ap (λ (x : List ℕ). take 256 x) (drop_at cp bp 60 h) ∙ take_all 256 bp (le_of_eq k)
  bp_back (Open primitive format left) h k = ap (λ (x : List ℕ). take 256 x) (drop_at cp bp 60 h) ∙ take_all 256 bp (le_of_eq k)

pub read_back : (s : State) → Holds s → state_at (state_words s) s.xf s.buffer ≡ s
unfolding words
read_back s h = λ i. record {
  fifo = fifo_back s.fifo s.cp s.bp s.draw i;
  cp = cp_back s.fifo s.cp s.bp s.draw h.cp_length i;
  bp = bp_back s.fifo s.cp s.bp s.draw h.cp_length h.bp_length i;
  draw = draw_back s.fifo s.cp s.bp s.draw h.of_draw i;
  xf = s.xf;
  buffer = s.buffer;
}
