-- The words of a state, stored piece by piece: those of the fifo, of the draw, the CP registers, the BP registers.
use mathlib.Core.Path.{◌≡◌, refl, sym, ap, ◌∙◌}
use mathlib.Core.List.{List, [], ◌∷◌, ◌++◌, append_assoc, append-nil}
use Prim.Native.Nat.{ℕ, ◌+◌}
use native.Mathlib.Omega.{arith}
use lib.ListN.{length, take, drop, length-append, length-drop, take-append-drop}
use lib.Seq.{drop-drop, length-take-le, take_at, drop_at, take_all}
use types.Run.{OneOf, miss}
use denote.Enum.Declared.{tag_of}
use Rattle.command.specs.contracts.Command as Commands
use Rattle.command.specs.declared.Command.{Command}
use Rattle.command.specs.declared.Command.TheVariants.{NoOperation, InvalidateCache, Metrics, LoadCp, LoadXf, LoadIndexed}
use Rattle.command.specs.declared.Command.TheVariants.{CallList, LoadBp, DrawHead, Vertex}
use Rattle.command.specs.Command.{kind_of, numbers_of}
use Rattle.command.specs.declared.Draw.{Draw}
use Rattle.command.specs.declared.Draw.TheVariants.{Closed, Open}
use Rattle.fifo.specs.declared.Fifo.{Fifo}
use Rattle.queue.specs.Feeding.{put}
use Rattle.words.specs.State.{cp_of, bp_of, fifo_words, draw_words, words_by, fifo_stored}
use Rattle.words.specs.Front.{words_after_unit}

-- a part in the middle stored anew
put_middle : (a old new b : List ℕ) (at : ℕ) → length a ≡ at → length old ≡ length new → put (a ++ (old ++ b)) at new ≡ a ++ (new ++ b)
put_middle a old new b at n e =
    let front : take at (a ++ (old ++ b)) ≡ a = take_at a (old ++ b) at n in
    let rest : drop (at + length new) (a ++ (old ++ b)) ≡ b =
    sym (drop-drop (length new) at (a ++ (old ++ b)))
    ∙ ap (λ (x : List ℕ). drop (length new) x) (drop_at a (old ++ b) at n)
    ∙ drop_at old b (length new) e in
    (λ i. (front i ++ new) ++ rest i) ∙ append_assoc a new b

draw_length : (draw : Draw) → length (draw_words draw) ≡ 4
draw_length Closed = refl
draw_length (Open primitive format left) = refl

-- the CP registers stored, the BP registers stored
module _ (f : Fifo) (draw : Draw) where
  ahead : length (fifo_words f ++ draw_words draw) ≡ 11
  ahead = omega (arith, length-append (fifo_words f) (draw_words draw), draw_length draw)

  pub put_cp : (cp cp' bp : List ℕ) → length cp ≡ 60 → length cp' ≡ 60 → put (words_by f cp bp draw) 11 cp' ≡ words_by f cp' bp draw
  unfolding words_by
  put_cp cp cp' bp h k =
      ap (λ (x : List ℕ). put x 11 cp') (sym (append_assoc (fifo_words f) (draw_words draw) (cp ++ bp)))
      ∙ put_middle (fifo_words f ++ draw_words draw) cp cp' bp 11 ahead (h ∙ sym k)
      ∙ append_assoc (fifo_words f) (draw_words draw) (cp' ++ bp)

  pub put_bp : (cp bp bp' : List ℕ) → length cp ≡ 60 → length bp ≡ 256 → length bp' ≡ 256
      → put (words_by f cp bp draw) 71 bp' ≡ words_by f cp bp' draw
  unfolding words_by
  put_bp cp bp bp' h k m =
      let a : List ℕ = (fifo_words f ++ draw_words draw) ++ cp in
      let n : length a ≡ 71 = omega (arith, length-append (fifo_words f ++ draw_words draw) cp, ahead) in
      let whole : (r : List ℕ) → a ++ r ≡ fifo_words f ++ (draw_words draw ++ (cp ++ r)) =
      λ r. append_assoc (fifo_words f ++ draw_words draw) cp r ∙ append_assoc (fifo_words f) (draw_words draw) (cp ++ r) in
      ap (λ (x : List ℕ). put x 71 bp') (sym (ap (λ (x : List ℕ). a ++ x) (append-nil bp) ∙ whole bp))
      ∙ put_middle a bp bp' [] 71 n (k ∙ sym m)
      ∙ ap (λ (x : List ℕ). a ++ x) (append-nil bp')
      ∙ whole bp'

-- the registers among 327 words
module _ (l : List ℕ) (long : length l ≡ 327) where
  pub cp_length : length (cp_of l) ≡ 60
  unfolding cp_of
  cp_length = length-take-le 60 (drop 11 l) (omega (arith, length-drop 11 l))

  pub bp_length : length (bp_of l) ≡ 256
  unfolding bp_of
  bp_length = length-take-le 256 (drop 71 l) (omega (arith, length-drop 71 l))

-- the words of the fifo and of the draw stored: the registers stay
module _ (f : Fifo) (draw : Draw) (l : List ℕ) (long : length l ≡ 327) where
  parts : drop 11 l ≡ cp_of l ++ bp_of l
  unfolding cp_of bp_of
  parts =
      let b : take 256 (drop 71 l) ≡ drop 71 l = take_all 256 (drop 71 l) (omega (arith, length-drop 71 l)) in
      sym (take-append-drop 60 (drop 11 l)) ∙ ap (λ (x : List ℕ). take 60 (drop 11 l) ++ x) (drop-drop 60 11 l ∙ sym b)

  pub front_saved : {drawn once out : List ℕ} → drawn ≡ draw_words draw → once ≡ fifo_stored l f → out ≡ put once 7 drawn
      → out ≡ words_by f (cp_of l) (bp_of l) draw
  unfolding words_by fifo_stored
  front_saved of-drawn e1 e2 =
      let old : drop 7 l ≡ take 4 (drop 7 l) ++ drop 11 l =
      sym (take-append-drop 4 (drop 7 l)) ∙ ap (λ (x : List ℕ). take 4 (drop 7 l) ++ x) (drop-drop 4 7 l) in
      let n : length (take 4 (drop 7 l)) ≡ length (draw_words draw) =
      length-take-le 4 (drop 7 l) (omega (arith, length-drop 7 l)) ∙ sym (draw_length draw) in
      e2
      ∙ (λ i. put ((e1 ∙ ap (λ (x : List ℕ). fifo_words f ++ x) old) i) 7 (of-drawn i))
      ∙ put_middle (fifo_words f) (take 4 (drop 7 l)) (draw_words draw) (drop 11 l) 7 refl n
      ∙ ap (λ (x : List ℕ). fifo_words f ++ (draw_words draw ++ x)) parts

  -- the CP registers, then the BP registers
  pub cp_saved : (cp : List ℕ) {once out : List ℕ} → length cp ≡ 60 → once ≡ words_by f (cp_of l) (bp_of l) draw → out ≡ put once 11 cp
      → out ≡ words_by f cp (bp_of l) draw
  cp_saved cp n e1 e2 =
      e2 ∙ ap (λ (x : List ℕ). put x 11 cp) e1 ∙ put_cp f draw (cp_of l) cp (bp_of l) (cp_length l long) n

  pub all_saved : (cp bp : List ℕ) {once out : List ℕ} → length cp ≡ 60 → length bp ≡ 256 → once ≡ words_by f cp (bp_of l) draw
      → out ≡ put once 71 bp → out ≡ words_by f cp bp draw
  all_saved cp bp n m e1 e2 =
      e2 ∙ ap (λ (x : List ℕ). put x 71 bp) e1 ∙ put_bp f draw cp (bp_of l) bp n (bp_length l long) m

-- a command that loads no CP register
pub no_load : (c : Command) → OneOf (0 ∷ 1 ∷ 2 ∷ 4 ∷ 5 ∷ 6 ∷ 7 ∷ 8 ∷ 9 ∷ []) (tag_of Commands.the_type c)
    → (l : List ℕ) (f : Fifo) (cp : List ℕ) (draw : Draw)
    → words_by f (cp_of l) (bp_of l) draw ≡ words_after_unit l (kind_of (numbers_of c)) f cp draw
unfolding words_after_unit
no_load NoOperation h l f cp draw = refl
no_load InvalidateCache h l f cp draw = refl
no_load Metrics h l f cp draw = refl
no_load (LoadCp a n) h l f cp draw = absurd (miss (0 ∷ 1 ∷ 2 ∷ 4 ∷ 5 ∷ 6 ∷ 7 ∷ 8 ∷ 9 ∷ []) 3 tt h)
no_load (LoadXf w a) h l f cp draw = refl
no_load (LoadIndexed a i w x) h l f cp draw = refl
no_load (CallList a n) h l f cp draw = refl
no_load (LoadBp r n) h l f cp draw = refl
no_load (DrawHead p g n) h l f cp draw = refl
no_load Vertex h l f cp draw = refl
