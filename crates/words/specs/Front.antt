-- For the code's own functions: the fifo and the draw in the code's types, where words 6, 8 and 9 fit them; the words after a unit.
use Rattle.std.specs.Prelude.{Bool, cond, ◌&&◌, ◌||◌, List, ℕ, ◌^◌, eqb, ltb, get_or, Option, Some, None}
use Rattle.command.specs.declared.Draw.{Draw}
use Rattle.fifo.specs.declared.Fifo.{Fifo}
use Rattle.words.specs.declared.Front.{Front}
use Rattle.words.specs.State.{fifo_of, draw_of, cp_of, bp_of, words_by}

-- the primitive and format of an open draw have 8 bits
abbrev pub draw_narrow : List ℕ → Bool
draw_narrow l = eqb (get_or l 7 0) 0 || (ltb (get_or l 8 0) (2 ^ 8) && ltb (get_or l 9 0) (2 ^ 8))

-- and control has 16 bits
unfoldable pub fits : List ℕ → Bool
fits l = ltb (get_or l 6 0) (2 ^ 16) && draw_narrow l

-- the fifo and the draw, where they fit
unfoldable pub front_of : List ℕ → Option Front
front_of l = cond (fits l) (Some (record { fifo = fifo_of l; draw = draw_of l })) None

-- the words after a unit whose command has this kind: where that is a CP load the 60 CP registers are stored, and else they stay; the BP
-- registers stay as they stand in the words
unfoldable pub words_after_unit : List ℕ → ℕ → Fifo → List ℕ → Draw → List ℕ
words_after_unit l kind f cp draw = words_by f (cond (eqb kind 0x08) cp (cp_of l)) (bp_of l) draw
