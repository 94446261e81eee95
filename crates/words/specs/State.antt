-- The state as 327 words: 0 start, 1 end, 2 high mark, 3 low mark, 4 write pointer, 5 read pointer, 6 control, 7 draw open, 8 primitive,
-- 9 format, 10 vertices left, 11 to 70 the CP registers, 71 to 326 the BP registers.
use Rattle.std.specs.Prelude.{◌≡◌, cond, ◌&&◌, List, [], ◌∷◌, ◌++◌, ℕ, ◌^◌, ◌<◌, eqb, ltb, length, get_or, take, drop}
use Rattle.command.specs.declared.Draw.{Draw}
use Rattle.command.specs.declared.Draw.TheVariants.{Closed, Open}
use Rattle.fifo.specs.declared.Window.{Window}
use Rattle.fifo.specs.declared.Fifo.{Fifo}
use Rattle.machine.specs.State.{State, state_of, fresh_machine}

-- ---- what words say: each number as it stands, so that document 01's refusal 1 finds those that are out of range

-- the ring window: words 0 to 5
abbrev pub window_of : List ℕ → Window
window_of l =
    record { start = get_or l 0 0; end = get_or l 1 0; high = get_or l 2 0; low = get_or l 3 0; write = get_or l 4 0; read = get_or l 5 0 }

-- the window and the control word
unfoldable pub fifo_of : List ℕ → Fifo
fifo_of l = record { window = window_of l; control = get_or l 6 0 }

-- how many vertices an open draw has left. Word 7 is a flag and word 10 a count of 16 bits: a draw whose flag is above 1 or whose count is
-- wider reads as one with 0 vertices left, which is refused by 1.
abbrev pub left_of : ℕ → ℕ → ℕ
left_of flag left = cond (eqb flag 1 && ltb left (2 ^ 16)) left 0

-- a draw is open where word 7 is not 0; while none is, words 8 to 10 say nothing
unfoldable pub draw_of : List ℕ → Draw
draw_of l = cond (eqb (get_or l 7 0) 0) Closed (Open (get_or l 8 0) (get_or l 9 0) (left_of (get_or l 7 0) (get_or l 10 0)))

-- the CP registers: words 11 to 70
unfoldable pub cp_of : List ℕ → List ℕ
cp_of l = take 60 (drop 11 l)

-- the BP registers: words 71 to 326
unfoldable pub bp_of : List ℕ → List ℕ
bp_of l = take 256 (drop 71 l)

-- the state that words and the lent memory are
abbrev pub state_at : List ℕ → List ℕ → List ℕ → State
state_at l xf vertex = state_of (fifo_of l) (cp_of l) (bp_of l) (draw_of l) xf vertex

-- ---- the words of a state

-- words 0 to 5
abbrev pub window_words : Window → List ℕ
window_words w = w.start ∷ w.end ∷ w.high ∷ w.low ∷ w.write ∷ w.read ∷ []

-- words 0 to 6
abbrev pub fifo_words : Fifo → List ℕ
fifo_words f = window_words f.window ++ (f.control ∷ [])

-- words 7 to 10: all 0 while no draw is open
abbrev pub draw_words : Draw → List ℕ
draw_words Closed = 0 ∷ 0 ∷ 0 ∷ 0 ∷ []
draw_words (Open primitive format left) = 1 ∷ primitive ∷ format ∷ left ∷ []

-- all words, by the parts of a state
unfoldable pub words_by : Fifo → List ℕ → List ℕ → Draw → List ℕ
words_by f cp bp draw = fifo_words f ++ (draw_words draw ++ (cp ++ bp))

-- all words of a state
abbrev pub state_words : State → List ℕ
state_words s = words_by s.fifo s.cp s.bp s.draw

-- the words of the fresh state
abbrev pub fresh_words : List ℕ
fresh_words =
    words_by fresh_machine.fifo fresh_machine.registers.cp fresh_machine.registers.bp fresh_machine.registers.draw

-- words with another fifo stored: words 7 and on stay as they are
unfoldable pub fifo_stored : List ℕ → Fifo → List ℕ
fifo_stored l f = fifo_words f ++ drop 7 l

-- ---- states that their words say whole (`read_back`): the arrays have their lengths, and an open draw's count has 16 bits

-- of the draw
abbrev pub HoldsDraw : Draw → Type 0
HoldsDraw Closed = Unit {0}
HoldsDraw (Open primitive format left) = left < 2 ^ 16

-- of the whole state
pub record Holds (s : State) : Type 0 where
  pub cp_length : length s.cp ≡ 60
  pub bp_length : length s.bp ≡ 256
  pub of_draw : HoldsDraw s.draw
