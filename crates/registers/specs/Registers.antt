-- Document 01, "Window and hardware registers": the sixteen-bit registers at their offsets.
use Rattle.std.specs.Prelude.{ℕ, ◌+◌, ◌-◌, ◌*◌, ◌/◌, ◌%◌, Bool, cond, ◌&&◌, ◌||◌, not, List, [], ◌∷◌, ltb, leb, eqb, get_or, set}
use Rattle.fifo.specs.declared.Window.{Window}
use Rattle.fifo.specs.declared.Fifo.{Fifo}
use Rattle.fifo.specs.Window.{valid_by, count_of, with_window, with_control}

-- "020 start, 024 end, 028 high mark, 02C low mark, 030 count, 034 write pointer, 038 read pointer"
abbrev pub words : Window → List ℕ
words w = w.start ∷ w.end ∷ w.high ∷ w.low ∷ count_of w ∷ w.write ∷ w.read ∷ []

-- the window with these words; the count is not stored
abbrev pub from_words : List ℕ → Window
from_words l =
    record { start = get_or l 0 0; end = get_or l 1 0; high = get_or l 2 0; low = get_or l 3 0; write = get_or l 5 0; read = get_or l 6 0 }

-- which of the words an offset from 020 on belongs to
abbrev pub word_at : ℕ → ℕ
word_at o = (o - 0x20) / 4

-- "From 020 on, the low half is at the offset and the high half two above": whether an offset is that of a high half
abbrev pub is_high : ℕ → Bool
is_high o = eqb (o / 2 % 2) 1

-- the high or the low half of a word
unfoldable pub half_of : Bool → ℕ → ℕ
half_of high x = cond high (x / 0x10000) (x % 0x10000)

-- "Each half takes effect at once": a word with one half replaced
unfoldable pub with_half : Bool → ℕ → ℕ → ℕ
with_half high x v = cond high (v * 0x10000 + x % 0x10000) (x / 0x10000 * 0x10000 + v)

-- refusal 17, "hardware offset odd or not listed": even, and 000, 002, 004 or from 020 to 03A
unfoldable pub listed : ℕ → Bool
listed o = eqb (o % 2) 0 && (leb o 4 || leb 0x20 o && leb o 0x3A)

-- 000, 030 and 032: status and count are computed, so that "count and status reads test the window numbers" and writes of them give 17
unfoldable pub computed : ℕ → Bool
computed o = (eqb o 0x30 || eqb o 0x32) || eqb o 0

-- refusal 17, "read of 004"
unfoldable pub readable : ℕ → Bool
readable o = listed o && not (eqb o 4)

-- refusal 17, "write to 000, 030, 032"
unfoldable pub writable : ℕ → Bool
writable o = listed o && not (computed o)

-- "Status bit 2 is set exactly if the pointers are equal, bit 3 exactly if no draw is open, all others clear"
unfoldable pub status_of : Window → Bool → ℕ
status_of w drawing = cond (eqb w.read w.write) 4 0 + cond drawing 0 8

-- what a readable register holds: 000 status, 002 control, and from 020 on the halves of the words
unfoldable pub value_of : Fifo → Bool → ℕ → ℕ
value_of f drawing o =
    cond (eqb o 0) (status_of f.window drawing)
    (cond (ltb o 0x20) f.control (half_of (is_high o) (get_or (words f.window) (word_at o) 0)))

-- the answer of a read: 17, 1, or 0 and the value
unfoldable pub read_answer : Fifo → Bool → ℕ → List ℕ
read_answer f drawing o =
    cond (readable o) (cond (computed o && not (valid_by f.window)) (1 ∷ []) (0 ∷ value_of f drawing o ∷ [])) (17 ∷ [])

-- the window with one half of one of its words replaced
unfoldable pub with_register : Window → ℕ → ℕ → Window
with_register w o v = from_words (set (words w) (word_at o) (with_half (is_high o) (get_or (words w) (word_at o) 0) v))

-- a writable register written: "Control keeps its low 6 bits. .. A write to 004 is accepted and changes nothing. Marks are stored only."
unfoldable pub stored : Fifo → ℕ → ℕ → Fifo
stored f o v = cond (eqb o 4) f (cond (ltb o 0x20) (with_control f (v % 64)) (with_window f (with_register f.window o v)))

-- the answer of a write: 17, or accepted
unfoldable pub write_answer : ℕ → List ℕ
write_answer o = cond (writable o) (0 ∷ []) (17 ∷ [])

-- the fifo after a write: "The refused call .. changes nothing"
unfoldable pub written : Fifo → ℕ → ℕ → Fifo
written f o v = cond (writable o) (stored f o v) f
