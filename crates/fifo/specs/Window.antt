-- Document 01, "Window and hardware registers": the ring window, its rules and its count.
use Rattle.std.specs.Prelude.{ℕ, ◌+◌, ◌-◌, ◌%◌, ◌≤◌, ◌<◌, ◌≡◌, Bool, cond, ◌&&◌, List, [], ◌∷◌, ltb, leb, eqb}
use Rattle.laws.specs.Tests.{all_of}
use Rattle.fifo.specs.declared.Window.{Window}
use Rattle.fifo.specs.declared.Fifo.{Fifo}

-- document 02, L9, "Raise the size limit to 1,048,576": the most bytes of a ring
unfoldable pub size_limit : ℕ
size_limit = 1048576

-- "Size is end minus start": the end is exclusive. A window whose end is below its start has size 0.
abbrev pub size_of : Window → ℕ
size_of w = w.end - w.start

-- the window's rules: "Start and size are multiples of 32 .. Size is 256 to 65,536", with L9 to the limit. "Both pointers p satisfy
-- start <= p < end."
pub record Valid (w : Window) : Type 0 where
  pub least : 256 ≤ size_of w
  pub most : size_of w ≤ size_limit
  pub start_32 : w.start % 32 ≡ 0
  pub size_32 : size_of w % 32 ≡ 0
  pub write_from : w.start ≤ w.write
  pub write_below : w.write < w.end
  pub read_from : w.start ≤ w.read
  pub read_below : w.read < w.end

-- the same rules as tests, one for each field
abbrev pub rules : Window → List Bool
rules w =
    leb 256 (size_of w)
    ∷ leb (size_of w) size_limit
    ∷ eqb (w.start % 32) 0
    ∷ eqb (size_of w % 32) 0
    ∷ leb w.start w.write
    ∷ ltb w.write w.end
    ∷ leb w.start w.read
    ∷ ltb w.read w.end
    ∷ []

-- whether the window obeys its rules
unfoldable pub valid_by : Window → Bool
valid_by w = all_of (rules w)

-- refusal 1, "window rules broken; ring slice length is not size": what a call that uses the ring tests
pub record Ready (f : Fifo) (length : ℕ) : Type 0 where
  pub valid : Valid f.window
  pub whole : length ≡ size_of f.window

-- the same as a test
unfoldable pub ready_by : Fifo → ℕ → Bool
ready_by f length = valid_by f.window && eqb length (size_of f.window)

-- "Count is (write minus read) modulo size; equal pointers mean empty"
unfoldable pub count_of : Window → ℕ
count_of w = (w.write + size_of w - w.read) % size_of w

-- the count of a valid window (`gap_count`), total for others: what the code computes
unfoldable pub gap_of : Window → ℕ
gap_of w = cond (leb w.read w.write) (w.write - w.read) (size_of w - (w.read - w.write))

-- "Fresh state: control 0010 (hex), .. every other register zero"
unfoldable pub fresh_fifo : Fifo
fresh_fifo =
    record {
      window = record { start = 0; end = 0; high = 0; low = 0; write = 0; read = 0 };
      control = 0x10;
    }

-- ---- how a fifo changes: only through these

-- the fifo with another window
abbrev pub with_window : Fifo → Window → Fifo
with_window f w = record { window = w; control = f.control }

-- the fifo with another control word
abbrev pub with_control : Fifo → ℕ → Fifo
with_control f v = record { window = f.window; control = v }

-- the window with another write pointer
abbrev pub with_write : Window → ℕ → Window
with_write w p = record { start = w.start; end = w.end; high = w.high; low = w.low; write = p; read = w.read }

-- the window with another read pointer
abbrev pub with_read : Window → ℕ → Window
with_read w p = record { start = w.start; end = w.end; high = w.high; low = w.low; write = w.write; read = p }

-- the place n bytes after a pointer, in the ring: "wraps"
abbrev pub place_after : Window → ℕ → ℕ → ℕ
place_after w p n = (p - w.start + n) % size_of w

-- n bytes accepted: the write pointer n bytes on
unfoldable pub accept : Fifo → ℕ → Fifo
accept f n = with_window f (with_write f.window (f.window.start + place_after f.window f.window.write n))

-- n bytes consumed: the read pointer n bytes on
unfoldable pub consume : Fifo → ℕ → Fifo
consume f n = with_window f (with_read f.window (f.window.start + place_after f.window f.window.read n))
