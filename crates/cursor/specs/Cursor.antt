-- The cursor: the pending bytes as the processor reads them.
-- Every call on it is total by its definition: a byte past the last, or at a place outside the ring, reads 0.
use Rattle.std.specs.Prelude.{ℕ, ◌+◌, ◌-◌, ◌≤◌, min, ◌≡◌, Bool, true, cond, ◌&&◌, List, ◌++◌, ltb, leb, length, get_or, take, drop}
use Rattle.laws.specs.Values.{up_to}
use Rattle.fifo.specs.declared.Fifo.{Fifo}
use Rattle.cursor.specs.declared.Cursor.{Cursor}
use Rattle.fifo.specs.Window.{size_of, count_of, gap_of, with_window, with_read, consume}
use Rattle.queue.specs.Pending.{pending}

-- the cursor at the read pointer, with all pending bytes left
unfoldable pub opened : Fifo → Cursor
opened f = record { at = f.window.read - f.window.start; left = gap_of f.window; size = size_of f.window }

-- the place n bytes after another, at most one turn on
unfoldable pub onward : ℕ → ℕ → ℕ → ℕ
onward at n size = cond (ltb n (size - at)) (at + n) (n - (size - at))

-- the cursor's byte k, 0 past the last
unfoldable pub byte_of : Cursor → List ℕ → ℕ → ℕ
byte_of c ring k = cond (ltb k c.left) (get_or ring (onward c.at k c.size) 0) 0

-- the first nine bytes, zeros past the last
unfoldable pub peeked : Cursor → List ℕ → List ℕ
peeked c ring = up_to (byte_of c ring) 9

-- a list with its front replaced by the first n bytes, or by as many as it has place for
unfoldable pub copied : Cursor → List ℕ → List ℕ → ℕ → List ℕ
copied c ring out n = up_to (byte_of c ring) (min n (length out)) ++ drop (min n (length out)) out

-- the cursor n bytes on
unfoldable pub skipped : Cursor → ℕ → Cursor
skipped c n = record { at = onward c.at n c.size; left = c.left - n; size = c.size }

-- whether the first n bytes are there and lie in one stretch of the ring
unfoldable pub straight_by : Cursor → ℕ → Bool
straight_by c n = leb n c.left && leb n (c.size - c.at)

-- the fifo with its read pointer at the cursor; a cursor outside the window leaves it
unfoldable pub closed : Fifo → Cursor → Fifo
closed f c = cond (ltb c.at (size_of f.window)) (with_window f (with_read f.window (f.window.start + c.at))) f

-- what the cursor of a ready fifo has to do with its queue
pub record ReadsPending (f : Fifo) (ring : List ℕ) : Type 0 where
  pub left_is : (opened f).left ≡ count_of f.window
  pub byte_is : (k : ℕ) → byte_of (opened f) ring k ≡ get_or (pending f.window ring) k 0
  pub bytes_are : (n : ℕ) → n ≤ count_of f.window → up_to (byte_of (opened f) ring) n ≡ take n (pending f.window ring)
  pub peek_is : peeked (opened f) ring ≡ up_to (λ k. get_or (pending f.window ring) k 0) 9
  pub copy_is : (out : List ℕ) (n : ℕ) → n ≤ count_of f.window → n ≤ length out
      → copied (opened f) ring out n ≡ take n (pending f.window ring) ++ drop n out
  pub straight_is : (n : ℕ) → straight_by (opened f) n ≡ true
      → take n (pending f.window ring) ≡ take n (drop (opened f).at ring)
  pub straight_within : (n : ℕ) → straight_by (opened f) n ≡ true → (opened f).at + n ≤ length ring
  pub skip_is : (n : ℕ) → n ≤ count_of f.window → skipped (opened f) n ≡ opened (consume f n)
  pub close_is : (n : ℕ) → closed f (opened (consume f n)) ≡ consume f n
  pub drop_is : (n : ℕ) → n ≤ count_of f.window → pending (consume f n).window ring ≡ drop n (pending f.window ring)
