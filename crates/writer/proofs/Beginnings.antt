-- What a head begins with, and its bytes.
use mathlib.Core.Path.{◌≡◌, ap, ◌∙◌}
use mathlib.Core.List.{List}
use Prim.Native.Nat.{ℕ, ◌≤◌}
use lib.ListN.{length, take}
use Rattle.writer.specs.declared.heads.Front.{Front}
use Rattle.writer.specs.Write.{head_of}
use Rattle.writer.specs.Heads.{Begins}

-- a head at the front of a buffer is that of its command
pub begins : (c head : List ℕ) (r : Front) → length head ≤ 9 → head ≡ head_of c
    → (take (length head) r.bytes ≡ head) × (r.length ≡ length head) → Begins c r
begins c head r l e h = record { bytes_are = rw h.1 (h.0 ∙ e); length_is = h.1 ∙ ap length e; most = rw h.1 l }
