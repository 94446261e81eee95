-- For the code's own functions: what the writer's head functions promise.
use Rattle.std.specs.Prelude.{◌≡◌, List, ℕ, ◌≤◌, length, take}
use Rattle.writer.specs.declared.heads.Front.{Front}
use Rattle.writer.specs.Write.{head_of}

-- the head of a command, at the front of nine bytes
pub record Begins (c : List ℕ) (r : Front) : Type 0 where
  pub bytes_are : take r.length r.bytes ≡ head_of c
  pub length_is : r.length ≡ length (head_of c)
  pub most : r.length ≤ 9
