-- What the writer's own functions promise.
use Rattle.std.specs.Prelude.{◌≡◌, not, List, [], ◌++◌, ℕ, ◌+◌, ◌*◌, eqb, take, drop}
use Rattle.std.specs.List.{count_by}
use Rattle.command.specs.Command.{load_bp}
use Rattle.writer.specs.Write.{command_bytes}

-- the bytes that a patch with these masks is written in: two loads of five for each mask that is not zero
abbrev pub size_of : List ℕ → ℕ
size_of masks = 10 * count_by (λ mask. not (eqb mask 0)) masks

-- a load of five bytes at a place of the output, and the place after it
pub record Puts (out : List ℕ) (at register n next : ℕ) (out' : List ℕ) : Type 0 where
  pub next_is : next ≡ at + 5
  pub out_is : out' ≡ take at out ++ (command_bytes (load_bp register n) [] ++ drop 5 (drop at out))
