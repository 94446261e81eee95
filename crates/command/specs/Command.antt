-- A command as a list of numbers, its kind and then its fields:
-- "For any answer that is an enum, a definition gives this paper's number and values for each case."
-- The kind is the opcode, for an indexed load the lowest, for a draw 80, and 01 for a vertex.
use Rattle.std.specs.Prelude.{List, [], ◌∷◌, ℕ, get_or}
use Rattle.refusal.specs.Number.{number}
use Rattle.command.specs.declared.Command.{Command}
use Rattle.command.specs.declared.Command.TheVariants.{NoOperation, InvalidateCache, Metrics, LoadCp, LoadXf, LoadIndexed}
use Rattle.command.specs.declared.Command.TheVariants.{CallList, LoadBp, DrawHead, Vertex}
use Rattle.command.specs.declared.StepAnswer.{StepAnswer}
use Rattle.command.specs.declared.StepAnswer.TheVariants.{Done, Waiting, Refused}

-- ---- each command of "Units of the stream"

abbrev pub no_operation : List ℕ
no_operation = 0x00 ∷ []

abbrev pub invalidate_cache : List ℕ
invalidate_cache = 0x48 ∷ []

-- 44 by document 02, L2, where document 01 has 68
abbrev pub metrics : List ℕ
metrics = 0x44 ∷ []

abbrev pub load_cp : ℕ → ℕ → List ℕ
load_cp address n = 0x08 ∷ address ∷ n ∷ []

abbrev pub load_xf : ℕ → ℕ → List ℕ
load_xf words address = 0x10 ∷ words ∷ address ∷ []

abbrev pub load_indexed : ℕ → ℕ → ℕ → ℕ → List ℕ
load_indexed array index words address = 0x20 ∷ array ∷ index ∷ words ∷ address ∷ []

abbrev pub call_list : ℕ → ℕ → List ℕ
call_list address size = 0x40 ∷ address ∷ size ∷ []

abbrev pub load_bp : ℕ → ℕ → List ℕ
load_bp register n = 0x61 ∷ register ∷ n ∷ []

abbrev pub draw_head : ℕ → ℕ → ℕ → List ℕ
draw_head primitive format count = 0x80 ∷ primitive ∷ format ∷ count ∷ []

abbrev pub vertex : List ℕ
vertex = 0x01 ∷ []

-- the kind of a command, and its fields from 1 on
abbrev pub kind_of : List ℕ → ℕ
kind_of c = get_or c 0 0

abbrev pub field_of : List ℕ → ℕ → ℕ
field_of c k = get_or c k 0

-- ---- the enums, by these numbers

abbrev pub numbers_of : Command → List ℕ
numbers_of NoOperation = no_operation
numbers_of InvalidateCache = invalidate_cache
numbers_of Metrics = metrics
numbers_of (LoadCp address n) = load_cp address n
numbers_of (LoadXf words address) = load_xf words address
numbers_of (LoadIndexed array index words address) = load_indexed array index words address
numbers_of (CallList address size) = call_list address size
numbers_of (LoadBp register n) = load_bp register n
numbers_of (DrawHead primitive format count) = draw_head primitive format count
numbers_of Vertex = vertex

-- what the stream goes on with: a whole unit with its command, the reported memory address and its bytes;
-- a lack of so many bytes; a refusal
pub data Found : Type 0 where
  unit : List ℕ → ℕ → ℕ → Found
  waiting : ℕ → Found
  refused : ℕ → Found

abbrev pub meaning : StepAnswer → Found
meaning (Done command memory length) = unit (numbers_of command) memory length
meaning (Waiting lacking) = waiting lacking
meaning (Refused reason) = refused (number reason)
