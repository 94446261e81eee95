-- The commands that a patch is written as, their bytes, and the registers after they were executed.
use Rattle.std.specs.Prelude.{List, [], ◌∷◌, ◌++◌, ℕ, zero, suc}
use Rattle.command.specs.Command.{load_bp}
use Rattle.effect.specs.Effect.{mask_place, bp_after}
use Rattle.writer.specs.Write.{command_bytes}
use Rattle.patch.specs.Patch.{Patch, bp_count, mask_at, number_at}

-- "for each mask not zero, as a load of FE with the mask and a load of the register with the number"
unfoldable pub commands_at : ℕ → ℕ → ℕ → List (List ℕ)
commands_at r zero n = []
commands_at r (suc m) n = load_bp mask_place (suc m) ∷ load_bp r n ∷ []

-- "registers ascending": n of them from r on
unfoldable pub commands_from : ℕ → ℕ → Patch → List (List ℕ)
commands_from zero r p = []
commands_from (suc n) r p = commands_at r (mask_at p r) (number_at p r) ++ commands_from n (suc r) p

-- the commands of a patch
unfoldable pub commands_of : Patch → List (List ℕ)
commands_of p = commands_from bp_count 0 p

-- the bytes of commands that have no lent words, one after another
unfoldable pub bytes_of_commands : List (List ℕ) → List ℕ
bytes_of_commands [] = []
bytes_of_commands (c ∷ cs) = command_bytes c [] ++ bytes_of_commands cs

-- "Its bytes are those written for it."
unfoldable pub patch_bytes : Patch → List ℕ
patch_bytes p = bytes_of_commands (commands_of p)

-- "the sheets' bytes in order"
unfoldable pub bytes_of_patches : List Patch → List ℕ
bytes_of_patches [] = []
bytes_of_patches (p ∷ ps) = patch_bytes p ++ bytes_of_patches ps

-- the commands of patches in order
unfoldable pub commands_of_all : List Patch → List (List ℕ)
commands_of_all [] = []
commands_of_all (p ∷ ps) = commands_of p ++ commands_of_all ps

-- the BP registers after commands, one after another
unfoldable pub bp_after_all : List (List ℕ) → List ℕ → List ℕ
bp_after_all [] bp = bp
bp_after_all (c ∷ cs) bp = bp_after_all cs (bp_after c bp)
