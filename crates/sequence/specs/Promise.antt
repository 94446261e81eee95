-- Demand 3, and document 01's "Sheets in a row": patches fed one after the other, in any accepted pieces.
use Rattle.std.specs.Prelude.{◌≡◌, ◌↔◌, List, [], ◌∷◌, length, get_or}
use Rattle.command.specs.declared.Draw.TheVariants.{Closed}
use Rattle.effect.specs.Effect.{mask_place}
use Rattle.processor.specs.Step.{Runnable}
use Rattle.history.specs.Calls.{World, Call, queue, after_all, fed_all, units_all, commands_in, AllListed}
use Rattle.patch.specs.Patch.{Patch, bp_count, IsAccepted, AllAccepted, applied_to, merged_of, merged_all}
use Rattle.patch.specs.Registers.{Agree}
use Rattle.patchwriter.specs.Commands.{bytes_of_patches, commands_of_all}
use Rattle.sequence.specs.Start.{first_world}

-- "Begin with nothing that document 01 refuses by 1, 2 or 3, an empty ring, no draw open, the mask at FFFFFF and reading allowed in
-- multi-buffer mode": none of 1 to 5 applies, by the very test of a taking. That there are 256 BP registers is a premise of its own.
pub record Start (w : World) : Type 0 where
  pub passes : Runnable w.ring w.state
  pub empty : queue w ≡ []
  pub closed : w.state.draw ≡ Closed
  pub size : length w.state.bp ≡ bp_count
  pub unmasked : get_or w.state.bp mask_place 0 ≡ 0xFFFFFF

-- a list of calls that "feeds whole accepted sheets one after the other, in any accepted pieces, and ends with the ring empty";
-- refused calls included
pub record Delivers (w : World) (cs : List Call) (ps : List Patch) : Type 0 where
  pub listed : AllListed cs
  pub accepted : AllAccepted ps
  pub fed_is : fed_all w cs ≡ bytes_of_patches ps
  pub emptied : queue (after_all w cs) ≡ []

-- some list of calls that does
pub record SomeCalls (w : World) (ps : List Patch) : Type 0 where
  pub calls : List Call
  pub delivers : Delivers w calls ps

-- "Compared are all 256 BP registers, all CP registers and all 4,184 XF words."
pub record SameRegisters (a b : World) : Type 0 where
  pub bp_is : a.state.bp ≡ b.state.bp
  pub cp_is : a.state.cp ≡ b.state.cp
  pub xf_is : a.state.xf ≡ b.state.xf

-- "What the rules give for a sheet: BP register r is the start's outside mask r, number r inside; CP registers and XF words are the
-- start's."
pub record RulesGive (w : World) (p : Patch) (end : World) : Type 0 where
  pub bp_is : end.state.bp ≡ applied_to w.state.bp p
  pub cp_is : end.state.cp ≡ w.state.cp
  pub xf_is : end.state.xf ≡ w.state.xf

-- Demand 3 whole: "After the list the BP, CP and XF registers are those that the rules give for one merged sheet, a later sheet's bits
-- winning"; "Grouping three accepted sheets either way merges to the same masks and numbers"; "From any one such start, A then B leaves the
-- same BP, CP and XF registers as B then A exactly when every bit that both name has the same value in both". Beside these: the units that
-- the list's calls took are the patches' commands, in their order, each once and no other; a merge of accepted patches is accepted, of
-- two or of a list; and such starts and lists of calls exist.
pub record PatchesInRow : Type 0 where
  pub promised : (w : World) (cs : List Call) (ps : List Patch) → Start w → Delivers w cs ps → RulesGive w (merged_all ps) (after_all w cs)
  pub units_are : (w : World) (cs : List Call) (ps : List Patch) → Start w → Delivers w cs ps
      → commands_in (units_all w cs) ≡ commands_of_all ps
  pub either_way : (a b c : Patch) → IsAccepted a → IsAccepted b → IsAccepted c → merged_of (merged_of a b) c ≡ merged_of a (merged_of b c)
  pub stays_accepted : (a b : Patch) → IsAccepted a → IsAccepted b → IsAccepted (merged_of a b)
  pub whole_accepted : (ps : List Patch) → AllAccepted ps → IsAccepted (merged_all ps)
  pub either_order : (w : World) → Start w → (a b : Patch) (cs ds : List Call) → Delivers w cs (a ∷ b ∷ []) → Delivers w ds (b ∷ a ∷ [])
      → SameRegisters (after_all w cs) (after_all w ds) ↔ Agree a b
  pub begins : Start first_world
  pub delivered : (w : World) → Start w → (ps : List Patch) → AllAccepted ps → SomeCalls w ps
