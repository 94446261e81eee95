-- `patchwriter::write` meets its contract: an accepted patch that fits is written whole, and nothing is written before both are known.
use Rattle.std.proofs.Common.{rules}
use Rattle.patch.specs.Patch.{patch_of}
use Rattle.patch.proofs.Faults.{sound}
use Rattle.patchwriter.proofs.Writing.{by_room, by_writing}
use Rattle.patchwriter.proofs.write.Goals as goal

pub size-n-requires : goal.size-n-requires
size-n-requires c = (sound (patch_of c.args.masks.now c.args.numbers.now) (search rules)).masks_size

pub returns-then-out-n : goal.returns-then-out-n
returns-then-out-n c = by_room _ _ (search rules) _ c.size-n.ensures.0 c.if-out-n.true

pub returns : goal.returns
returns c = let x = c.in_ok-check.ensures in by_writing _ _ (search rules) _ c.size-n.ensures.0 _ c.if-out-n.false c.put_all.ensures
