-- `patchwriter::put_all` meets its contract: the registers before r are written, and the next load goes into what is left.
use Prim.Native.Nat.{ℕ, ◌+◌}
use native.Mathlib.Omega.{arith}
use mathlib.Core.List.{List, [], ◌++◌}
use Rattle.laws.proofs.Pieces.{Pieces}
use Rattle.command.specs.Command.{load_bp}
use Rattle.writer.specs.Write.{command_bytes}
use Rattle.patch.specs.Patch.{Patch, patch_of, number_at}
use Rattle.patch.proofs.Faults.{Sound, sound, number_small}
use Rattle.patchwriter.specs.Commands.{patch_bytes}
use Rattle.patchwriter.proofs.Writing.{load_fits, bytes_from, writing_none, writing_skip, writing_named, writing_put, writing_all}
use Rattle.patchwriter.proofs.put_all.Goals as goal

-- the load of a register, and those behind it
abbrev second : Patch → ℕ → List ℕ
second p r = command_bytes (load_bp r (number_at p r)) [] ++ bytes_from (r + 1) p

pub loop-r-init : goal.loop-r-init
loop-r-init c = writing_none _ _ (sound _ c.requires.0).masks_size c.requires.1

pub bounds-masks-r : goal.bounds-masks-r
bounds-masks-r c = omega (arith, (sound _ c.requires.0).masks_size)

pub loop-r-preserved-then-mask-eq0 : goal.loop-r-preserved-then-mask-eq0
loop-r-preserved-then-mask-eq0 c = writing_skip c.loop-r.invariant c.loop-r-test.true c.if-mask-eq0.true

pub put-at-requires : goal.put-at-requires
put-at-requires c =
    let p : Patch = patch_of c.args.masks.now c.args.numbers.now in
    let r : ℕ = c.loop-r.r in
    let s : Sound p = sound p c.requires.0 in
    (load_fits _ _ (second p r) (writing_named c.loop-r.invariant c.loop-r-test.true c.if-mask-eq0.false), s.small r c.loop-r-test.true)

pub bounds-numbers-r : goal.bounds-numbers-r
bounds-numbers-r c = omega (arith, (sound (patch_of c.args.masks.now c.args.numbers.now) c.requires.0).numbers_size)

pub put-at-requires-in-loop-r : goal.put-at-requires-in-loop-r
put-at-requires-in-loop-r c =
    let p : Patch = patch_of c.args.masks.now c.args.numbers.now in
    let r : ℕ = c.loop-r.r in
    let named = writing_named c.loop-r.invariant c.loop-r-test.true c.if-mask-eq0.false in
    let once : Pieces (patch_bytes p) c.args.out.now c.put-at.new.out c.put-at.result (second p r) = writing_put named c.put-at.ensures in
    (load_fits _ _ (bytes_from (r + 1) p) once, number_small p (sound p c.requires.0) r c.loop-r-test.true)

pub loop-r-preserved : goal.loop-r-preserved
loop-r-preserved c =
    let p : Patch = patch_of c.args.masks.now c.args.numbers.now in
    let r : ℕ = c.loop-r.r in
    let named = writing_named c.loop-r.invariant c.loop-r-test.true c.if-mask-eq0.false in
    let once : Pieces (patch_bytes p) c.args.out.now c.put-at.new.out c.put-at.result (second p r) = writing_put named c.put-at.ensures in
    record { pieces = writing_put once c.put-at-in-loop-r.ensures }

pub returns : goal.returns
returns c = writing_all c.loop-r.invariant (omega arith)
