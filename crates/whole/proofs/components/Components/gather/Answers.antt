-- One component after the other, 0 for each that is absent.
use native.Mathlib.Omega.{arith}
use borrow.Author.Tests.{lt-ltb, le-ltb}
use Prim.Native.Nat.{◌<◌}
use Rattle.component.specs.Component.{width_of}
use Rattle.whole.proofs.Tens.{room_for}
use Rattle.whole.proofs.components.Components.gather.Goals as goal

pub bits-x-requires : goal.bits-x-requires
bits-x-requires c =
    let s = c.args.self.now in
    room_for s.at 1 c.args.n (width_of s.format) _ (omega arith) c.requires.1

pub returns-then-n-lt2 : goal.returns-then-n-lt2
returns-then-n-lt2 c =
    let less : c.args.n < 3 = omega arith in
    rw (lt-ltb c.args.n 2 c.if-n-lt2.true, lt-ltb c.args.n 3 less, c.bits-x.ensures)

pub bits-y-requires : goal.bits-y-requires
bits-y-requires c =
    let s = c.args.self.now in
    room_for s.at 2 c.args.n (width_of s.format) _ (omega arith) c.requires.1

pub returns-then-n-lt3 : goal.returns-then-n-lt3
returns-then-n-lt3 c =
    rw (le-ltb c.args.n 2 c.if-n-lt2.false, lt-ltb c.args.n 3 c.if-n-lt3.true, c.bits-x.ensures, c.bits-y.ensures)

pub bits-requires : goal.bits-requires
bits-requires c =
    let s = c.args.self.now in
    room_for s.at 3 c.args.n (width_of s.format) _ (omega arith) c.requires.1

pub returns : goal.returns
returns c =
    rw (
      le-ltb c.args.n 2 c.if-n-lt2.false,
      le-ltb c.args.n 3 c.if-n-lt3.false,
      c.bits-x.ensures,
      c.bits-y.ensures,
      c.bits.ensures,
    )
