-- `bulk::take_draw` meets its contract: the head is a unit, and then each of its vertices that are taken.
use mathlib.Core.List.{[]}
use Prim.Native.Nat.{◌%◌}
use native.Mathlib.Omega.{arith}
use Rattle.command.proofs.Decided.{bytes_most}
use Rattle.bulk.proofs.Told.{told_left}
use Rattle.bulk.proofs.Classes.{closed_draw}
use Rattle.bulk.proofs.Drawn.{head_moves}
use Rattle.bulk.proofs.draws.take_draw.Goals as goal

pub returns-then-bytes-at-lt3 : goal.returns-then-bytes-at-lt3
returns-then-bytes-at-lt3 c = closed_draw c.from-none.ensures c.requires.1.1.1.1.1

pub returns-then-size-eq0 : goal.returns-then-size-eq0
returns-then-size-eq0 c = closed_draw c.from-none.ensures c.size_of-size.ensures.known

pub take_vertices-some-requires : goal.take_vertices-some-requires
take_vertices-some-requires c =
    let z = c.size_of-size in (
      omega (arith, c.if-bytes-at-lt3.false, c.requires.0),
      (
        omega (arith, c.if-size-eq0.false),
        omega (
          arith,
          z.ensures.size_is,
          bytes_most c.args.cp.now
              (c.args.op % 8),
        ),
      ),
    )

pub overflow_add-result : goal.overflow_add-result
overflow_add-result c =
    let v = c.take_vertices-some.ensures.0.any c.args.cp.now [] []
    c.size_of-size.ensures.size_is in
    record {
      fits = omega (
        arith,
        v.within,
        c.ranges.most,
        c.requires.1.1.1.1.0,
      );
    }

pub returns : goal.returns
returns c =
    let p = c.requires in
    let z = c.size_of-size.ensures in
    let v = c.take_vertices-some.ensures in (
      record {
        any = λ bp xf.
            head_moves bp xf
            (record {
              whole = c.if-bytes-at-lt3.false;
              opcode = p.1.0;
              low = p.1.1.0;
              high = p.1.1.1.0;
              size_is = z.size_is;
              some = omega (arith, c.if-size-eq0.false);
              count_is = c.half-count.ensures;
            })
            p.1.1.1.1.0 v.0;
        known = z.known;
      },
      told_left v.1 z.size_is,
    )
