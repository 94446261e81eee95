-- Format by format; all from 4 on are alike.
use mathlib.Core.Path.{◌∙◌}
use native.Mathlib.Omega.{arith}
use Rattle.component.proofs.Widths.{width_single}
use Rattle.whole.proofs.Singles.{three_alike}
use Rattle.whole.proofs.components.Components.up_to_three.Goals as goal

pub gather-requires : goal.gather-requires
gather-requires c = let p = c.requires in (p.0, rw c.in-0.is at p.1)

pub gather-requires-in-1 : goal.gather-requires-in-1
gather-requires-in-1 c = let p = c.requires in (p.0, rw c.in-1.is at p.1)

pub gather-requires-in-2 : goal.gather-requires-in-2
gather-requires-in-2 c = let p = c.requires in (p.0, rw c.in-2.is at p.1)

pub gather-requires-in-3 : goal.gather-requires-in-3
gather-requires-in-3 c = let p = c.requires in (p.0, rw c.in-3.is at p.1)

pub gather-requires-in_default : goal.gather-requires-in_default
gather-requires-in_default c =
    (c.requires.0, rw (width_single c.args.self.now.format (omega arith)) at c.requires.1)

pub returns-in-0 : goal.returns-in-0
returns-in-0 c = rw c.in-0.is c.gather.ensures

pub returns-in-1 : goal.returns-in-1
returns-in-1 c = rw c.in-1.is c.gather-in-1.ensures

pub returns-in-2 : goal.returns-in-2
returns-in-2 c = rw c.in-2.is c.gather-in-2.ensures

pub returns-in-3 : goal.returns-in-3
returns-in-3 c = rw c.in-3.is c.gather-in-3.ensures

pub returns-in_default : goal.returns-in_default
returns-in_default c =
    let s = c.args.self.now in
    c.gather-in_default.ensures ∙ three_alike s.vertex.now s.at s.format s.fraction c.args.n (omega arith)
