-- Format by format, so many bytes from its place on.
use mathlib.Core.Path.{ap, ◌∙◌}
use Prim.Native.Nat.{ℕ, ◌+◌, ◌*◌, ◌≤◌}
use native.Mathlib.Omega.{arith}
use lib.ListN.{length}
use lib.Ieee.{binary32, to_bits}
use Rattle.component.specs.Component.{component_of}
use Rattle.component.proofs.Widths.{width_single}
use Rattle.vertex.specs.Attributes.{raw_at, component_at}
use Rattle.whole.proofs.Singles.{single_is}
use Rattle.whole.proofs.components.Components.bits.Goals as goal

pub byte_in-requires : goal.byte_in-requires
byte_in-requires c =
    let h : c.args.self.now.at + (c.args.i + 1) * 1 ≤ length c.args.self.now.vertex.now = rw c.in-0.is at c.requires in
    omega arith

pub byte_in-requires-in-1 : goal.byte_in-requires-in-1
byte_in-requires-in-1 c =
    let h : c.args.self.now.at + (c.args.i + 1) * 1 ≤ length c.args.self.now.vertex.now = rw c.in-1.is at c.requires in
    omega arith

pub half_in-requires : goal.half_in-requires
half_in-requires c =
    let h : c.args.self.now.at + (c.args.i + 1) * 2 ≤ length c.args.self.now.vertex.now = rw c.in-2.is at c.requires in
    omega arith

pub half_in-requires-in-3 : goal.half_in-requires-in-3
half_in-requires-in-3 c =
    let h : c.args.self.now.at + (c.args.i + 1) * 2 ≤ length c.args.self.now.vertex.now = rw c.in-3.is at c.requires in
    omega arith

pub word_in-requires : goal.word_in-requires
word_in-requires c =
    let h : c.args.self.now.at + (c.args.i + 1) * 4 ≤ length c.args.self.now.vertex.now =
    rw (width_single c.args.self.now.format (omega arith)) at c.requires in
    omega arith

pub returns-in-0 : goal.returns-in-0
unfolding component_at raw_at
returns-in-0 c =
    rw c.in-0.is (c.single.ensures ∙ ap (λ (x : ℕ). to_bits binary32 (component_of 0 x c.args.self.now.fraction))
    c.byte_in.ensures)

pub returns-in-1 : goal.returns-in-1
unfolding component_at raw_at
returns-in-1 c =
    rw c.in-1.is (c.single-in-1.ensures ∙ ap (λ (x : ℕ). to_bits binary32 (component_of 1 x c.args.self.now.fraction))
    c.byte_in-in-1.ensures)

pub returns-in-2 : goal.returns-in-2
unfolding component_at raw_at
returns-in-2 c =
    rw c.in-2.is (c.single-in-2.ensures ∙ ap (λ (x : ℕ). to_bits binary32 (component_of 2 x c.args.self.now.fraction))
    c.half_in.ensures)

pub returns-in-3 : goal.returns-in-3
unfolding component_at raw_at
returns-in-3 c =
    rw c.in-3.is (c.single-in-3.ensures ∙ ap (λ (x : ℕ). to_bits binary32 (component_of 3 x c.args.self.now.fraction))
    c.half_in-in-3.ensures)

pub returns-in_default : goal.returns-in_default
returns-in_default c =
    let a = c.args in
    let s = a.self.now in
    single_is s.vertex.now s.at s.format s.fraction a.i c.word_in.result
    (omega arith) (omega arith) c.word_in.ensures c.kept.ensures
