-- After i turns the kind and the components below i stand.
use mathlib.Core.Path.{refl, ap, ◌∙◌}
use Prim.Native.Nat.{ℕ, ◌+◌, ◌<◌}
use native.Mathlib.Omega.{arith}
use lib.ListN.{length, length-set}
use Rattle.laws.specs.Values.{up_to}
use Rattle.laws.proofs.Filled.{fill_next, fill_all}
use Rattle.component.specs.Component.{width_of}
use Rattle.vertex.specs.Attributes.{bits_of}
use Rattle.whole.proofs.Tens.{framed, framed_at, room_for}
use Rattle.whole.proofs.components.Components.frame.Goals as goal

pub loop-i-init : goal.loop-i-init
unfolding up_to
loop-i-init c = (refl, refl)

pub bits-requires : goal.bits-requires
bits-requires c =
    let s = c.args.self.now in
    room_for s.at _ 9 (width_of s.format) _ (omega arith) c.requires

pub loop-i-preserved : goal.loop-i-preserved
loop-i-preserved c =
    let lp = c.loop-i in
    let s = c.args.self.now in
    let f : ℕ → ℕ = framed s.vertex.now s.at s.format s.fraction in
    let inside : lp.i + 1 < length lp.frame = omega (arith, lp.invariant.0) in (
      simp length-set lp.invariant.0,
      fill_next f lp.frame (lp.i + 1) c.bits.result inside lp.invariant.1
          (c.bits.ensures ∙ ap (bits_of s.vertex.now s.at s.format s.fraction) (omega arith)
          ∙ framed_at s.vertex.now s.at s.format s.fraction lp.i),
    )

pub returns : goal.returns
unfolding up_to
returns c =
    let lp = c.loop-i in
    let s = c.args.self.now in
    fill_all (framed s.vertex.now s.at s.format s.fraction) lp.frame 10 (lp.i + 1) lp.invariant.0 (omega arith) lp.invariant.1
