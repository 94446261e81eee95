-- After k turns the first k matrices are told.
use mathlib.Core.Path.{◌≡◌}
use mathlib.Core.List.{List}
use Prim.Native.Nat.{ℕ, ◌≤◌}
use Rattle.fields.specs.declared.Descriptor.{Descriptor}
use Rattle.whole.specs.Inner.{TellsFrom}
use Rattle.whole.proofs.measured.Vertex.tell_matrices.Given as goal

pub record Turn (d : Descriptor) (l old : List ℕ) (vcd : ℕ) (values : List ℕ) (at k : ℕ) : Type 0 where
  pub vcd_is : vcd ≡ d.vcd0
  pub least : at ≤ k
  pub moved : TellsFrom d l 0 k old at values

abbrev pub invariant-loop-k : goal.invariant-loop-k
invariant-loop-k l = Turn l.self.descriptor l.self.vertex.now l.initial.values l.vcd l.values l.at l.k
