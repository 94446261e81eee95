-- After k turns the sums below k are there, and the length is the next.
use mathlib.Core.Path.{◌≡◌}
use mathlib.Core.List.{List}
use Prim.Native.Nat.{ℕ}
use lib.ListN.{length, take}
use Rattle.laws.specs.Values.{up_to}
use Rattle.fields.specs.declared.Descriptor.{Descriptor}
use Rattle.layout.specs.Sizes.{size_of, offset_of}
use Rattle.layout.proofs.weights.Weights.lay_out.Given as goal

pub record Turn (d : Descriptor) (sizes offsets : List ℕ) (bytes k : ℕ) : Type 0 where
  pub sizes_is : sizes ≡ up_to (size_of d) 21
  pub many : length offsets ≡ 21
  pub done : take k offsets ≡ up_to (offset_of d) k
  pub sum : bytes ≡ offset_of d k

abbrev pub invariant-loop-k : goal.invariant-loop-k
invariant-loop-k l = Turn l.self.d l.sizes l.offsets l.length l.k
