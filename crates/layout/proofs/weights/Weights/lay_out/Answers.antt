-- No sum passes 129, so each fits a byte.
use mathlib.Core.Path.{◌≡◌, refl, ap, ◌∙◌}
use mathlib.Core.List.{List}
use Prim.Native.Nat.{ℕ, ◌<◌}
use native.Mathlib.Omega.{arith}
use lib.ListN.{length, replicate, get_or, length-set}
use Rattle.laws.specs.Values.{up_to}
use Rattle.laws.proofs.Filled.{get_d_up_to, fill_none, fill_next, fill_all}
use Rattle.fields.specs.declared.Descriptor.{Descriptor}
use Rattle.layout.specs.Sizes.{size_of, offset_of}
use Rattle.layout.proofs.Tests.{sum_none, sum_next}
use Rattle.layout.proofs.Bounds.{offset_le}
use Rattle.layout.proofs.weights.Weights.lay_out.Goals as goal

-- the bytes of attribute k
size-at : (d : Descriptor) (sizes : List ℕ) (k : ℕ) → sizes ≡ up_to (size_of d) 21 → k < 21 → get_or sizes k 0 ≡ size_of d k
size-at d sizes k e h = ap (λ (l : List ℕ). get_or l k 0) e ∙ get_d_up_to (size_of d) 21 k h

pub loop-k-init : goal.loop-k-init
loop-k-init c =
    let d = c.args.self.now.d in
    record { sizes_is = c.sizes-sizes.ensures; many = refl; done = fill_none (offset_of d) (replicate 21 0); sum = sum_none d }

pub overflow_cast-offsets : goal.overflow_cast-offsets
overflow_cast-offsets c = omega (arith, c.loop-k.invariant.sum, offset_le c.args.self.now.d c.loop-k.k)

pub overflow_add-length : goal.overflow_add-length
overflow_add-length c =
    omega (
      arith,
      c.loop-k.invariant.sum,
      offset_le c.args.self.now.d c.loop-k.k,
      c.loop-k-test.element_fits,
      c.from-length.ensures,
    )

pub loop-k-preserved : goal.loop-k-preserved
loop-k-preserved c =
    let lp = c.loop-k in
    let d = c.args.self.now.d in
    let inside : lp.k < length lp.offsets = omega (arith, lp.invariant.many) in
    record {
      sizes_is = lp.invariant.sizes_is;
      many = simp length-set lp.invariant.many;
      done = fill_next (offset_of d) lp.offsets lp.k lp.length inside lp.invariant.done lp.invariant.sum;
      sum =
          sum_next d lp.k lp.length _ lp.invariant.sum
          (c.from-length.ensures ∙ size-at d _ lp.k lp.invariant.sizes_is c.loop-k-test.true);
    }

pub returns : goal.returns
returns c =
    let lp = c.loop-k in
    let d = c.args.self.now.d in
    let e : lp.k ≡ 21 = omega arith in
    record {
      length_is = lp.invariant.sum ∙ ap (offset_of d) e;
      sizes_is = lp.invariant.sizes_is;
      offsets_is = fill_all (offset_of d) lp.offsets 21 lp.k lp.invariant.many e lp.invariant.done;
    }
