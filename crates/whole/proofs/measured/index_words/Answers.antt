-- One index, or three.
use native.Mathlib.Omega.{arith}
use Rattle.whole.proofs.Tens.{room_for}
use mathlib.Core.Path.{ap}
use mathlib.Core.List.{List}
use Prim.Native.Nat.{ℕ}
use Rattle.vertex.proofs.Lists.{index_told, indices_told}
use Rattle.encoding.specs.Told.{padded}
use Rattle.whole.proofs.measured.index_words.Goals as goal

pub number_in-x-requires : goal.number_in-x-requires
number_in-x-requires c =
    let a = c.args in
    (c.requires.0, omega (arith, room_for a.at 1 a.times a.n _ (omega arith) c.requires.3))

pub returns-then-times-ne3 : goal.returns-then-times-ne3
returns-then-times-ne3 c =
    let a = c.args in
    ap (λ (x : List ℕ). padded 10 x) (index_told a.vertex.now a.at a.times a.n c.requires.1 c.number_in-x.result
    c.if-times-ne3.true c.number_in-x.ensures)

pub number_in-y-requires : goal.number_in-y-requires
number_in-y-requires c =
    let a = c.args in
    (c.requires.0, omega (arith, room_for a.at 2 a.times a.n _ (omega arith) c.requires.3))

pub number_in-z-requires : goal.number_in-z-requires
number_in-z-requires c =
    let a = c.args in
    (c.requires.0, omega (arith, room_for a.at 3 a.times a.n _ (omega arith) c.requires.3))

pub returns : goal.returns
returns c =
    let a = c.args in
    ap (λ (x : List ℕ). padded 10 x) (indices_told a.vertex.now a.at a.times a.n c.requires.1 c.number_in-x.result
    c.number_in-y.result c.number_in-z.result
    c.if-times-ne3.false c.number_in-x.ensures c.number_in-y.ensures c.number_in-z.ensures)
