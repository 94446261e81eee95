-- By the number of the attribute and its components, as the definition has it.
use mathlib.Core.Path.{sym, ap, ◌∙◌}
use mathlib.Core.List.{List}
use Prim.Native.Nat.{ℕ}
use native.Mathlib.Omega.{arith}
use Rattle.fields.proofs.Bounds.{colour_le, components_some}
use Rattle.vertex.proofs.Lists.{direct_colour, direct_other}
use Rattle.encoding.specs.Told.{padded}
use Rattle.whole.specs.Inner.{ten_at}
use Rattle.whole.proofs.Tens.{few_told, frame_told}
use Rattle.whole.proofs.Untold.{colour_room, direct_many}
use Rattle.whole.proofs.measured.put_direct.Goals as goal

pub number_in-n-requires : goal.number_in-n-requires
number_in-n-requires c =
    let a = c.args in
    colour_room a.at a.k a.field.count a.field.format c.colour_width.result _ (sym c.is_colour.ensures ∙ c.if-is_colour.true)
    c.colour_width.ensures c.requires.0

pub returns-then-is_colour : goal.returns-then-is_colour
returns-then-is_colour c =
    let a = c.args in
    let f = a.field in
    c.put.ensures
    ∙ ap (λ (x : List ℕ). ten_at a.slot (padded 10 x) a.values.now)
    (direct_colour a.vertex.now a.at a.k f.count f.format f.fraction c.number_in-n.result (sym c.is_colour.ensures ∙ c.if-is_colour.true)
    (rw c.colour_width.ensures at c.number_in-n.ensures) (colour_le f.format))

pub frame-requires : goal.frame-requires
frame-requires c =
    let a = c.args in
    direct_many a.at a.k a.field.count a.field.format 9 _ (sym c.is_colour.ensures ∙ c.if-is_colour.false)
    (sym c.if-n-eq9.true ∙ c.components-n.ensures) c.requires.0

pub returns-then-n-eq9 : goal.returns-then-n-eq9
returns-then-n-eq9 c =
    let a = c.args in
    let f = a.field in
    let other = sym c.is_colour.ensures ∙ c.if-is_colour.false in
    c.put-then-n-eq9.ensures
    ∙ ap (λ (x : List ℕ). ten_at a.slot x a.values.now)
    (c.frame.ensures ∙ frame_told a.vertex.now a.at f.format f.fraction a.k f.count (sym c.components-n.ensures ∙ c.if-n-eq9.true))
    ∙ ap (λ (x : List ℕ). ten_at a.slot (padded 10 x) a.values.now) (direct_other a.vertex.now a.at a.k f.count f.format f.fraction other)

pub up_to_three-requires : goal.up_to_three-requires
up_to_three-requires c =
    let a = c.args in (
      omega (arith, c.components-n.ensures, components_some a.k a.field.count),
      direct_many a.at a.k a.field.count a.field.format c.components-n.result _ (sym c.is_colour.ensures ∙ c.if-is_colour.false)
          c.components-n.ensures c.requires.0,
    )

pub returns : goal.returns
returns c =
    let a = c.args in
    let f = a.field in
    let other = sym c.is_colour.ensures ∙ c.if-is_colour.false in
    rw (c.up_to_three.ensures, c.kind.ensures, c.components-n.ensures) at c.put-2.ensures
    ∙ ap (λ (x : List ℕ). ten_at a.slot x a.values.now)
    (few_told a.vertex.now a.at f.format f.fraction a.k f.count (λ e. c.if-n-eq9.false (c.components-n.ensures ∙ e)))
    ∙ ap (λ (x : List ℕ). ten_at a.slot (padded 10 x) a.values.now) (direct_other a.vertex.now a.at a.k f.count f.format f.fraction other)
