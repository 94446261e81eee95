-- By the number of the attribute: a colour, a position, a normal or a texture.
use mathlib.Core.Path.{sym, ap, ◌∙◌}
use mathlib.Core.List.{[], ◌∷◌}
use Prim.Native.Nat.{ℕ}
use native.Mathlib.Omega.{arith}
use Rattle.fields.proofs.Bounds.{colour_le}
use Rattle.vertex.specs.declared.Triple.{Triple}
use Rattle.vertex.specs.Attributes.{component_list}
use Rattle.vertex.specs.Answers.{triple_bits}
use Rattle.vertex.proofs.Lists.{position_told, direct_colour, direct_other, texture_alike}
use Rattle.vertex.proofs.read_direct.Goals as goal

pub returns-then-is_colour : goal.returns-then-is_colour
returns-then-is_colour c =
    let a = c.args in
    let f = a.field in
    direct_colour a.vertex.now a.at a.k f.count f.format f.fraction c.read.result (sym c.is_colour.ensures ∙ c.if-is_colour.true)
    (rw (c.from.ensures, c.colour_width.ensures) at c.read.ensures) (colour_le f.format)

pub returns-in-9 : goal.returns-in-9
returns-in-9 c =
    let a = c.args in
    let f = a.field in
    ap (λ (t : Triple). 5 ∷ triple_bits t []) c.position.ensures
    ∙ position_told a.vertex.now a.at f.format f.fraction f.count
    ∙ ap (λ (k : ℕ). component_list a.vertex.now a.at k f.count f.format f.fraction) (sym c.in-9.is)
    ∙ direct_other a.vertex.now a.at a.k f.count f.format f.fraction (sym c.is_colour.ensures ∙ c.if-is_colour.false)

pub returns-in-10 : goal.returns-in-10
returns-in-10 c =
    let a = c.args in
    let f = a.field in
    c.normal.ensures
    ∙ ap (λ (k : ℕ). component_list a.vertex.now a.at k f.count f.format f.fraction) (sym c.in-10.is)
    ∙ direct_other a.vertex.now a.at a.k f.count f.format f.fraction (sym c.is_colour.ensures ∙ c.if-is_colour.false)

pub returns-in_default : goal.returns-in_default
returns-in_default c =
    let a = c.args in
    let f = a.field in
    c.texture.ensures
    ∙ texture_alike a.vertex.now a.at a.k f.count f.format f.fraction (λ e. omega arith) (λ e. omega arith)
    ∙ direct_other a.vertex.now a.at a.k f.count f.format f.fraction (sym c.is_colour.ensures ∙ c.if-is_colour.false)
