-- By the mode of the attribute, as the definition has it.
use mathlib.Core.Path.{◌≡◌, ap, ◌∙◌}
use mathlib.Core.List.{List}
use Prim.Native.Nat.{ℕ}
use borrow.Author.Rules.{rules}
use Rattle.fields.specs.declared.Mode.TheVariants.{Direct}
use Rattle.vertex.specs.Attributes.{index_list}
use Rattle.encoding.specs.Told.{padded}
use Rattle.whole.specs.Inner.{ten_at}
use Rattle.whole.proofs.Untold.{index_some, some_index, indexed_size, direct_size, within, absent_told, direct_told, indexed_told}
use Rattle.whole.proofs.measured.Vertex.put_at.Goals as goal

pub returns-in-Absent : goal.returns-in-Absent
returns-in-Absent c =
    let a = c.args in
    c.put.ensures ∙ ap (λ (x : List ℕ). ten_at a.slot x a.values.now) (absent_told c.requires.0 a.self.now.vertex.now c.in-Absent.is)

pub put_direct-requires : goal.put_direct-requires
put_direct-requires c =
    let u = c.requires.0 in
    let s = c.args.self.now in
    (within u s.vertex.now _ s.whole (direct_size u c.in-Direct.is), c.requires.1)

pub returns-in-Direct : goal.returns-in-Direct
returns-in-Direct c =
    let a = c.args in
    c.put_direct.ensures ∙ ap (λ (x : List ℕ). ten_at a.slot x a.values.now) (direct_told c.requires.0 a.self.now.vertex.now c.in-Direct.is)

pub index_words-words-requires : goal.index_words-words-requires
index_words-words-requires c =
    let u = c.requires.0 in
    let s = c.args.self.now in
    let indirect : c.args.field.mode ≡ Direct → ⊥ = search rules in
    let some = index_some u c.in_default.not-Absent indirect in
    rw c.index_width.ensures (
      some.0,
      some.1,
      some_index u,
      within u s.vertex.now _ s.whole (indexed_size u c.in_default.not-Absent indirect),
    )

pub returns-in_default : goal.returns-in_default
returns-in_default c =
    let a = c.args in
    let l = a.self.now.vertex.now in
    let indirect : a.field.mode ≡ Direct → ⊥ = search rules in
    c.put-in_default.ensures
    ∙ ap (λ (x : List ℕ). ten_at a.slot x a.values.now)
    (c.index_words-words.ensures
    ∙ ap (λ (n : ℕ). padded 10 (index_list l a.at a.field.indices n)) c.index_width.ensures
    ∙ indexed_told c.requires.0 l c.in_default.not-Absent indirect)
