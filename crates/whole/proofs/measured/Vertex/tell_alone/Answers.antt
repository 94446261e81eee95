-- A matrix by its bit, else as its field has it.
use mathlib.Core.Path.{◌≡◌, sym, ap, ◌∙◌}
use Prim.Native.Nat.{ℕ}
use lib.ListN.{length}
use borrow.Author.Rules.{rules}
use Rattle.fields.proofs.Modes.{matrix_mode}
use Rattle.layout.specs.Sizes.{offset_of}
use Rattle.vertex.specs.Attributes.{attribute_list}
use Rattle.encoding.specs.Told.{padded}
use Rattle.whole.proofs.Untold.{ten_only, matrix_list_lem}
use Rattle.whole.proofs.measured.Vertex.tell_alone.Goals as goal

pub returns-then-k-eq-POSITION : goal.returns-then-k-eq-POSITION
returns-then-k-eq-POSITION c =
    let a = c.args in
    let s = a.self.now in
    let many : length a.values.now ≡ 10 = search rules in
    c.put_at.ensures ∙ ten_only _ a.values.now many
    ∙ ap (λ (k : ℕ). padded 10 (attribute_list s.descriptor k s.vertex.now (offset_of s.descriptor k))) (sym c.if-k-eq-POSITION.true)

pub returns-then-k-lt-POSITION : goal.returns-then-k-lt-POSITION
returns-then-k-lt-POSITION c =
    let a = c.args in
    let s = a.self.now in
    let many : length a.values.now ≡ 10 = search rules in
    c.put.ensures ∙ ten_only _ a.values.now many
    ∙ matrix_list_lem s.descriptor s.vertex.now a.k a.at _ c.if-k-lt-POSITION.true c.requires.1
    (sym (matrix_mode s.descriptor a.k c.if-k-lt-POSITION.true)) c.matrix_words.ensures

pub returns : goal.returns
returns c =
    let a = c.args in
    let many : length a.values.now ≡ 10 = search rules in
    c.put_at-2.ensures ∙ ten_only _ a.values.now many
