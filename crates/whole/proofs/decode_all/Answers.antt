-- Refused as the layout is, or by the length; else all is told.
use mathlib.Core.Path.{◌≡◌, sym, ◌∙◌}
use lib.Dec.{lit<}
use borrow.Author.Rules.{rules}
use Rattle.std.specs.Prelude.{Err}
use Rattle.layout.specs.Answers.{refusal_of}
use Rattle.layout.proofs.Bounds.{length_accepted}
use Rattle.whole.specs.Whole.{whole_to}
use Rattle.whole.proofs.Wholly.{layout_refused, length_refused, all_told}
use Rattle.whole.proofs.decode_all.Goals as goal

pub returns-in_err-length : goal.returns-in_err-length
returns-in_err-length c =
    let a = c.args in
    let d = a.descriptor in
    let l = a.vertex.now in
    let reason = c.in_err-length.field-0.0 in
    let e : c.from_residual.result ≡ Err reason = search rules in
    let p = layout_refused d 0 l (whole_to d l 21) a.values.now reason c.in_err-length.ensures.answer_is in
    rw e (record { answer_is = p.0; values_are = p.1 })

pub returns-then-vertex-length : goal.returns-then-vertex-length
returns-then-vertex-length c =
    let a = c.args in
    let d = a.descriptor in
    let l = a.vertex.now in
    let m = c.in_ok-length.ensures in
    let none : refusal_of d ≡ 0 = let e = m.answer_is in cc in
    let p = length_refused d 0 l (whole_to d l 21) a.values.now none (lit< tt)
    (λ h. c.if-vertex-length.true (h ∙ sym (length_accepted d none) ∙ sym m.length_is)) in
    record { answer_is = p.0; values_are = p.1 }

pub invariant_of-tell : goal.invariant_of-tell
invariant_of-tell c =
    let d = c.args.descriptor in
    let m = c.in_ok-length.ensures in
    let none : refusal_of d ≡ 0 = let e = m.answer_is in cc in
    record { whole = c.if-vertex-length.false ∙ m.length_is ∙ length_accepted d none }

pub returns : goal.returns
returns c =
    let a = c.args in
    let d = a.descriptor in
    let l = a.vertex.now in
    let m = c.in_ok-length.ensures in
    let none : refusal_of d ≡ 0 = let e = m.answer_is in cc in
    let p = all_told d 0 l (whole_to d l 21) a.values.now none (lit< tt)
    (c.if-vertex-length.false ∙ m.length_is ∙ length_accepted d none) c.tell.ensures in
    record { answer_is = p.0; values_are = p.1 }
