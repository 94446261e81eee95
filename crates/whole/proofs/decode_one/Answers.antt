-- Refused as the layout is, or by the number or the length; else told.
use mathlib.Core.Path.{◌≡◌, sym, ◌∙◌}
use mathlib.Core.List.{List}
use Prim.Native.Nat.{ℕ}
use borrow.Author.Rules.{rules}
use Rattle.std.specs.Prelude.{Err}
use Rattle.fields.specs.declared.Descriptor.{Descriptor}
use Rattle.layout.specs.Sizes.{offset_of}
use Rattle.layout.specs.Answers.{refusal_of}
use Rattle.layout.proofs.Bounds.{found_at, length_accepted}
use Rattle.vertex.specs.Attributes.{attribute_list}
use Rattle.encoding.specs.Told.{padded}
use Rattle.refusal.specs.declared.Reason.TheVariants.{NotOfLayout}
use Rattle.whole.proofs.Wholly.{Answered, layout_refused, number_refused, length_refused, all_told}
use Rattle.whole.proofs.decode_one.Goals as goal
use Rattle.whole.proofs.decode_one.Goals.{then-k-ge-COUNT-via-then-k-ge-COUNT, then-k-ge-COUNT-via-else-k-ge-COUNT+then-vertex-length}

-- the words of attribute k
abbrev ten_of : Descriptor → ℕ → List ℕ → List ℕ
ten_of d k l = padded 10 (attribute_list d k l (offset_of d k))

pub returns-in_err-length : goal.returns-in_err-length
returns-in_err-length c =
    let a = c.args in
    let d = a.descriptor in
    let l = a.vertex.now in
    let reason = c.in_err-length.field-0.0 in
    let e : c.from_residual.result ≡ Err reason = search rules in
    let p = layout_refused d a.k l (ten_of d a.k l) a.values.now reason (rw c.in_err-length.was at c.find-spot.ensures.answer_is) in
    rw e (record { answer_is = p.0; values_are = p.1 })

pub returns-then-k-ge-COUNT : goal.returns-then-k-ge-COUNT
returns-then-k-ge-COUNT c =
    let a = c.args in
    let d = a.descriptor in
    let l = a.vertex.now in
    let none : refusal_of d ≡ 0 = let e = rw c.in_ok-length.was at c.find-spot.ensures.answer_is in cc in
    let whole = rw c.in_ok-length.was at c.find-spot.ensures.length_is in
    let p : Answered d a.k l (ten_of d a.k l) a.values.now (Err NotOfLayout) a.values.now = elim c.then-k-ge-COUNT.branch [
      | then-k-ge-COUNT-via-then-k-ge-COUNT w ↦ number_refused d a.k l (ten_of d a.k l) a.values.now none w.if-k-ge-COUNT.true
      | then-k-ge-COUNT-via-else-k-ge-COUNT+then-vertex-length w ↦
          length_refused d a.k l (ten_of d a.k l) a.values.now none w.if-k-ge-COUNT.false
          (λ h. w.if-vertex-length.true (h ∙ sym (length_accepted d none) ∙ sym whole))
    ] in
    record { answer_is = p.0; values_are = p.1 }

pub tell_alone-requires : goal.tell_alone-requires
tell_alone-requires c = (c.if-k-ge-COUNT.false, found_at c.args.descriptor c.args.k c.if-k-ge-COUNT.false c.find-spot.ensures.offset_is)

pub invariant_of-tell_alone : goal.invariant_of-tell_alone
invariant_of-tell_alone c =
    let d = c.args.descriptor in
    let none : refusal_of d ≡ 0 = let e = rw c.in_ok-length.was at c.find-spot.ensures.answer_is in cc in
    let whole = rw c.in_ok-length.was at c.find-spot.ensures.length_is in
    record { whole = c.if-vertex-length.false ∙ whole ∙ length_accepted d none }

pub returns : goal.returns
returns c =
    let a = c.args in
    let d = a.descriptor in
    let l = a.vertex.now in
    let none : refusal_of d ≡ 0 = let e = rw c.in_ok-length.was at c.find-spot.ensures.answer_is in cc in
    let whole = rw c.in_ok-length.was at c.find-spot.ensures.length_is in
    let p = all_told d a.k l (ten_of d a.k l) a.values.now none c.if-k-ge-COUNT.false
    (c.if-vertex-length.false ∙ whole ∙ length_accepted d none) c.tell_alone.ensures in
    record { answer_is = p.0; values_are = p.1 }
