-- The refusal of the layout, else 19 by number and length, else the sum before the attribute.
use mathlib.Core.Path.{◌≡◌, sym, ap, ◌∙◌}
use mathlib.Core.List.{[], ◌∷◌}
use Prim.Native.Nat.{ℕ}
use native.Mathlib.Omega.{arith}
use borrow.Author.Rules.{rules}
use Rattle.std.specs.Prelude.{Err}
use Rattle.layout.specs.Sizes.{offset_of}
use Rattle.layout.specs.Answers.{refusal_of}
use Rattle.layout.proofs.Bounds.{found_at, length_accepted, offset_le}
use Rattle.vertex.specs.Answers.{refusal_at}
use Rattle.vertex.proofs.Refusals.{refused_number, refused_length, accepted_at, unless_refused_lem, unless_accepted, layout_refused}
use Rattle.vertex.proofs.locate.Goals as goal
use Rattle.vertex.proofs.locate.Goals.{else-k-lt-COUNT-via-then-k-lt-COUNT+else-vertex-length, else-k-lt-COUNT-via-else-k-lt-COUNT}

pub returns-in_err-length : goal.returns-in_err-length
returns-in_err-length c =
    let a = c.args in
    let d = a.descriptor in
    let reason = c.in_err-length.field-0.0 in
    let e : c.from_residual.result ≡ Err reason = search rules in
    rw e (layout_refused d a.k a.vertex.now (offset_of d a.k ∷ []) reason (rw c.in_err-length.was at c.find-spot.ensures.answer_is))

pub overflow_cast-result : goal.overflow_cast-result
overflow_cast-result c =
    let a = c.args in
    omega (
      arith,
      found_at a.descriptor a.k c.if-k-lt-COUNT.true c.find-spot.ensures.offset_is,
      offset_le a.descriptor a.k (omega arith),
    )

pub returns-then-vertex-length : goal.returns-then-vertex-length
returns-then-vertex-length c =
    let a = c.args in
    let d = a.descriptor in
    let none : refusal_of d ≡ 0 = let e = rw c.in_ok-length.was at c.find-spot.ensures.answer_is in cc in
    let whole = rw c.in_ok-length.was at c.find-spot.ensures.length_is in
    ap (λ (x : ℕ). 0 ∷ x ∷ []) (found_at d a.k c.if-k-lt-COUNT.true c.find-spot.ensures.offset_is)
    ∙ unless_accepted (refusal_at d a.k a.vertex.now) (offset_of d a.k ∷ [])
    (accepted_at d a.k a.vertex.now none c.if-k-lt-COUNT.true (c.if-vertex-length.true ∙ whole ∙ length_accepted d none))

pub returns-else-k-lt-COUNT : goal.returns-else-k-lt-COUNT
returns-else-k-lt-COUNT c =
    let a = c.args in
    let d = a.descriptor in
    let none : refusal_of d ≡ 0 = let e = rw c.in_ok-length.was at c.find-spot.ensures.answer_is in cc in
    let whole = rw c.in_ok-length.was at c.find-spot.ensures.length_is in
    let refused : refusal_at d a.k a.vertex.now ≡ 19 = elim c.else-k-lt-COUNT.branch [
      | else-k-lt-COUNT-via-then-k-lt-COUNT+else-vertex-length w ↦
          refused_length d a.k a.vertex.now none w.if-k-lt-COUNT.true
          (λ h. w.if-vertex-length.false (h ∙ sym (length_accepted d none) ∙ sym whole))
      | else-k-lt-COUNT-via-else-k-lt-COUNT w ↦ refused_number d a.k a.vertex.now none w.if-k-lt-COUNT.false
    ] in
    unless_refused_lem (refusal_at d a.k a.vertex.now) 19 _ refused (λ e. omega arith)
