-- Its place, then what stands there: that fixes the numbers of the answer, and they give the rest of the promise.
use mathlib.Core.Path.{◌≡◌, ap, ◌∙◌}
use mathlib.Core.List.{List, [], ◌∷◌}
use Prim.Native.Nat.{ℕ}
use borrow.Author.Rules.{rules}
use Rattle.std.specs.Prelude.{Err}
use Rattle.octets.proofs.Number.{Octets}
use Rattle.layout.specs.Sizes.{offset_of}
use Rattle.vertex.specs.Attributes.{attribute_list}
use Rattle.vertex.specs.Answers.{refusal_at}
use Rattle.vertex.proofs.Refusals.{unless_accepted, place_refused, place_found}
use Rattle.vertex.proofs.Promise.{decodes}
use Rattle.vertex.proofs.decode.Goals as goal

pub returns-in_err-at : goal.returns-in_err-at
returns-in_err-at c =
    let octets : Octets c.args.vertex.now = λ i. (c.type_inv.vertex i).fits in
    let a = c.args in
    let d = a.descriptor in
    let l = a.vertex.now in
    let reason = c.in_err-at.field-0.0 in
    let e : c.from_residual.result ≡ Err reason = search rules in
    decodes d a.k l _ octets
    (rw e (place_refused (refusal_at d a.k l) (offset_of d a.k ∷ []) (attribute_list d a.k l (offset_of d a.k)) reason c.in_err-at.ensures))

pub returns : goal.returns
returns c =
    let octets : Octets c.args.vertex.now = λ i. (c.type_inv.vertex i).fits in
    let a = c.args in
    let d = a.descriptor in
    let l = a.vertex.now in
    let found = place_found (refusal_at d a.k l) (offset_of d a.k) c.in_ok-at.at c.in_ok-at.ensures in
    decodes d a.k l _ octets
    (ap (λ (x : List ℕ). 0 ∷ x) c.decode_at.ensures
    ∙ ap (λ (x : ℕ). 0 ∷ attribute_list d a.k l x) found.1
    ∙ unless_accepted (refusal_at d a.k l) (attribute_list d a.k l (offset_of d a.k)) found.0)
