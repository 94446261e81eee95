-- Its place, then the count and the words that start there.
use mathlib.Core.Path.{◌≡◌}
use mathlib.Core.List.{[], ◌∷◌}
use borrow.Author.Rules.{rules}
use Rattle.std.specs.Prelude.{Err}
use Rattle.layout.specs.Sizes.{offset_of}
use Rattle.vertex.specs.Attributes.{singles_of, words_of}
use Rattle.vertex.specs.Answers.{refusal_at}
use Rattle.vertex.proofs.Refusals.{unless_accepted, place_refused, place_found}
use Rattle.vertex.proofs.raw_words.Goals as goal

pub returns-in_err-at : goal.returns-in_err-at
returns-in_err-at c =
    let a = c.args in
    let d = a.descriptor in
    let l = a.vertex.now in
    let reason = c.in_err-at.field-0.0 in
    let e : c.from_residual.result ≡ Err reason = search rules in
    record {
      answer_is = rw e (place_refused (refusal_at d a.k l) (offset_of d a.k ∷ [])
          (singles_of d a.k ∷ words_of l (offset_of d a.k) (singles_of d a.k)) reason c.in_err-at.ensures);
    }

pub returns : goal.returns
returns c =
    let a = c.args in
    let d = a.descriptor in
    let l = a.vertex.now in
    let found = place_found (refusal_at d a.k l) (offset_of d a.k) c.in_ok-at.at c.in_ok-at.ensures in
    record {
      answer_is =
          rw (c.gather.ensures, c.count-count.ensures, found.1)
          (unless_accepted (refusal_at d a.k l) (singles_of d a.k ∷ words_of l (offset_of d a.k) (singles_of d a.k)) found.0);
    }
