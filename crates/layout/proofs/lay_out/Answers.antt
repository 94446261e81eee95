-- Where nothing is refused the length is the sum of all attributes.
use mathlib.Core.Path.{◌≡◌, sym, ◌∙◌}
use Rattle.layout.specs.Answers.{refusal_of}
use Rattle.layout.proofs.Bounds.{length_accepted}
use Rattle.layout.proofs.lay_out.Goals as goal

pub returns : goal.returns
returns c =
    let e = rw (c.in_ok-check.was, c.of-weights.ensures) at c.check.ensures in
    let none : refusal_of c.args.d ≡ 0 = cc in
    let laid = rw c.of-weights.ensures at c.lay_out.ensures in
    record {
      answer_is = e;
      layout_is = record {
        length_is = laid.length_is ∙ sym (length_accepted c.args.d none);
        sizes_is = laid.sizes_is;
        offsets_is = laid.offsets_is;
      };
    }
