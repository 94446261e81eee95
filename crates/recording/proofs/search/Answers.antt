-- `recording::search` meets its contract: behind the CP registers nothing but the stream's count can be at fault, as far as the file goes.
use mathlib.Core.Path.{◌≡◌, sym, ◌∙◌}
use Prim.Native.Nat.{ℕ, ◌-◌}
use native.Mathlib.Omega.{arith}
use Rattle.recording.specs.Format.{xf_from, stream_count_at}
use Rattle.recording.specs.Faults.{stream_limit}
use Rattle.recording.proofs.Finding.{found_first, found_words, found_cut_word, part_told}
use Rattle.recording.proofs.search.Goals as goal

-- the XF words
abbrev words : ℕ
words = stream_count_at - xf_from

pub returns-in-Some : goal.returns-in-Some
returns-in-Some c = c.in-Some.ensures ∙ sym (found_first stream_limit c.args.file.now)

pub returns-then-file : goal.returns-then-file
returns-then-file c =
    let file = c.args.file.now in
    let part = c.in_default.ensures in
    sym (found_first stream_limit file ∙ part.0
    ∙ found_cut_word stream_limit file words xf_from (omega arith) (omega arith) part.1 c.if-file.true)

pub returns : goal.returns
returns c =
    let file = c.args.file.now in
    let part = c.in_default.ensures in
    part_told file stream_count_at _ c.search_part-2.ensures
    ∙ sym (found_first stream_limit file ∙ part.0
    ∙ found_words stream_limit file words xf_from (omega arith) (omega arith) c.if-file.false)
