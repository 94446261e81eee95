-- `recording::search_part` meets its contract: the search from a number on is the search of the part as long as nothing was found.
use mathlib.Core.Path.{◌≡◌, sym, ap, ◌∙◌}
use native.Mathlib.Omega.{arith}
use Rattle.refusal.specs.Number.{number}
use Rattle.recording.specs.Format.{file_number}
use Rattle.recording.specs.Faults.{stream_limit, number_fault}
use Rattle.recording.proofs.Finding.{found_next, found_here, found_cut}
use Rattle.recording.proofs.search_part.Goals as goal

pub loop-k-preserved : goal.loop-k-preserved
loop-k-preserved c =
    let file = c.args.file.now in
    let sound : number_fault stream_limit c.loop-k.k (file_number file c.loop-k.k) ≡ 0 =
    ap (number_fault stream_limit c.loop-k.k) (sym c.word_at.ensures) ∙ sym c.in_default.ensures in (
      c.loop-k.invariant.0
          ∙ found_next stream_limit file c.loop-k.k (omega (arith, c.loop-k-test.true, c.requires.inside)) c.if-file-place.false sound,
      omega (arith, c.if-file-place.false),
    )

pub returns-then-file-place : goal.returns-then-file-place
returns-then-file-place c =
    let file = c.args.file.now in
    sym (c.loop-k.invariant.0
    ∙ found_cut stream_limit file c.loop-k.k (omega (arith, c.loop-k-test.true, c.requires.inside)) c.if-file-place.true)

pub returns-in-Err : goal.returns-in-Err
returns-in-Err c =
    let file = c.args.file.now in
    let is : number c.in-Err.reason ≡ number_fault stream_limit c.loop-k.k (file_number file c.loop-k.k) =
    c.in-Err.ensures ∙ ap (number_fault stream_limit c.loop-k.k) c.word_at.ensures in
    sym (c.loop-k.invariant.0
    ∙ found_here stream_limit file c.loop-k.k (omega (arith, c.loop-k-test.true, c.requires.inside)) c.if-file-place.false
    c.in-Err.reason is)
