-- `recordwriter::write` meets its contract: the head, and the stream behind it; a refusal leaves the output.
use native.Mathlib.Omega.{arith}
use Rattle.recording.proofs.Sizes.{file_length}
use Rattle.recording.proofs.Content.{passes}
use Rattle.recordwriter.proofs.Putting.{stream_put}
use Rattle.recordwriter.proofs.Outcomes.{all_written, write_accepted}
use Rattle.recordwriter.proofs.write.Goals as goal

pub overflow_cast-result : goal.overflow_cast-result
overflow_cast-result c = omega (arith, (passes _ _ _ _ _ c.in_ok-write.ensures.0).short)

pub returns : goal.returns
returns c =
    let e = c.in_ok-write.ensures in
    let room = e.1.0 in
    all_written _ _ _ _ _ (write_accepted _ _ _ _ _ e.0 room) (file_length _ _ _ _ e.1.1.size)
    (stream_put _ _ _ _ _ _ _ e.1.1 (omega (arith, room)) c.copy_from_slice.ensures.after)
