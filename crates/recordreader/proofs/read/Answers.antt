-- `recordreader::read` meets its contract: nothing is loaded before the search and the test of the rest are over.
use Rattle.recording.specs.Faults.{stream_limit}
use Rattle.recording.proofs.Sound.{long}
use Rattle.recordreader.proofs.Outcomes.{file_read}
use Rattle.recordreader.proofs.read.Goals as goal

pub overflow_sub-file : goal.overflow_sub-file
overflow_sub-file c = long stream_limit _ c.in_ok-length.ensures.1.0

pub returns : goal.returns
returns c =
    let head = c.in_ok-length.ensures in
    let loaded = c.load-registers.ensures in
    file_read _ _ _ head.0 head.1.0 head.1.1 c.in_ok-check_rest.ensures _ _ loaded.0 loaded.1
