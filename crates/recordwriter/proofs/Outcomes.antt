-- What the writers promise, answer by answer.
use mathlib.Core.Path.{◌≡◌}
use mathlib.Core.List.{List}
use Prim.Native.Nat.{ℕ, ◌+◌, ◌≤◌}
use lib.ListN.{length}
use borrow.Author.Tests.{le-ltb}
use Rattle.std.specs.Prelude.{Ok}
use Rattle.writer.specs.Write.{placed}
use Rattle.recording.specs.Format.{stream_at}
use Rattle.recording.specs.Faults.{stream_limit}
use Rattle.recording.specs.Answers.{content_refusal, record_refusal}
use Rattle.recordwriter.specs.Writing.{WritesBytes}

module _ (bytes out : List ℕ) where
  pub all_written : (n k : ℕ) (out' : List ℕ) → n ≡ 0 → k ≡ length bytes → out' ≡ placed bytes out
      → WritesBytes n bytes out (Ok k) out'
  all_written n k out' e q o = record { answer_is = rw (e, q); out_is = rw e o }

module _ (cp bp : List ℕ) (xf stream room : ℕ) where
  abbrev of_content : ℕ
  of_content = content_refusal stream_limit cp bp xf stream

  module _ (sound : of_content ≡ 0) where
    pub write_accepted : stream_at + stream ≤ room → record_refusal stream_limit cp bp xf stream room ≡ 0
    unfolding record_refusal
    write_accepted h = rw (sound, le-ltb room (stream_at + stream) h)
