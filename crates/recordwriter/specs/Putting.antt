-- For the code's own functions: bytes put over a part of an output.
use Rattle.std.specs.Prelude.{◌≡◌, cond, List, ◌++◌, ℕ, ◌≤◌, ltb, length, take, drop, Result, MatchResult}
use Rattle.refusal.specs.Number.{number, or_else}
use Rattle.refusal.specs.declared.Reason.{Reason}
use Rattle.recording.specs.Faults.{stream_limit}
use Rattle.recording.specs.Answers.{content_refusal}
use Rattle.recording.specs.Format.{head_bytes, stream_at}

-- bytes over the output from a place on; what stands before and behind them stays
abbrev pub over : List ℕ → ℕ → List ℕ → List ℕ
over out at bytes = take at out ++ (bytes ++ drop (length bytes) (drop at out))

-- a head over the front of an output
pub record HeadOver (cp bp xf : List ℕ) (n : ℕ) (out out' : List ℕ) : Type 0 where
  pub out_is : out' ≡ over out 0 (head_bytes cp bp xf n)
  pub size : length (head_bytes cp bp xf n) ≡ stream_at

-- a head over the front of an output that has room for so many bytes, or a refusal that leaves it: the content's, then 16
abbrev pub PutsHead : List ℕ → List ℕ → List ℕ → ℕ → ℕ → List ℕ → Result (Unit {0}) Reason → List ℕ → Type 0
PutsHead cp bp xf n size out r out' =
    MatchResult r
    (λ _. (content_refusal stream_limit cp bp (length xf) n ≡ 0) × ((size ≤ length out) × HeadOver cp bp xf n out out'))
    (λ reason.
    (or_else (content_refusal stream_limit cp bp (length xf) n) (cond (ltb (length out) size) 16 0) ≡ number reason) × (out' ≡ out))
