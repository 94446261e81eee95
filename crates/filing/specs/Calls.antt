-- What the calls on recordings answer and leave, for any longest stream. Where they are refused, what was lent is what it was.
use Rattle.std.specs.Prelude.{◌≡◌, cond, List, [], ◌∷◌, ℕ, eqb, length}
use Rattle.command.specs.declared.Draw.TheVariants.{Closed}
use Rattle.words.specs.State.{fifo_of, cp_of, bp_of, words_by}
use Rattle.answers.specs.Counting.{PutsBytes}
use Rattle.recording.specs.Format.{recording_of, head_bytes, file_bytes, stream_count_at, stream_at, file_number, content_of}
use Rattle.recording.specs.Answers.{head_refusal, read_refusal, record_refusal, head_record_refusal}

-- the registers of a file in the state's words, with no draw open: the window and the control word stay, "pointers as the caller sets them"
abbrev pub words_in : List ℕ → List ℕ → List ℕ
words_in words file = words_by (fifo_of words) (content_of file).cp (content_of file).bp Closed

-- registers and XF words loaded, unless this refuses it
pub record LoadsInto (refusal : ℕ) (words file xf : List ℕ) (r : ℕ) (words' xf' : List ℕ) : Type 0 where
  pub answer_is : r ≡ refusal
  pub state_is : words' ≡ cond (eqb r 0) (words_in words file) words
  pub xf_is : xf' ≡ cond (eqb r 0) (content_of file).xf xf

-- a whole file read: where its stream stands, and how long it is
pub record LoadsFile (limit : ℕ) (words file xf stream : List ℕ) (r : ℕ) (words' xf' stream' : List ℕ) : Type 0 where
  pub loads : LoadsInto (read_refusal limit file (length xf)) words file xf r words' xf'
  pub stream_is : stream' ≡ cond (eqb r 0) (stream_at ∷ length (content_of file).stream ∷ []) stream

-- a head read: how long its stream is
pub record LoadsHead (limit : ℕ) (words file xf : List ℕ) (told r : ℕ) (words' xf' : List ℕ) (told' : ℕ) : Type 0 where
  pub loads : LoadsInto (head_refusal limit file (length xf)) words file xf r words' xf'
  pub told_is : told' ≡ cond (eqb r 0) (file_number file stream_count_at) told

-- a whole file written, of the registers that the state's words hold
abbrev pub PutsFile : ℕ → List ℕ → List ℕ → List ℕ → List ℕ → ℕ → ℕ → List ℕ → ℕ → Type 0
PutsFile limit words xf stream out count r out' count' =
    PutsBytes (record_refusal limit (cp_of words) (bp_of words) (length xf) (length stream) (length out))
    (file_bytes (recording_of (cp_of words) (bp_of words) xf stream)) out count r out' count'

-- a head written, for a stream of n bytes
abbrev pub PutsHead : ℕ → List ℕ → List ℕ → ℕ → List ℕ → ℕ → ℕ → List ℕ → ℕ → Type 0
PutsHead limit words xf n out count r out' count' =
    PutsBytes (head_record_refusal limit (cp_of words) (bp_of words) (length xf) n (length out))
    (head_bytes (cp_of words) (bp_of words) xf n) out count r out' count'
