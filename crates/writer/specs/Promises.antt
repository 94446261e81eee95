-- What the writer and the reader promise together, proved as one by `writer_promises` (proofs/Promises).
use Rattle.std.specs.Prelude.{◌≡◌, List, ℕ, length, take}
use Rattle.octets.specs.BigEndian.{Octets, WordsFit}
use Rattle.layout.specs.Answers.{refusal_of}
use Rattle.command.specs.declared.Command.{Command}
use Rattle.command.specs.declared.Draw.TheVariants.{Closed}
use Rattle.command.specs.Command.{unit, kind_of, field_of, numbers_of, load_xf}
use Rattle.command.specs.Look.{xf_count, descriptor_of, look_of}
use Rattle.writer.specs.Widths.{Typed}
use Rattle.writer.specs.Back.{Writable, LooksBack, LoadsBack}
use Rattle.writer.specs.Again.{Rewrites}

pub record WriterPromises : Type 0 where
  -- "Stepping a written command .. gives it back, for a draw head unless 9 or 10": as far as the look
  pub looks_back : (command : Command) (words rest cp : List ℕ) → Typed command → Writable (numbers_of command) words
      → (kind_of (numbers_of command) ≡ 0x80 → refusal_of (descriptor_of cp (field_of (numbers_of command) 2)) ≡ 0)
      → LooksBack command words rest cp
  -- and the words of an XF load
  pub loads_back : (w address : ℕ) (words xf : List ℕ) → Writable (load_xf w address) words → WordsFit words → length xf ≡ xf_count
      → LoadsBack (load_xf w address) words xf
  -- "Writing a command read from the stream gives its bytes back, save that an XF length is written below 16."
  pub rewrites : (p xf cp : List ℕ) → Octets p → length xf ≡ xf_count → (c : List ℕ) (m l : ℕ)
      → look_of p (length p) cp Closed ≡ unit c m l → Rewrites (take l p) xf c
