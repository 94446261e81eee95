-- "Writing a command read from the stream gives its bytes back, save that an XF length is written below 16."
use Rattle.std.specs.Prelude.{◌≡◌, false, cond, List, ◌∷◌, ℕ, ◌%◌, eqb, length, get_or, take, drop}
use Rattle.command.specs.Command.{kind_of, field_of}
use Rattle.effect.specs.Effect.{xf_after}
use Rattle.writer.specs.Write.{words_of, command_bytes}
use Rattle.writable.specs.Writable.{unwritable, unaddressed, past_end}

-- the bytes of a unit with an XF length below 16
unfoldable pub lowered : List ℕ → List ℕ → List ℕ
lowered c bytes = cond (eqb (kind_of c) 0x10) (0x10 ∷ 0 ∷ get_or bytes 2 0 % 16 ∷ drop 3 bytes) bytes

-- the words that the XF memory holds at a load's address after the load
unfoldable pub held_words : List ℕ → List ℕ → List ℕ → List ℕ
held_words c bytes xf = take (words_of c) (drop (field_of c 2) (xf_after c bytes xf))

-- the writer takes the command c of the unit u, with the words that the memory holds after it, and writes the unit's bytes
pub record Rewrites (u xf c : List ℕ) : Type 0 where
  pub writable : unwritable c (length (held_words c u xf)) ≡ false
  pub addressed : unaddressed c ≡ false
  pub within : past_end c ≡ false
  pub bytes : command_bytes c (held_words c u xf) ≡ lowered c u
