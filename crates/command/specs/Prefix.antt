-- Kinds of answers, and what one that waits asks for: definitions for what looks at fewer and at more bytes promise (Promises).
use Rattle.std.specs.Prelude.{◌≡◌, cond, ◌&&◌, ◌⊎◌, List, [], ◌∷◌, ℕ, ◌*◌, ltb, eqb, length}
use Rattle.command.specs.declared.Draw.{Draw}
use Rattle.command.specs.declared.Draw.TheVariants.{Closed, Open}
use Rattle.command.specs.Command.{Found, unit, waiting, refused}
use Rattle.command.specs.Look.{xf_words}

-- an answer other than waiting
abbrev pub Settled : Found → Type 0
Settled x = (k : ℕ) → x ≡ waiting k → ⊥

-- an answer other than a unit
abbrev pub NoUnit : Found → Type 0
NoUnit x = (c : List ℕ) (m l : ℕ) → x ≡ unit c m l → ⊥

-- what a look that waits asks for: 1 the opcode, 2 the rest of an XF load's head, 3 the rest of the unit (document 02, L4)
abbrev pub stage_of : Draw → List ℕ → ℕ
stage_of Closed [] = 1
stage_of Closed (op ∷ p) = cond (eqb op 0x10 && ltb (length (op ∷ p)) 5) 2 3
stage_of (Open primitive format left) p = 3

-- the answer at just the five bytes of an XF load's head: 8, or waiting for all of its words
abbrev pub HeadRead : List ℕ → Found → Type 0
HeadRead b x = (x ≡ refused 8) ⊎ (x ≡ waiting (4 * xf_words b))
