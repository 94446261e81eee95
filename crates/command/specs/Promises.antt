-- What looks at the same stream promise together, proved as one each by `look_promises` (proofs/Promises) and `waiting_promises`
-- (proofs/Waiting).
use Rattle.std.specs.Prelude.{◌≡◌, List, [], ◌++◌, ℕ, ◌+◌, ◌-◌, ◌*◌, ◌<◌, ◌≤◌, length, get_or, take}
use Rattle.layout.specs.Answers.{largest_vertex}
use Rattle.command.specs.declared.Draw.{Draw}
use Rattle.command.specs.declared.Draw.TheVariants.{Closed, Open}
use Rattle.command.specs.Command.{Found, unit, waiting}
use Rattle.command.specs.Look.{xf_words, vertex_bytes, look_of}
use Rattle.command.specs.Prefix.{Settled, NoUnit, stage_of, HeadRead}

-- the answer at all bytes of a list
abbrev pub look_all : List ℕ → List ℕ → Draw → Found
look_all p cp draw = look_of p (length p) cp draw

pub record LookPromises : Type 0 where
  -- "Answers other than waiting don't change when more bytes are fed."
  pub prefix : (p q cp : List ℕ) (draw : Draw) → Settled (look_all p cp draw) → look_all p cp draw ≡ look_all (p ++ q) cp draw
  -- a unit is recognised from its own bytes alone
  pub alone : (p cp : List ℕ) (draw : Draw) (c : List ℕ) (m l : ℕ) → look_all p cp draw ≡ unit c m l
      → look_of (take l p) l cp draw ≡ unit c m l
  -- "A full ring is never answered with waiting": with 129 bytes or more no answer is
  pub progress : (b : List ℕ) (n : ℕ) → largest_vertex ≤ n → (cp : List ℕ) (draw : Draw) (k : ℕ) → look_of b n cp draw ≡ waiting k → ⊥

-- Document 02, L4: "Let waiting carry the number of bytes lacking for the unit". Of answers that wait: for how many bytes, and what comes
-- after them.
pub record WaitingPromises : Type 0 where
  -- "one for an empty ring with no draw open"
  pub opcode : (cp : List ℕ) → look_all [] cp Closed ≡ waiting 1
  -- "then the rest of the unit": whatever unit these bytes turn out to begin, it has just so many more
  pub rest : (p q cp : List ℕ) (draw : Draw) (k : ℕ) → look_all p cp draw ≡ waiting k → stage_of draw p ≡ 3
      → (c : List ℕ) (m l : ℕ) → look_all (p ++ q) cp draw ≡ unit c m l → l ≡ length p + k
  -- "for an XF load first of its five-byte head"
  pub head : (p cp : List ℕ) → stage_of Closed p ≡ 2 → look_all p cp Closed ≡ waiting (5 - length p)
  -- at just these five bytes the answer is 8, or waiting for all of the words
  pub head_read : (p cp : List ℕ) → get_or p 0 0 ≡ 0x10 → length p ≡ 5 → HeadRead p (look_all p cp Closed)
  -- "then of its words"
  pub words : (p cp : List ℕ) (k : ℕ) → get_or p 0 0 ≡ 0x10 → 5 ≤ length p → look_all p cp Closed ≡ waiting k
      → length p + k ≡ 5 + 4 * xf_words p
  -- "in an open draw, the rest of the vertex"
  pub vertex : (p cp : List ℕ) (primitive format left k : ℕ) → look_all p cp (Open primitive format left) ≡ waiting k
      → length p + k ≡ vertex_bytes cp format
  -- "It is at least 1"; and with what is there at most 129
  pub bounds : (p cp : List ℕ) (draw : Draw) (k : ℕ) → look_all p cp draw ≡ waiting k → (1 ≤ k) × (length p + k ≤ largest_vertex)
  -- with fewer bytes more than are lacking the answer is never a unit
  pub fewer : (p q cp : List ℕ) (draw : Draw) (k : ℕ) → look_all p cp draw ≡ waiting k → length q < k → NoUnit (look_all (p ++ q) cp draw)
  -- with just that many it is a unit or a refusal, or it waits again, for a later one of these: 1 the opcode, 2 the rest of an XF load's
  -- head, 3 the rest of the unit
  pub next : (p q cp : List ℕ) (draw : Draw) (k j : ℕ) → look_all p cp draw ≡ waiting k → length q ≡ k
      → look_all (p ++ q) cp draw ≡ waiting j
      → stage_of draw p < stage_of draw (p ++ q)
  -- with just the rest of the unit it is a unit or a refusal
  pub last : (p q cp : List ℕ) (draw : Draw) (k : ℕ) → look_all p cp draw ≡ waiting k → length q ≡ k → stage_of draw p ≡ 3
      → Settled (look_all (p ++ q) cp draw)
