-- After i turns the array holds the words below i.
use mathlib.Core.Path.{◌≡◌}
use lib.ListN.{length, take}
use Rattle.laws.specs.Values.{up_to}
use Rattle.vertex.specs.Attributes.{word_at}
use Rattle.vertex.proofs.raw.gather.Given as goal

abbrev pub invariant-loop-i : goal.invariant-loop-i
invariant-loop-i l = (length l.words ≡ 9) × (take l.i l.words ≡ up_to (word_at l.vertex l.at l.n) l.i)
